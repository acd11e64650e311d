-- `set_mark`: a number that was not given (`marked-none`), a module that has the mark (`mark-there`), or its bit added (`mark-set`): no other
-- bit changes, and marks stay below 16.
use native.Mathlib.Omega.{arith}
use Rattle.state.proofs.ModulesLaws.{marked-none, mark-there, mark-set, mark-good}
use Rattle.state.proofs.Tables.set_mark.Goals as goal

pub returns-then-count_of-i : goal.returns-then-count_of-i
returns-then-count_of-i c =
    marked-none c.args.kind c.args.id.0 c.args.self.now.good (omega arith)

pub invariant_of-self : goal.invariant_of-self
invariant_of-self c =
    record {
      good =
          mark-good c.args.kind c.args.id.0 c.args.self.now.good (omega arith) c.bit_of-bit.ensures c.value_of-marks.ensures c.if-marks-bit-eq0.true
          c.set_value.ensures.0 c.set_value.ensures.1;
    }

pub returns-then-marks-bit-eq0 : goal.returns-then-marks-bit-eq0
returns-then-marks-bit-eq0 c =
    mark-set c.args.kind c.args.id.0 c.args.self.now.good (omega arith) c.bit_of-bit.ensures c.value_of-marks.ensures c.if-marks-bit-eq0.true c.set_value.ensures.0
    c.set_value.ensures.1

pub returns-else-marks-bit-eq0 : goal.returns-else-marks-bit-eq0
returns-else-marks-bit-eq0 c =
    mark-there c.args.kind c.args.id.0 c.args.self.now.good (omega arith) c.bit_of-bit.ensures c.value_of-marks.ensures c.if-marks-bit-eq0.false
