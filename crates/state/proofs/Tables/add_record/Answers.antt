-- `add_record`: the hint of the literal's value is set first, so the row may enter (`record-added`).
use native.Mathlib.Omega.{arith}
use mathlib.Core.Path.{ap}
use lib.ListN.{length}
use Rattle.state.specs.Cells.{records}
use Rattle.state.proofs.ChangeLaws.{record-added, entered}
use Rattle.state.proofs.Tables.add_record.Goals as goal

pub push-requires : goal.push-requires
push-requires c =
    (c.hint_record.new.self.good.lies records, let e = ap length (c.hint_record.ensures.0.same_rows records) in omega arith)

pub invariant_of-self : goal.invariant_of-self
invariant_of-self c =
    record {
      good =
          record-added c.args.self.now.good c.hint_record.new.self.good c.hint_record.ensures.0 c.requires.0 c.requires.1
          (let e = c.count_of-i.ensures.0 in let f = c.hint_record.ensures.1 in omega arith) c.push.ensures.0 c.push.ensures.1;
    }

pub returns : goal.returns
returns c =
    entered records (c.args.literal, 0) c.hint_record.new.self.good c.hint_record.ensures.0 c.push.ensures.0 c.push.ensures.1
