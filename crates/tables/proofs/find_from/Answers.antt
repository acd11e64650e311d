-- `find_from`: the invariant says that what is found from row i on is what is found from row 0 on (`found-begin`). A key below lo or above hi is passed
-- (`found-low`, `found-high`), one between is the first (`found-here`), and behind the last row there is none (`found-end`).
use mathlib.Core.Path.{sym, ◌∙◌}
use Rattle.tables.proofs.RowLaws.{found-start, found-begin, found-low, found-high, found-here, found-end}
use native.Mathlib.Omega.{arith}
use Rattle.tables.proofs.find_from.Goals.{else-lo-k-via-then-lo-k+else-k-hi, else-lo-k-via-else-lo-k}
use Rattle.tables.proofs.find_from.Goals as goal

pub loop-i-init : goal.loop-i-init
loop-i-init c =
    found-begin _ _ _ c.args.b _ _ c.count_of-n.ensures.0 c.requires.1

pub returns-then-k-hi : goal.returns-then-k-hi
returns-then-k-hi c =
    sym (found-start c.args.lo c.args.hi c.args.b c.count_of-n.result c.args.t.now c.count_of-n.ensures.0 ∙ c.loop-i.invariant
    ∙ found-here c.args.lo c.args.hi c.count_of-n.result c.loop-i.i c.args.b.base c.args.t.now c.loop-i-test.true (omega arith) (omega arith))

pub loop-i-preserved : goal.loop-i-preserved
loop-i-preserved c =
    c.loop-i.invariant
    ∙ elim c.else-lo-k.branch [
      | else-lo-k-via-then-lo-k+else-k-hi w ↦
          found-high c.args.lo c.args.hi c.count_of-n.result c.loop-i.i c.args.b.base c.args.t.now c.loop-i-test.true (omega arith) (omega arith)
      | else-lo-k-via-else-lo-k w ↦
          found-low c.args.lo c.args.hi c.count_of-n.result c.loop-i.i c.args.b.base c.args.t.now c.loop-i-test.true (omega arith)
    ]

pub returns : goal.returns
returns c =
    sym (found-start c.args.lo c.args.hi c.args.b c.count_of-n.result c.args.t.now c.count_of-n.ensures.0 ∙ c.loop-i.invariant
    ∙ found-end c.args.lo c.args.hi c.count_of-n.result c.loop-i.i c.args.b.base c.args.t.now (omega arith))
