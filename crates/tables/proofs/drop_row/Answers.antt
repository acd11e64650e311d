-- `drop_row`: the invariant (`Closing`) says that the first k rows are the first k + 1 of the start without row i, and that no cell outside
-- these k rows has changed. A step is `closes-one`; `row-dropped` ends it.
use mathlib.Core.Path.{◌≡◌}
use Prim.Native.Nat.{◌-◌}
use native.Mathlib.Omega.{arith}
use Rattle.tables.proofs.RowLaws.{closing-starts, closes-one}
use Rattle.tables.proofs.OnlyLaws.{row-dropped}
use Rattle.tables.proofs.drop_row.Goals as goal

pub loop-k-init : goal.loop-k-init
loop-k-init c =
    closing-starts c.args.i c.args.b.base c.count_of-n.result c.args.t.now (omega arith)

pub loop-k-preserved : goal.loop-k-preserved
loop-k-preserved c =
    closes-one c.args.i c.args.b.base c.count_of-n.result c.args.t.now c.loop-k.k c.loop-k.t c.loop-k.invariant
    (omega arith) c.key_in-key.result c.value_in-value.result _ c.key_in-key.ensures c.value_in-value.ensures
    c.put_row.ensures

pub returns : goal.returns
returns c =
    let u = c.loop-k.invariant.upto in
    let e : c.loop-k.k ≡ c.count_of-n.result - 1 = omega arith in
    row-dropped c.args.b c.args.i c.count_of-n.result (c.count_of-n.result - 1) c.args.t.now c.loop-k.t
    c.requires.0 c.count_of-n.ensures.0 (omega arith) (rw e at c.loop-k.invariant)
