-- `drop_key`: the invariant (`Dropping`) says that the first `kept` rows are the first i of the start without those of the key, and that no
-- cell outside these i rows has changed, so row i is read as it was. A step is `drop-skips` or `drop-keeps`; `rows-dropped` ends it.
use mathlib.Core.Path.{◌≡◌, sym, ◌∙◌, subst}
use Prim.Native.Nat.{ℕ}
use native.Mathlib.Omega.{arith}
use Rattle.tables.proofs.RowLaws.{Dropping, drop-starts, drop-skips, drop-keeps}
use Rattle.tables.proofs.OnlyLaws.{rows-dropped}
use Rattle.tables.proofs.drop_key.Goals.{then-k-key, else-k-key}
use Rattle.tables.proofs.drop_key.Goals as goal

pub loop-i-init : goal.loop-i-init
loop-i-init c =
    drop-starts c.args.key c.args.b.base c.count_of-n.result c.args.t.now

pub loop-i-preserved : goal.loop-i-preserved
loop-i-preserved c =
    elim c.if-k-key.branch [
      | then-k-key w ↦
          rw (w.t-is, w.kept-is)
          (drop-keeps c.args.key c.args.b.base c.count_of-n.result c.args.t.now c.loop-i.i c.loop-i.kept c.loop-i.t
          c.loop-i.invariant c.loop-i-test.true c.key_in-k.result c.value_in-v.result _ c.key_in-k.ensures c.value_in-v.ensures
          w.if-k-key.true w.put_row.ensures)
      | else-k-key w ↦
          rw (w.t-is, w.kept-is)
          (drop-skips c.args.key c.args.b.base c.count_of-n.result c.args.t.now c.loop-i.i c.loop-i.kept c.loop-i.t
          c.loop-i.invariant c.loop-i-test.true (sym c.key_in-k.ensures ∙ w.if-k-key.false))
    ]

pub returns : goal.returns
returns c =
    let u = c.loop-i.invariant.upto in
    let e : c.loop-i.i ≡ c.count_of-n.result = omega arith in
    rows-dropped c.args.b c.args.key c.count_of-n.result c.loop-i.kept c.args.t.now c.loop-i.t c.requires c.count_of-n.ensures.0
    (subst (λ (i : ℕ). Dropping c.args.key c.args.b.base c.count_of-n.result c.args.t.now i c.loop-i.kept c.loop-i.t) e c.loop-i.invariant)
