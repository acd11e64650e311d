-- `least_value`: the loop goes down; the invariant says that `best` is the least value of the key among the rows from i on.
-- The row before them is joined by `least-here` where it has the key, by `least-other` where not.
use mathlib.Core.Path.{sym, ap, ◌∙◌}
use Prim.Native.Nat.{ℕ, ◌-◌}
use native.Mathlib.Omega.{arith}
use Rattle.tables.specs.Rows.{lesser}
use Rattle.tables.proofs.RowLaws.{least-start, least-here, least-other, least-end, back}
use Rattle.tables.proofs.least_value.Goals as goal

pub loop-i-init : goal.loop-i-init
loop-i-init c =
    (sym (least-start c.args.key c.count_of-i.result c.args.b.base c.args.t.now), omega arith)

pub loop-i-preserved-then-key_in-key : goal.loop-i-preserved-then-key_in-key
loop-i-preserved-then-key_in-key c =
    let rest = c.loop-i.invariant.0 ∙ back c.args.key c.count_of-i.result c.loop-i.i c.args.b.base c.args.t.now c.loop-i-test.true in
    let here = least-here c.args.key c.count_of-i.result (c.loop-i.i - 1) c.args.b.base c.args.t.now (omega arith)
    (sym c.key_in.ensures ∙ c.if-key_in-key.true) in
    (c.lesser_of-best.ensures ∙ ap (λ (v : ℕ). lesser v c.loop-i.best) c.value_in.ensures ∙ ap (lesser _) rest ∙ sym here, omega arith)

pub loop-i-preserved : goal.loop-i-preserved
loop-i-preserved c =
    let rest = c.loop-i.invariant.0 ∙ back c.args.key c.count_of-i.result c.loop-i.i c.args.b.base c.args.t.now c.loop-i-test.true in
    let other = least-other c.args.key c.count_of-i.result (c.loop-i.i - 1) c.args.b.base c.args.t.now (omega arith)
    (λ e. c.if-key_in-key.false (c.key_in.ensures ∙ e)) in
    (rest ∙ sym other, omega arith)

pub returns : goal.returns
returns c =
    c.loop-i.invariant.0 ∙ least-end c.args.key c.count_of-i.result c.loop-i.i c.args.b c.args.t.now
    (omega arith) c.count_of-i.ensures.0
