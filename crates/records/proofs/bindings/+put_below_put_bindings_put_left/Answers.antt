-- `put_below`, `put_bindings`, `put_left`: the measure is the number of bytes, one more for the fields of a row than for a field.
-- The loop's invariant: with the ids of the fields from here on, those of all fields are written.
use mathlib.Core.Path.{sym, ◌∙◌}
use mathlib.Core.Logic.{inl, inr}
use native.Mathlib.Omega.{arith}
use Rattle.tree.proofs.AccessLaws.{extent-upto}
use Rattle.records.proofs.PatternLaws.{bindings-short, parts-behind, bound-ends, bindings-bound, bindings-left, bindings-below, first-none, first-more, all-none, all-more}
use Rattle.records.proofs.bindings.+put_below_put_bindings_put_left.Goals as goal

pub put_below-returns : goal.put_below-returns
put_below-returns t c =
    c.loop-part.invariant.2 _ _ (all-none c.loop-part.part-iterator c.next.new.self c.in-None.ensures.steps)

pub put_below-put_bindings-to-requires : goal.put_below-put_bindings-to-requires
put_below-put_bindings-to-requires t c =
    let r = c.loop-part.part-iterator in
    let g = c.in-Some.ensures.steps in
    let a = g.1 in
    let b = c.loop-part.invariant.0 in
    let e = c.loop-part.invariant.1 in
    let u = extent-upto r.bytes.now r.at r.end r.inside.0 g.0 in
    omega arith

pub put_below-loop-part-preserved : goal.put_below-loop-part-preserved
put_below-loop-part-preserved t c =
    let i = c.loop-part.invariant in
    let p = c.in-Some.part in
    let g = c.in-Some.ensures.steps in
    let w = p.whole.0 in
    let b = i.0 in (
      omega arith,
      g.4 ∙ i.1,
      λ q l w. i.2 q l (all-more c.loop-part.part-iterator p c.next.new.self g c.put_bindings-to.ensures w),
      c.put_bindings-to.ensures.size ∙ i.3,
    )

pub put_bindings-returns-in_default : goal.put_bindings-returns-in_default
put_bindings-returns-in_default t c = bindings-short c.args.pattern (sym c.fixed.ensures ∙ c.in_default.is)

pub put_bindings-id_at-requires : goal.put_bindings-id_at-requires
put_bindings-id_at-requires t c =
    let p = c.args.pattern in
    let e = sym c.fixed.ensures ∙ c.in-Some.is in
    let j = parts-behind p _ e in
    let b = p.whole.1 in
    let k = bound-ends p _ e (rw c.tag.ensures at c.in-80.is) in omega arith

pub put_bindings-row-requires : goal.put_bindings-row-requires
put_bindings-row-requires t c = (parts-behind c.args.pattern _ (sym c.fixed.ensures ∙ c.in-Some.is)).1

pub put_bindings-row-requires-in_default-tag : goal.put_bindings-row-requires-in_default-tag
put_bindings-row-requires-in_default-tag t c = (parts-behind c.args.pattern _ (sym c.fixed.ensures ∙ c.in-Some.is)).1

pub put_bindings-put_left-requires : goal.put_bindings-put_left-requires
put_bindings-put_left-requires t c =
    let j = parts-behind c.args.pattern _ (sym c.fixed.ensures ∙ c.in-Some.is) in
    let m = c.row.ensures in omega arith

pub put_bindings-put_below-requires : goal.put_bindings-put_below-requires
put_bindings-put_below-requires t c =
    let j = parts-behind c.args.pattern _ (sym c.fixed.ensures ∙ c.in-Some.is) in
    let m = c.row-in_default-tag.ensures in omega arith

pub put_bindings-returns-in-80 : goal.put_bindings-returns-in-80
put_bindings-returns-in-80 t c =
    bindings-bound c.args.pattern _ (sym c.fixed.ensures ∙ c.in-Some.is) (rw c.tag.ensures at c.in-80.is) c.id_at.ensures c.put_named.ensures

pub put_bindings-returns-in-85 : goal.put_bindings-returns-in-85
put_bindings-returns-in-85 t c =
    bindings-left c.args.pattern _ (sym c.fixed.ensures ∙ c.in-Some.is) c.row.result c.row.ensures (sym c.tag.ensures ∙ c.in-85.is) c.put_left.ensures

pub put_bindings-returns-in_default-tag : goal.put_bindings-returns-in_default-tag
put_bindings-returns-in_default-tag t c =
    let n = c.in_default-tag.in_default-tag-own.rest in
    bindings-below c.args.pattern _ (sym c.fixed.ensures ∙ c.in-Some.is) c.row-in_default-tag.result c.row-in_default-tag.ensures (λ e. n.0.1 (inl (c.tag.ensures ∙ e)))
    (λ e. n.0.1 (inr (c.tag.ensures ∙ e))) (λ e. n.1 (c.tag.ensures ∙ e)) c.put_below.ensures

pub put_left-put_bindings-requires : goal.put_left-put_bindings-requires
put_left-put_bindings-requires t c =
    let r = c.args.row in
    let g = c.in-Some.ensures.steps in
    let a = g.1 in
    let u = extent-upto r.bytes.now r.at r.end r.inside.0 g.0 in omega arith

pub put_left-returns-in-Some : goal.put_left-returns-in-Some
put_left-returns-in-Some t c = first-more c.args.row c.in-Some.left c.next.new.self c.in-Some.ensures.steps c.put_bindings.ensures

pub put_left-returns-in-None : goal.put_left-returns-in-None
put_left-returns-in-None t c = first-none c.args.row c.next.new.self c.in-None.ensures.steps
