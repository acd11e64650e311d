-- `sweep`: the invariant says that the list is that of the items in front; `lists-step` passes one item of each tree, which is listed if it is
-- an import. The loop ends where either tree does, or where the list is full. The measure is the length of `work` less at.
use Prim.Native.Nat.{◌+◌}
use mathlib.Core.Path.{refl, sym, ◌∙◌}
use native.Mathlib.Omega.{arith}
use lib.ListN.{length, set}
use Rattle.tree.proofs.AccessLaws.{extent-upto}
use Rattle.records.specs.declared.places.Import.{Import}
use Rattle.records.proofs.ListingLaws.{lists-start, lists-step}
use Rattle.records.proofs.places.sweep.Goals as goal

pub loop-count-init : goal.loop-count-init
loop-count-init c = (lists-start c.args.work.now c.args.out.now, omega arith, c.requires.0, c.requires.2, c.told-listed)

pub bounds-work-at : goal.bounds-work-at
bounds-work-at c =
    let i = extent-upto c.args.work.now c.loop-count.at (length c.args.work.now) c.loop-count.invariant.2 (sym c.extent.ensures ∙ c.in-Some.is) in omega arith

pub overflow_cast-listed-then-work-at-eq16 : goal.overflow_cast-listed-then-work-at-eq16
overflow_cast-listed-then-work-at-eq16 c =
    let j = extent-upto c.args.out.now c.loop-count.made (length c.args.out.now) c.loop-count.invariant.3 (sym c.extent-in-loop-count.ensures ∙ c.in-Some-extent.is) in
    omega arith

pub loop-count-smaller-then-work-at-eq16 : goal.loop-count-smaller-then-work-at-eq16
loop-count-smaller-then-work-at-eq16 c =
    let i = extent-upto c.args.work.now c.loop-count.at (length c.args.work.now) c.loop-count.invariant.2 (sym c.extent.ensures ∙ c.in-Some.is) in omega arith

pub loop-count-preserved-then-work-at-eq16 : goal.loop-count-preserved-then-work-at-eq16
loop-count-preserved-then-work-at-eq16 c =
    let a = c.args in
    let i = extent-upto c.args.work.now c.loop-count.at (length c.args.work.now) c.loop-count.invariant.2 (sym c.extent.ensures ∙ c.in-Some.is) in
    let j = extent-upto c.args.out.now c.loop-count.made (length c.args.out.now) c.loop-count.invariant.3 (sym c.extent-in-loop-count.ensures ∙ c.in-Some-extent.is) in
    let x : Import = record { at = c.loop-count.at; made = c.loop-count.made; next = 0 } in
    let k = lists-step a.work.now c.loop-count.at _ c.loop-count.invariant.2 (sym c.extent.ensures ∙ c.in-Some.is) a.out.now c.loop-count.made _ c.loop-count.invariant.3
    (sym c.extent-in-loop-count.ensures ∙ c.in-Some-extent.is) c.loop-count.listed (set c.loop-count.listed c.loop-count.count x) c.loop-count.count
    (c.loop-count.count + 1) c.loop-count.invariant.4 c.loop-count-test.true (omega arith) (omega arith) c.loop-count.invariant.0
    (λ _. (refl, (x, refl, refl)), λ h. absurd (h c.if-work-at-eq16.true)) in
    (k.0, omega arith, i.1, j.1, k.1)

pub loop-count-smaller : goal.loop-count-smaller
loop-count-smaller c =
    let i = extent-upto c.args.work.now c.loop-count.at (length c.args.work.now) c.loop-count.invariant.2 (sym c.extent.ensures ∙ c.in-Some.is) in omega arith

pub loop-count-preserved : goal.loop-count-preserved
loop-count-preserved c =
    let a = c.args in
    let i = extent-upto c.args.work.now c.loop-count.at (length c.args.work.now) c.loop-count.invariant.2 (sym c.extent.ensures ∙ c.in-Some.is) in
    let j = extent-upto c.args.out.now c.loop-count.made (length c.args.out.now) c.loop-count.invariant.3 (sym c.extent-in-loop-count.ensures ∙ c.in-Some-extent.is) in
    let k = lists-step a.work.now c.loop-count.at _ c.loop-count.invariant.2 (sym c.extent.ensures ∙ c.in-Some.is) a.out.now c.loop-count.made _ c.loop-count.invariant.3
    (sym c.extent-in-loop-count.ensures ∙ c.in-Some-extent.is) c.loop-count.listed c.loop-count.listed c.loop-count.count c.loop-count.count c.loop-count.invariant.4
    c.loop-count-test.true (omega arith) (omega arith) c.loop-count.invariant.0 (λ h. absurd (c.if-work-at-eq16.false h), λ _. (refl, refl)) in
    (k.0, omega arith, i.1, j.1, k.1)
