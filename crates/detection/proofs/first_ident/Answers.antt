-- `first_ident`: no whole field (`first-none`), fixed bytes short (`first-short`), a 60 (`first-named`), another tag (`first-other`).
-- The atom of a 60 may be read since its fixed bytes are six (`plain-ends`).
use Rattle.std.specs.Prelude.{Some}
use Prim.Native.Nat.{ℕ, ◌+◌}
use mathlib.Core.Path.{refl, sym, ap, ◌∙◌}
use native.Mathlib.Omega.{arith}
use Rattle.scope.specs.Id.{atom}
use Rattle.tree.specs.declared.grammar.Value.TheVariants.{Id}
use Rattle.tree.proofs.AccessLaws.{upto-in}
use Rattle.tree.proofs.WidthLaws.{plain-ends}
use Rattle.detection.proofs.DetectionLaws.{first-none, first-short, first-named, first-other}
use Rattle.detection.proofs.first_ident.Goals as goal

pub returns-in_err-part : goal.returns-in_err-part
returns-in_err-part c =
    c.from_residual.ensures ∙ sym (first-none c.args.row c.next.new.self c.in_err-part.ensures.steps)

pub returns-in_err-fixed : goal.returns-in_err-fixed
returns-in_err-fixed c =
    let p = c.in_ok-part in
    c.from_residual-in_err-fixed.ensures ∙ sym (first-short c.args.row p.part c.next.new.self p.ensures.steps (sym c.fixed.ensures ∙ c.in_err-fixed.was))

pub atom_at-requires : goal.atom_at-requires
atom_at-requires c =
    let p = c.in_ok-part.part in
    let f = sym c.fixed.ensures ∙ c.in_ok-fixed.was in
    let j = upto-in p.bytes.now _ (p.at + 3) _ p.whole.0 f in
    let k = plain-ends 0x60 Id refl p.bytes.now _ (p.at + 3) _ _ (sym c.tag.ensures ∙ c.if-tag-eq96.true) f in
    let b = p.whole.1 in
    omega arith

pub returns-then-tag-eq96 : goal.returns-then-tag-eq96
returns-then-tag-eq96 c =
    let p = c.in_ok-part in
    ap (λ (n : ℕ). Some (atom n)) c.atom_at.ensures
    ∙ sym (first-named c.args.row p.part c.next.new.self p.ensures.steps (sym c.fixed.ensures ∙ c.in_ok-fixed.was) (sym c.tag.ensures ∙ c.if-tag-eq96.true))

pub returns-else-tag-eq96 : goal.returns-else-tag-eq96
returns-else-tag-eq96 c =
    let p = c.in_ok-part in
    sym (first-other c.args.row p.part c.next.new.self p.ensures.steps (sym c.fixed.ensures ∙ c.in_ok-fixed.was) (λ e. c.if-tag-eq96.false (c.tag.ensures ∙ e)))
