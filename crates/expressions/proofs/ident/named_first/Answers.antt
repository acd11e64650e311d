-- `named_first`: each return has its law of AfterLaws: no field, fixed bytes not whole, a 70, another tag.
-- `plain-ends` says that the atom of a 70 lies within the field; so the read is in bounds.
use Prim.Native.Nat.{◌+◌}
use mathlib.Core.Path.{refl, sym, ◌∙◌}
use native.Mathlib.Omega.{arith}
use Rattle.tree.specs.Layout.{four}
use Rattle.tree.specs.declared.grammar.Value.TheVariants.{Atom}
use Rattle.tree.proofs.AccessLaws.{upto-in}
use Rattle.tree.proofs.WidthLaws.{plain-ends}
use Rattle.expressions.proofs.AfterLaws.{named-none, named-short, named-70, named-rest}
use Rattle.expressions.proofs.ident.named_first.Goals as goal

pub returns-in_err-part : goal.returns-in_err-part
returns-in_err-part c =
    rw c.from_residual.ensures (named-none c.args.row c.next.new.self (four c.args.c.0) c.in_err-part.ensures.steps)

pub returns-in_err-fixed : goal.returns-in_err-fixed
returns-in_err-fixed c =
    let o = c.in_ok-part in
    rw c.from_residual-in_err-fixed.ensures
    (named-short c.args.row o.part c.next.new.self (four c.args.c.0) o.ensures.steps (sym c.fixed.ensures ∙ c.in_err-fixed.was))

pub atom_at-requires : goal.atom_at-requires
atom_at-requires c =
    let p = c.in_ok-part.part in
    let f = sym c.fixed.ensures ∙ c.in_ok-fixed.was in
    let j = upto-in p.bytes.now _ (p.at + 3) _ p.whole.0 f in
    let k = plain-ends 0x70 Atom refl p.bytes.now _ (p.at + 3) _ _ (sym c.tag.ensures ∙ c.if-tag-eq112.true) f in
    let b = p.whole.1 in
    omega arith

pub returns-then-tag-eq112 : goal.returns-then-tag-eq112
returns-then-tag-eq112 c =
    let o = c.in_ok-part in
    let p = o.part in
    let f = sym c.fixed.ensures ∙ c.in_ok-fixed.was in
    let h = sym c.tag.ensures ∙ c.if-tag-eq112.true in
    let j = upto-in p.bytes.now _ (p.at + 3) _ p.whole.0 f in
    let k = plain-ends 0x70 Atom refl p.bytes.now _ (p.at + 3) _ _ h f in
    let b = p.whole.1 in
    named-70 c.args.row p c.next.new.self (four c.args.c.0) o.ensures.steps (omega arith) f h c.atom_at.ensures

pub returns-else-tag-eq112 : goal.returns-else-tag-eq112
returns-else-tag-eq112 c =
    let o = c.in_ok-part in
    named-rest c.args.row o.part c.next.new.self (four c.args.c.0) o.ensures.steps
    (sym c.fixed.ensures ∙ c.in_ok-fixed.was) (λ e. c.if-tag-eq112.false (c.tag.ensures ∙ e))
