-- `first_literal`: each return has its law of LiteralLaws: no field, fixed bytes not whole, a 61, another tag.
-- `plain-ends` says that the literal of a 61 lies within the field.
use Prim.Native.Nat.{◌+◌}
use mathlib.Core.Path.{sym, ◌∙◌, refl}
use native.Mathlib.Omega.{arith}
use Rattle.tree.specs.declared.grammar.Value.TheVariants.{Literal}
use Rattle.tree.proofs.AccessLaws.{upto-in}
use Rattle.tree.proofs.WidthLaws.{plain-ends}
use Rattle.expressions.proofs.LiteralLaws.{first-none, first-short, first-61, first-rest}
use Rattle.expressions.proofs.require.first_literal.Goals as goal

pub returns-in_err-part : goal.returns-in_err-part
returns-in_err-part c =
    rw c.from_residual.ensures (first-none c.args.row c.next.new.self c.in_err-part.ensures.steps)

pub returns-in_err-fixed : goal.returns-in_err-fixed
returns-in_err-fixed c =
    let o = c.in_ok-part in
    rw c.from_residual-in_err-fixed.ensures
    (first-short c.args.row o.part c.next.new.self o.ensures.steps (sym c.fixed.ensures ∙ c.in_err-fixed.was))

pub returns-then-tag-eq97 : goal.returns-then-tag-eq97
returns-then-tag-eq97 c =
    let o = c.in_ok-part in
    let p = o.part in
    let f = sym c.fixed.ensures ∙ c.in_ok-fixed.was in
    let h = sym c.tag.ensures ∙ c.if-tag-eq97.true in
    let j = upto-in p.bytes.now _ (p.at + 3) _ p.whole.0 f in
    let k = plain-ends 0x61 Literal refl p.bytes.now _ (p.at + 3) _ _ h f in
    let b = p.whole.1 in
    first-61 c.args.row p c.next.new.self o.ensures.steps (omega arith) f h

pub returns-else-tag-eq97 : goal.returns-else-tag-eq97
returns-else-tag-eq97 c =
    let o = c.in_ok-part in
    first-rest c.args.row o.part c.next.new.self o.ensures.steps
    (sym c.fixed.ensures ∙ c.in_ok-fixed.was) (λ e. c.if-tag-eq97.false (c.tag.ensures ∙ e))
