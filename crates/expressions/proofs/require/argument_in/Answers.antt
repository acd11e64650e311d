-- `argument_in`: each return has its law of LiteralLaws: no 75, fixed bytes not whole, not one byte, a spread, or the plain argument.
-- `upto-in` (the fixed bytes end within the field) gives the bounds.
use Prim.Native.Nat.{◌+◌}
use mathlib.Core.Path.{sym, ◌∙◌}
use native.Mathlib.Omega.{arith}
use Rattle.tree.proofs.AccessLaws.{upto-in}
use Rattle.tree.proofs.PartLaws.{part_tag}
use Rattle.expressions.proofs.LiteralLaws.{argument-other, argument-short, argument-wide, argument-spread, argument-plain}
use Rattle.expressions.proofs.require.argument_in.Goals.{then-from-part-via-then-from-part, then-from-part-via-else-from-part+then-part-ne0}
use Rattle.expressions.proofs.require.argument_in.Goals as goal

pub returns-then-tag-ne117 : goal.returns-then-tag-ne117
returns-then-tag-ne117 c =
    argument-other c.args.part.now (λ e. c.if-tag-ne117.true (c.tag.ensures ∙ e))

pub returns-in_err-from : goal.returns-in_err-from
returns-in_err-from c =
    rw c.from_residual.ensures (argument-short c.args.part.now (sym c.fixed.ensures ∙ c.in_err-from.was))

pub bounds-part-part : goal.bounds-part-part
bounds-part-part c =
    let p = c.args.part.now in
    let j = upto-in p.bytes.now (part_tag p) (p.at + 3) p.stop p.whole.0 (sym c.fixed.ensures ∙ c.in_ok-from.was) in
    let b = p.whole.1 in
    omega arith

pub returns-then-from-part : goal.returns-then-from-part
returns-then-from-part c =
    let p = c.args.part.now in
    let f = sym c.fixed.ensures ∙ c.in_ok-from.was in
    elim c.then-from-part.branch [
      | then-from-part-via-then-from-part w ↦ argument-wide p f w.if-from-part.true
      | then-from-part-via-else-from-part+then-part-ne0 w ↦ argument-spread p f w.if-from-part.false w.if-part-ne0.true
    ]

pub row-requires : goal.row-requires
row-requires c =
    let p = c.args.part.now in
    let j = upto-in p.bytes.now (part_tag p) (p.at + 3) p.stop p.whole.0 (sym c.fixed.ensures ∙ c.in_ok-from.was) in
    j.1

pub returns : goal.returns
returns c =
    argument-plain c.args.part.now (sym c.fixed.ensures ∙ c.in_ok-from.was) c.if-from-part.false c.first_literal.result c.row.result
    (sym c.tag.ensures ∙ c.if-tag-ne117.false) c.if-part-ne0.false c.row.ensures c.first_literal.ensures
