-- `use_property`: by the member's tag; the contract's premise, that it is a 70 or a 72, rules out the two ways that pass it over.
-- For a 70 `property-made` and `property-full` say that the rule is `add_usage` with the name in the export context.
use Rattle.std.proofs.Common.{rules}
use Prim.Native.Nat.{◌+◌}
use mathlib.Core.Path.{sym, ◌∙◌, refl}
use native.Mathlib.Omega.{arith}
use Rattle.tree.specs.declared.grammar.Value.TheVariants.{Atom}
use Rattle.tree.proofs.AccessLaws.{upto-in}
use Rattle.tree.proofs.WidthLaws.{plain-ends}
use Rattle.tree.proofs.PartLaws.{part_tag}
use Rattle.expressions.proofs.PropertyLaws.{property-short, property-private, property-other, property-asked}
use Rattle.expressions.proofs.usages.use_property.Goals as goal

pub returns-in_default : goal.returns-in_default
returns-in_default c =
    property-short c.args.member.now c.args.at c.args.id c.args.n (sym c.fixed.ensures ∙ c.in_default.is)

pub returns-then-tag-eq114 : goal.returns-then-tag-eq114
returns-then-tag-eq114 c =
    property-private c.args.member.now c.args.at c.args.id c.args.n (sym c.fixed.ensures ∙ c.in-Some.is) (sym c.tag.ensures ∙ c.if-tag-eq114.true)

pub returns-then-tag-ne112 : goal.returns-then-tag-ne112
returns-then-tag-ne112 c =
    property-other c.args.member.now c.args.at c.args.id c.args.n (sym c.fixed.ensures ∙ c.in-Some.is)
    (λ e. c.if-tag-eq114.false (c.tag.ensures ∙ e)) (λ e. c.if-tag-ne112.true (c.tag-2.ensures ∙ e))

pub atom_at-requires : goal.atom_at-requires
atom_at-requires c =
    let q = c.args.member.now in
    let f = sym c.fixed.ensures ∙ c.in-Some.is in
    let j = upto-in q.bytes.now (part_tag q) (q.at + 3) q.stop q.whole.0 f in
    let k = plain-ends 0x70 Atom refl q.bytes.now (part_tag q) (q.at + 3) q.stop _ (sym c.tag-2.ensures ∙ c.if-tag-ne112.false) f in
    let b = q.whole.1 in
    omega arith

pub returns : goal.returns
returns c =
    let q = c.args.member.now in
    let f = sym c.fixed.ensures ∙ c.in-Some.is in
    let h = sym c.tag-2.ensures ∙ c.if-tag-ne112.false in
    let j = upto-in q.bytes.now (part_tag q) (q.at + 3) q.stop q.whole.0 f in
    let k = plain-ends 0x70 Atom refl q.bytes.now (part_tag q) (q.at + 3) q.stop _ h f in
    let b = q.whole.1 in
    property-asked q c.args.at c.args.id c.args.n f (omega arith) h
    c.atom_at.ensures c.export_ctxt.ensures c.add_usage.ensures (search rules) (search rules)
