-- `ident_after`, `property_after`: the measures are stop - at and end - at + 1; `upto-in` and `extent-upto` make them fall.
-- Each return has its law of AfterLaws: the id that the rule gives for a field with these bytes.
use Prim.Native.Nat.{◌+◌}
use Rattle.std.proofs.Common.{rules}
use mathlib.Core.Path.{sym, ◌∙◌, refl}
use native.Mathlib.Omega.{arith}
use Rattle.tree.specs.declared.grammar.Value.TheVariants.{Id}
use Rattle.tree.proofs.AccessLaws.{upto-in, extent-upto}
use Rattle.tree.proofs.PartLaws.{part_tag}
use Rattle.tree.proofs.WidthLaws.{plain-ends}
use Rattle.expressions.proofs.AfterLaws.{after-short, after-60, after-63, after-first, after-rest}
use Rattle.expressions.proofs.AfterLaws.{member-none, member-other, member-unused, member-nowhere, member-named}
use Rattle.expressions.proofs.ident.+ident_after_property_after.Goals as goal

pub ident_after-returns-in_err-from : goal.ident_after-returns-in_err-from
ident_after-returns-in_err-from t c =
    rw c.from_residual.ensures (after-short c.args.part.now _ (sym c.fixed.ensures ∙ c.in_err-from.was))

pub ident_after-id_at-requires : goal.ident_after-id_at-requires
ident_after-id_at-requires t c =
    let p = c.args.part.now in
    let f = sym c.fixed.ensures ∙ c.in_ok-from.was in
    let j = upto-in p.bytes.now (part_tag p) (p.at + 3) p.stop p.whole.0 f in
    let k = plain-ends 0x60 Id refl p.bytes.now (part_tag p) (p.at + 3) p.stop _ (sym c.tag.ensures ∙ c.in-96.is) f in
    let b = p.whole.1 in
    omega arith

pub ident_after-row-requires : goal.ident_after-row-requires
ident_after-row-requires t c =
    let p = c.args.part.now in
    let j = upto-in p.bytes.now (part_tag p) (p.at + 3) p.stop p.whole.0 (sym c.fixed.ensures ∙ c.in_ok-from.was) in
    omega arith

pub ident_after-property_after-requires : goal.ident_after-property_after-requires
ident_after-property_after-requires t c =
    let p = c.args.part.now in
    let j = upto-in p.bytes.now (part_tag p) (p.at + 3) p.stop p.whole.0 (sym c.fixed.ensures ∙ c.in_ok-from.was) in
    let m = c.row.ensures in
    (omega arith, tt)

pub ident_after-returns-in-96 : goal.ident_after-returns-in-96
ident_after-returns-in-96 t c =
    after-60 c.args.part.now _ c.id_at.result (sym c.fixed.ensures ∙ c.in_ok-from.was) (sym c.tag.ensures ∙ c.in-96.is) c.id_at.ensures

pub ident_after-returns-then-second : goal.ident_after-returns-then-second
ident_after-returns-then-second t c =
    after-63 c.args.part.now c.property_after.result c.row.result (sym c.fixed.ensures ∙ c.in_ok-from.was)
    (sym c.tag.ensures ∙ c.in-99.is) c.if-second.true c.row.ensures c.property_after.ensures

pub ident_after-returns-else-second : goal.ident_after-returns-else-second
ident_after-returns-else-second t c =
    after-first c.args.part.now (sym c.fixed.ensures ∙ c.in_ok-from.was) (sym c.tag.ensures ∙ c.in-99.is) c.if-second.false

pub ident_after-returns-in_default : goal.ident_after-returns-in_default
ident_after-returns-in_default t c =
    after-rest c.args.part.now _ (sym c.fixed.ensures ∙ c.in_ok-from.was) (search rules) (search rules)

pub property_after-returns-in_err-object : goal.property_after-returns-in_err-object
property_after-returns-in_err-object t c =
    rw c.from_residual.ensures (member-none c.args.parts c.next.new.self c.in_err-object.ensures.steps)

pub property_after-ident_after-requires : goal.property_after-ident_after-requires
property_after-ident_after-requires t c =
    let r = c.args.parts in
    let g = c.in_ok-object.ensures.steps in
    let i = extent-upto r.bytes.now r.at r.end r.inside.0 g.0 in
    let a = g.1 in
    (omega arith, tt)

pub property_after-returns-in_err-id : goal.property_after-returns-in_err-id
property_after-returns-in_err-id t c =
    let o = c.in_ok-object in
    rw c.from_residual-in_err-id.ensures
    (member-other c.args.parts o.object c.next.new.self o.ensures.steps c.in_err-id.was c.ident_after.ensures)

pub property_after-returns-then-not-has_usages : goal.property_after-returns-then-not-has_usages
property_after-returns-then-not-has_usages t c =
    let o = c.in_ok-object in
    member-unused c.args.parts o.object c.next.new.self o.ensures.steps
    c.in_ok-id.was c.ident_after.ensures c.if-not-has_usages.true c.has_usages.ensures

pub property_after-returns-in_err-imported_as : goal.property_after-returns-in_err-imported_as
property_after-returns-in_err-imported_as t c =
    let o = c.in_ok-object in
    rw c.from_residual-in_err-imported_as.ensures
    (member-nowhere c.args.parts o.object c.next.new.self o.ensures.steps
    c.in_ok-id.was c.ident_after.ensures c.in_err-imported_as.was c.imported_as.ensures)

pub property_after-returns : goal.property_after-returns
property_after-returns t c =
    let o = c.in_ok-object in
    member-named c.args.parts o.object c.next.new.self o.ensures.steps
    c.in_ok-id.was c.ident_after.ensures c.named_first.result c.if-not-has_usages.false c.has_usages.ensures c.in_ok-imported_as.was
    c.imported_as.ensures c.named_first.ensures
