-- `usage`: each return has its law of UsageLaws: the rule passes over a 63 without object, id, member or import, forces the id
-- under a computed member, and otherwise is the rule of `use_from`.
use mathlib.Core.Path.{sym, ◌∙◌}
use Rattle.expressions.proofs.UsageLaws.{usage-bare, usage-other, usage-alone, usage-unknown, usage-computed, usage-from}
use Rattle.expressions.proofs.usages.usage.Goals as goal

pub row-parts-requires : goal.row-parts-requires
row-parts-requires c = c.args.part.now.whole.0

pub returns-in_default : goal.returns-in_default
returns-in_default c =
    usage-bare c.args.part.now c.requires c.row-parts.result c.row-parts.ensures c.next.new.self c.in_default.ensures.steps

pub returns-in_default-ident_after : goal.returns-in_default-ident_after
returns-in_default-ident_after c =
    let o = c.in-Some in
    usage-other c.args.part.now c.requires c.row-parts.result c.row-parts.ensures o.object c.next.new.self o.ensures.steps
    c.in_default-ident_after.is c.ident_after.ensures

pub returns-in_default-next : goal.returns-in_default-next
returns-in_default-next c =
    let o = c.in-Some in
    usage-alone c.args.part.now c.requires c.row-parts.result c.row-parts.ensures o.object c.next.new.self o.ensures.steps
    c.next-2.new.self c.in_default-next.ensures.steps

pub returns-in_default-imported_as : goal.returns-in_default-imported_as
returns-in_default-imported_as c =
    let o = c.in-Some in
    let q = c.in-Some-next in
    usage-unknown c.args.part.now c.requires c.row-parts.result c.row-parts.ensures o.object c.next.new.self o.ensures.steps
    q.member c.next-2.new.self q.ensures.steps
    c.in-Some-ident_after.is c.ident_after.ensures c.in_default-imported_as.is c.imported_as.ensures

pub returns-then-tag-eq113 : goal.returns-then-tag-eq113
returns-then-tag-eq113 c =
    let o = c.in-Some in
    let q = c.in-Some-next in
    usage-computed c.args.part.now c.requires c.row-parts.result c.row-parts.ensures o.object c.next.new.self o.ensures.steps
    q.member c.next-2.new.self q.ensures.steps
    c.in-Some-ident_after.is c.ident_after.ensures
    c.in-Some-imported_as.is c.imported_as.ensures (sym c.tag.ensures ∙ c.if-tag-eq113.true) c.force_id.ensures

pub returns : goal.returns
returns c =
    let o = c.in-Some in
    let q = c.in-Some-next in
    usage-from c.args.part.now c.requires c.row-parts.result c.row-parts.ensures o.object c.next.new.self o.ensures.steps
    q.member c.next-2.new.self q.ensures.steps
    c.in-Some-ident_after.is c.ident_after.ensures
    c.in-Some-imported_as.is c.imported_as.ensures (λ e. c.if-tag-eq113.false (c.tag.ensures ∙ e)) c.use_from.ensures
