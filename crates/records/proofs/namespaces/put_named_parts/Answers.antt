-- `put_named_parts`: each return has its law of CollectedLaws: fixed bytes not whole, a first specifier that is a 20, or not.
-- `parts-read` says that the parts of a field that was read are read.
use mathlib.Core.Path.{sym, ◌∙◌}
use Prim.Native.Nat.{◌+◌}
use Rattle.tree.proofs.AccessLaws.{upto-in}
use Rattle.tree.proofs.PartLaws.{part_tag}
use Rattle.records.proofs.SpecifierLaws.{if-none, parts-read}
use Rattle.records.proofs.CollectedLaws.{if-as, if-from, named-short, named-is, named-other}
use Rattle.records.proofs.namespaces.put_named_parts.Goals as goal

pub returns-in_default : goal.returns-in_default
returns-in_default c = if-none (named-short c.args.namespaces c.args.item (sym c.fixed.ensures ∙ c.in_default.is))

pub row-parts-requires : goal.row-parts-requires
row-parts-requires c =
    let p = c.args.item in
    (upto-in p.bytes.now (part_tag p) (p.at + 3) p.stop p.whole.0 (sym c.fixed.ensures ∙ c.in-Some.is)).1

pub returns-then-starts_named : goal.returns-then-starts_named
returns-then-starts_named c =
    let p = c.args.item in
    let r = c.row-parts.result in
    let e = sym c.fixed.ensures ∙ c.in-Some.is in
    if-as (if-from (parts-read p r e c.row-parts.ensures) c.put_specifiers.ensures)
    (named-is c.args.namespaces p r e c.row-parts.ensures (sym c.starts_named.ensures ∙ c.if-starts_named.true))

pub returns-else-starts_named : goal.returns-else-starts_named
returns-else-starts_named c =
    if-none (named-other c.args.namespaces c.args.item c.row-parts.result (sym c.fixed.ensures ∙ c.in-Some.is) c.row-parts.ensures
    (sym c.starts_named.ensures ∙ c.if-starts_named.false))
