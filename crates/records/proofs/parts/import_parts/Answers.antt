-- `import_parts`: by whether the fixed bytes are whole, and then by the tag: a 10 is an import.
use Prim.Native.Nat.{◌+◌}
use mathlib.Core.Path.{sym, subst, ◌∙◌}
use Rattle.tree.proofs.AccessLaws.{upto-in}
use Rattle.tree.proofs.PartLaws.{part_tag}
use Rattle.records.specs.Writes.{ImportParts}
use Rattle.records.proofs.SpecifierLaws.{import-short, import-other, import-here}
use Rattle.records.proofs.parts.import_parts.Goals as goal

pub returns-in_err-from : goal.returns-in_err-from
returns-in_err-from c =
    let p = c.args.item in
    subst (ImportParts p) (sym c.from_residual.ensures) (import-short p (sym c.fixed.ensures ∙ c.in_err-from.was))

pub row-requires : goal.row-requires
row-requires c =
    let p = c.args.item in
    (upto-in p.bytes.now (part_tag p) (p.at + 3) p.stop p.whole.0 (sym c.fixed.ensures ∙ c.in_ok-from.was)).1

pub returns-then-tag-eq16 : goal.returns-then-tag-eq16
returns-then-tag-eq16 c =
    import-here c.args.item c.row.result (sym c.fixed.ensures ∙ c.in_ok-from.was) (sym c.tag.ensures ∙ c.if-tag-eq16.true) c.row.ensures

pub returns-else-tag-eq16 : goal.returns-else-tag-eq16
returns-else-tag-eq16 c =
    import-other c.args.item (sym c.fixed.ensures ∙ c.in_ok-from.was) (λ e. c.if-tag-eq16.false (c.tag.ensures ∙ e))
