-- `put_pair`: by whether the import is whole: then what was taken is its named parts (`pair-is`), otherwise nothing (`pair-other`).
use mathlib.Core.Path.{sym, ◌∙◌}
use Rattle.tree.specs.Rows.{tree_of}
use Rattle.records.specs.Writes.{literal_in}
use Rattle.records.proofs.SpecifierLaws.{if-none}
use Rattle.records.proofs.CollectedLaws.{if-as, pair-is, pair-other}
use Rattle.records.proofs.namespaces.put_pair.Goals as goal

pub returns-then-is_whole : goal.returns-then-is_whole
returns-then-is_whole c =
    let a = c.args in
    if-as c.put_named_parts.ensures
    (pair-is a.wanted.namespaces (literal_in a.tree.now a.item.bytes.now a.wanted.place) (tree_of a.item) (tree_of a.made)
    (sym c.is_whole.ensures ∙ c.if-is_whole.true))

pub returns-else-is_whole : goal.returns-else-is_whole
returns-else-is_whole c =
    let a = c.args in
    if-none
    (pair-other a.wanted.namespaces (literal_in a.tree.now a.item.bytes.now a.wanted.place) (tree_of a.item) (tree_of a.made)
    (sym c.is_whole.ensures ∙ c.if-is_whole.false))
