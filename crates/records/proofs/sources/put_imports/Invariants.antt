-- `put_imports`: the invariant says that with the imports from here on those of the whole row are written.
-- `gathered-more` splits off one item.
use Rattle.tree.specs.Layout.{two}
use Rattle.tree.specs.Tree.{encodes}
use Rattle.tree.specs.Rows.{fields_of}
use Rattle.records.specs.Model.{gathered}
use Rattle.records.specs.Writes.{sieve, FieldsRead, RowOnward}
use Rattle.records.proofs.sources.put_imports.Given as goal

abbrev pub invariant-loop-item : goal.invariant-loop-item
invariant-loop-item l =
    RowOnward (FieldsRead l.initial.items) l.item-iterator (encodes (sieve l.wanted.namespaces (gathered (two l.wanted.value.0) (fields_of l.initial.items))))
    (encodes (sieve l.wanted.namespaces (gathered (two l.wanted.value.0) (fields_of l.item-iterator)))) l.initial.records l.o l.records l.to
