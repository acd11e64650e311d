-- `put_specifiers`: the invariant says that with the specifiers from here on all of them are written; `bytes-more` splits off one part.
use Rattle.tree.specs.Tree.{encodes}
use Rattle.tree.specs.Rows.{fields_of}
use Rattle.extraction_rules.specs.First.{specifiers_in}
use Rattle.records.specs.Writes.{sieve, FieldsRead, RowOnward}
use Rattle.records.proofs.parts.put_specifiers.Given as goal

abbrev pub invariant-loop-part : goal.invariant-loop-part
invariant-loop-part l =
    RowOnward (FieldsRead l.initial.row) l.part-iterator (encodes (sieve l.namespaces (specifiers_in (fields_of l.initial.row))))
    (encodes (sieve l.namespaces (specifiers_in (fields_of l.part-iterator)))) l.initial.records l.o l.records l.to
