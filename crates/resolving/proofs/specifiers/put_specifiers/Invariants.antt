-- `resolving::specifiers::put_specifiers`: the invariant: with the specifiers from here on, all of them are
-- written.
use Rattle.tree.specs.Rows.{fields_of}
use Rattle.resolving_rules.specs.Resolve.{resolved_specifiers}
use Rattle.resolving.specs.Records.{FieldsRead}
use Rattle.resolving.specs.Writes.{Onward}
use Rattle.resolving.proofs.specifiers.put_specifiers.Given as goal

abbrev pub invariant-loop-part : goal.invariant-loop-part
invariant-loop-part l =
    Onward (resolved_specifiers l.all (fields_of l.initial.row) l.initial.row.at)
    (resolved_specifiers l.all (fields_of l.part-iterator) l.part-iterator.at) l.initial.list l.o l.list l.to
    × FieldsRead l.part-iterator
