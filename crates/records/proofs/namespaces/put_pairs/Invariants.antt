-- `put_pairs`: the invariant says that with what is taken of the items from here on in both trees, what is taken of all is written.
-- `taken-both` splits off one item of each; the loop ends where either row ends.
use mathlib.Core.Path.{◌≡◌}
use Rattle.tree.specs.Tree.{encodes}
use Rattle.tree.specs.Rows.{fields_of}
use Rattle.records.specs.Model.{taken}
use Rattle.records.specs.Writes.{sieve, literal_in, FieldsRead, RowOnward}
use Rattle.records.proofs.namespaces.put_pairs.Given as goal

abbrev pub invariant-loop-item : goal.invariant-loop-item
invariant-loop-item l =
    (l.item-iterator.a.bytes.now ≡ l.initial.items.bytes.now)
    × RowOnward (FieldsRead l.initial.made) l.item-iterator.b
    (encodes
    (sieve l.wanted.namespaces (taken (literal_in l.tree l.initial.items.bytes.now l.wanted.place) (fields_of l.initial.items) (fields_of l.initial.made))))
    (encodes
    (sieve l.wanted.namespaces (taken (literal_in l.tree l.initial.items.bytes.now l.wanted.place) (fields_of l.item-iterator.a) (fields_of l.item-iterator.b))))
    l.initial.records l.o l.records l.to
