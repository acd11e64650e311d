-- `put_below`, `put_bindings`, `put_left`: the measure is the number of bytes, one more for the fields of a row than for a field.
-- The loop's invariant: with the ids of the fields from here on, those of all fields are written.
use Prim.Native.Nat.{ℕ, ◌+◌, ◌-◌, ◌≤◌}
use mathlib.Core.Path.{◌≡◌}
use mathlib.Core.List.{List}
use lib.ListN.{length}
use Rattle.tree.specs.Tree.{encodes}
use Rattle.tree.specs.Rows.{fields_of}
use Rattle.writer.specs.Wrote.{Wrote}
use Rattle.extraction_rules.specs.First.{bindings_all}
use Rattle.records.proofs.bindings.+put_below_put_bindings_put_left.Given as goal

abbrev pub decreases-put_below : goal.decreases-put_below
decreases-put_below l = l.row.end - l.row.at + 1

abbrev pub decreases-put_bindings : goal.decreases-put_bindings
decreases-put_bindings l = l.pattern.stop - l.pattern.at

abbrev pub decreases-put_left : goal.decreases-put_left
decreases-put_left l = l.row.end - l.row.at + 1

abbrev pub invariant-put_below-loop-part : goal.invariant-put_below-loop-part
invariant-put_below-loop-part it =
    (it.initial.row.at ≤ it.part-iterator.at) × (it.part-iterator.end ≡ it.initial.row.end)
    × ((p : ℕ) (l : List ℕ) → Wrote it.records it.to (encodes (bindings_all (fields_of it.part-iterator))) l p →
    Wrote it.initial.records it.o (encodes (bindings_all (fields_of it.initial.row))) l p) × (length it.records ≡ length it.initial.records)
