-- `found_other` and `found_other_in`: the loop's invariant says that the row from here on answers what the whole row answers.
-- The measure is a field's length, and a row's length and one more: a field is no longer than the row around it, and its parts start
-- behind its head of three bytes.
use Prim.Native.Nat.{◌+◌, ◌-◌, ◌≤◌}
use mathlib.Core.Path.{◌≡◌}
use Rattle.tree.specs.Rows.{fields_of}
use Rattle.detection.specs.Detection.{found_other_in}
use Rattle.detection.proofs.+found_other_found_other_in.Given as goal

abbrev pub decreases-found_other : goal.decreases-found_other
decreases-found_other l = l.part.stop - l.part.at

abbrev pub decreases-found_other_in : goal.decreases-found_other_in
decreases-found_other_in l = l.row.end - l.row.at + 1

abbrev pub invariant-found_other_in-loop-part : goal.invariant-found_other_in-loop-part
invariant-found_other_in-loop-part l =
    (l.initial.row.at ≤ l.part-iterator.at) × (l.part-iterator.end ≡ l.initial.row.end)
    × (found_other_in (fields_of l.initial.row) ≡ found_other_in (fields_of l.part-iterator))
