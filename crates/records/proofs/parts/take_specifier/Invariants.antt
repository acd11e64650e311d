-- `take_specifier`: the invariant says that the specifiers of what is left are all of them, since only 2Fs were taken (`gives-skip`).
use Prim.Native.Nat.{◌-◌}
use mathlib.Core.Path.{◌≡◌}
use Rattle.tree.specs.Rows.{fields_of}
use Rattle.extraction_rules.specs.First.{specifiers_in}
use Rattle.records.proofs.parts.take_specifier.Given as goal

abbrev pub decreases-loop-part : goal.decreases-loop-part
decreases-loop-part l = l.row.end - l.row.at

abbrev pub invariant-loop-part : goal.invariant-loop-part
invariant-loop-part l = specifiers_in (fields_of l.initial.row) ≡ specifiers_in (fields_of l.row)
