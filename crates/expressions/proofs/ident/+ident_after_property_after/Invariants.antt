-- `ident_after`, `property_after`: the measures are stop - at and end - at + 1; `upto-in` and `extent-upto` make them fall.
-- Each return has its law of AfterLaws: the id that the rule gives for a field with these bytes.
use Prim.Native.Nat.{◌+◌, ◌-◌}
use Rattle.expressions.proofs.ident.+ident_after_property_after.Given as goal

abbrev pub decreases-ident_after : goal.decreases-ident_after
decreases-ident_after l = l.part.now.stop - l.part.now.at

abbrev pub decreases-property_after : goal.decreases-property_after
decreases-property_after l = l.parts.end - l.parts.at + 1
