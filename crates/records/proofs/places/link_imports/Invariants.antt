-- `link_imports`: the invariant says that the imports from i on are chained, and that no place has changed; `linked-step` puts the one in front
-- of them at the start of its chain.
use mathlib.Core.Path.{◌≡◌}
use Rattle.records.specs.Listing.{places_in, Linked}
use Rattle.records.proofs.places.link_imports.Given as goal

abbrev pub invariant-loop-i : goal.invariant-loop-i
invariant-loop-i l = Linked l.work l.first l.listed l.i × (places_in l.listed ≡ places_in l.initial.listed)
