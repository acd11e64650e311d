-- `sweep`: the invariant says that the list is that of the items in front; `lists-step` passes one item of each tree, which is listed if it is
-- an import. The loop ends where either tree does, or where the list is full. The measure is the length of `work` less at.
use Prim.Native.Nat.{◌-◌, ◌≤◌}
use mathlib.Core.Path.{◌≡◌}
use lib.ListN.{length, take}
use Rattle.records.specs.Listing.{Lists}
use Rattle.records.proofs.places.sweep.Given as goal

abbrev pub invariant-loop-count : goal.invariant-loop-count
invariant-loop-count l = Lists l.work l.out (take l.count l.listed) l.at l.made × (l.count ≤ 3641) × (l.at ≤ length l.work) × (l.made ≤ length l.out)
    × (length l.listed ≡ 3641)

abbrev pub decreases-loop-count : goal.decreases-loop-count
decreases-loop-count l = length l.work - l.at
