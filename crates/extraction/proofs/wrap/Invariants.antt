-- `wrap`: the invariant `Wrapping` says that wrapping the forced sources from i on completes wrapping all of them.
-- The measure is 256 - i; `forces-most` says that at most 256 sources are forced.
use Prim.Native.Nat.{◌-◌}
use Rattle.extraction.specs.Stages.{Wrapping}
use Rattle.extraction.proofs.wrap.Given as goal

abbrev pub invariant-loop-i : goal.invariant-loop-i
invariant-loop-i l = Wrapping l.initial.t.cells l.i l.t.cells

abbrev pub decreases-loop-i : goal.decreases-loop-i
decreases-loop-i l = 256 - l.i
