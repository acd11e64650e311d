-- `copy_part`: the invariant: writing what is left of the part, from here, writes the whole of it.
use mathlib.Core.List.{List}
use mathlib.Core.Path.{◌≡◌}
use Prim.Native.Nat.{ℕ}
use lib.ListN.{length}
use lib.Seq.{slice}
use Rattle.writer.specs.Wrote.{Wrote}
use Rattle.writer.proofs.copy_part.Given as goal

abbrev pub invariant-loop-at : goal.invariant-loop-at
invariant-loop-at it = ((l : List ℕ) (p : ℕ) → Wrote it.out it.to (slice it.at it.end it.s) l p → Wrote it.initial.out it.o (slice it.from it.end it.s) l p)
    × (length it.out ≡ length it.initial.out)
