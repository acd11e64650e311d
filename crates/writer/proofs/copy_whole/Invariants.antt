-- `copy_whole`: the invariant: writing what is left of the part, from its i-th byte on, writes the whole of it. A turn stores one byte
-- (`wrote-byte`) inside the buffer, since o + i is below o + (end - from), and no position is past its end.
use mathlib.Core.List.{List}
use mathlib.Core.Path.{◌≡◌}
use Prim.Native.Nat.{ℕ, ◌+◌, ◌-◌, ◌≤◌}
use lib.ListN.{length}
use lib.Seq.{slice}
use Rattle.writer.specs.Wrote.{Wrote}
use Rattle.writer.proofs.copy_whole.Given as goal

abbrev pub invariant-loop-i : goal.invariant-loop-i
invariant-loop-i it = ((l : List ℕ) (p : ℕ) → Wrote it.out (it.o + it.i) (slice (it.from + it.i) it.end it.s) l p → Wrote it.initial.out it.o (slice it.from it.end it.s) l p)
    × (length it.out ≡ length it.initial.out)
    × (it.i ≤ it.end - it.from)
