-- `put_modules`: the invariant says that with the modules from i on all n are written; `module-written` splits off the one at i.
-- The measure is n - i.
use Prim.Native.Nat.{ℕ, ◌-◌, ◌*◌}
use mathlib.Core.Path.{◌≡◌}
use mathlib.Core.List.{List}
use lib.ListN.{length}
use Rattle.scope.specs.ScopeValue.{modules_in}
use Rattle.writer.specs.Wrote.{Wrote}
use Rattle.tychodrel.specs.Answer.{modules_bytes}
use Rattle.tychodrel.proofs.listing.put_modules.Given as goal

abbrev pub invariant-loop-i : goal.invariant-loop-i
invariant-loop-i it = ((l : List ℕ) (p : ℕ) → Wrote it.out it.to (modules_bytes (modules_in (it.n - it.i) (2 * it.i) it.cells)) l p →
    Wrote it.initial.out it.o (modules_bytes (modules_in it.n 0 it.cells)) l p)
    × (length it.out ≡ length it.initial.out)

abbrev pub decreases-loop-i : goal.decreases-loop-i
decreases-loop-i l = l.n - l.i
