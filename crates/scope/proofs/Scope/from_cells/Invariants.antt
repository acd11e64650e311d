-- `from_cells`: the invariant says that the first k modules of the arrays are the first k in the cells.
-- `cells-taken` adds module k: its five stores touch no module before it. At the end k is n, which is at most 256.
use mathlib.Core.Path.{◌≡◌}
use Prim.Native.Nat.{◌≤◌}
use lib.ListN.{length}
use Rattle.scope.specs.ScopeValue.{modules_from, modules_in}
use Rattle.scope.proofs.Scope.from_cells.Given as goal

abbrev pub invariant-loop-k : goal.invariant-loop-k
invariant-loop-k l = (modules_from l.k 0 l.files l.marks ≡ modules_in l.k l.base l.cells) × (l.k ≤ l.n) × (length l.files ≡ 256) × (length l.marks ≡ 1024)
