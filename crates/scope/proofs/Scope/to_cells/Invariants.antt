-- `to_cells`: the invariant says that the first k modules in the cells are the first k of the scope, and that only cells from base up to
-- base + 512 were written, files of two bytes and marks of four bits (`small-put`). `cells-put` adds module k, whose marks `four_bits` lets be
-- read back; `rewrites-set` allows the two stores.
use mathlib.Core.Path.{◌≡◌}
use Prim.Native.Nat.{ℕ, ◌≤◌, ◌<◌, ◌+◌, ◌*◌}
use lib.ListN.{get_or}
use Rattle.scope.specs.ScopeValue.{modules_from, modules_in, Rewrites}
use Rattle.scope.proofs.Scope.to_cells.Given as goal

abbrev pub invariant-loop-k : goal.invariant-loop-k
invariant-loop-k l = (modules_in l.k l.base l.cells ≡ modules_from l.k 0 l.self.files l.self.marks) × (l.k ≤ l.n) × Rewrites l.base (l.base + 512) l.initial.cells l.cells
    × ((i : ℕ) → i < l.k → (get_or l.cells (l.base + 2 * i) 0 < 65536) × (get_or l.cells (l.base + 2 * i + 1) 0 < 16))
