-- `least_value`: the loop goes down; the invariant says that `best` is the least value of the key among the rows from i on.
-- The row before them is joined by `least-here` where it has the key, by `least-other` where not.
use mathlib.Core.Path.{◌≡◌}
use Prim.Native.Nat.{◌≤◌, ◌+◌, ◌*◌, ◌-◌}
use Rattle.tables.specs.Rows.{rows_from, least_of}
use Rattle.tables.proofs.least_value.Given as goal

abbrev pub invariant-loop-i : goal.invariant-loop-i
invariant-loop-i l = (l.best ≡ least_of l.key (rows_from (l.initial.i - l.i) (l.base + 2 * l.i) l.t)) × (l.i ≤ l.initial.i)
