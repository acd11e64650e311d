-- `find_from`: the invariant says that what is found from row i on is what is found from row 0 on (`found-begin`). A key below lo or above hi is passed
-- (`found-low`, `found-high`), one between is the first (`found-here`), and behind the last row there is none (`found-end`).
use mathlib.Core.Path.{◌≡◌}
use Rattle.tables.proofs.RowLaws.{found_from}
use Rattle.tables.proofs.find_from.Given as goal

abbrev pub invariant-loop-i : goal.invariant-loop-i
invariant-loop-i l = found_from l.lo l.hi l.n 0 l.base l.t ≡ found_from l.lo l.hi l.n l.i l.base l.t
