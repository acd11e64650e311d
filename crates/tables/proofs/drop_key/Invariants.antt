-- `drop_key`: the invariant (`Dropping`) says that the first `kept` rows are the first i of the start without those of the key, and that no
-- cell outside these i rows has changed, so row i is read as it was. A step is `drop-skips` or `drop-keeps`; `rows-dropped` ends it.
use Rattle.tables.proofs.RowLaws.{Dropping}
use Rattle.tables.proofs.drop_key.Given as goal

abbrev pub invariant-loop-i : goal.invariant-loop-i
invariant-loop-i l = Dropping l.key l.base l.n l.initial.t l.i l.kept l.t
