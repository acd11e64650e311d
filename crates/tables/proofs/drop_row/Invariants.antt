-- `drop_row`: the invariant (`Closing`) says that the first k rows are the first k + 1 of the start without row i, and that no cell outside
-- these k rows has changed. A step is `closes-one`; `row-dropped` ends it.
use Rattle.tables.proofs.RowLaws.{Closing}
use Rattle.tables.proofs.drop_row.Given as goal

abbrev pub invariant-loop-k : goal.invariant-loop-k
invariant-loop-k l = Closing l.i l.base l.n l.initial.t l.k l.t
