-- `put_usages`: the invariant `Listing` says that writing the usages from i on completes writing all of them.
-- `usages-end` says that from n on there is none.
use Rattle.state.specs.Cells.{id_by}
use Rattle.imports.proofs.TakenLaws.{Listing}
use Rattle.imports.proofs.second.put_usages.Given as goal

abbrev pub invariant-loop-i : goal.invariant-loop-i
invariant-loop-i l = Listing (id_by l.id) l.t.cells l.initial.out l.o l.out l.i l.to
