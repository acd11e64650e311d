-- `items`: the invariant `Passing` says that the pass over the items that are left completes the pass over all of the row.
use Rattle.extraction.proofs.PassLaws.{Passing}
use Rattle.extraction.proofs.passes.items.Given as goal

abbrev pub invariant-loop-part : goal.invariant-loop-part
invariant-loop-part l = Passing l.initial.row l.initial.t.cells l.initial.out l.o l.t.cells l.out l.part-iterator l.to
