-- `put_forced`: the invariant says that with the sources from i on all of them are written; `forced-more` splits off the one at i.
use lib.ListN.{drop}
use Rattle.tree.specs.Tree.{encodes}
use Rattle.extraction_rules.specs.Records.{forced_fields}
use Rattle.records.specs.Writes.{Onward}
use Rattle.records.proofs.lazy.put_forced.Given as goal

abbrev pub invariant-loop-i : goal.invariant-loop-i
invariant-loop-i l = Onward (λ _. Unit {0}) (λ s. encodes (forced_fields s.forced)) (λ s. encodes (forced_fields (drop l.i s.forced))) l.t.cells l.initial.records l.o l.records l.to
