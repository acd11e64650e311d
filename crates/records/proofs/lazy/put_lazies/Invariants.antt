-- `put_lazies`: the invariant says that with the lazy records from i on all of them are written; `lazy-more` splits off the one at i.
use lib.ListN.{drop}
use Rattle.tree.specs.Tree.{encodes}
use Rattle.extraction_rules.specs.Records.{record_fields}
use Rattle.records.specs.Writes.{Placing, Onward}
use Rattle.records.proofs.lazy.put_lazies.Given as goal

abbrev pub invariant-loop-i : goal.invariant-loop-i
invariant-loop-i l = Onward (Placing l.tree l.work) (λ s. encodes (record_fields 0x81 s.lazy)) (λ s. encodes (record_fields 0x81 (drop l.i s.lazy))) l.t.cells l.initial.records l.o l.records
    l.to
