-- `put_each`: the invariant says that with the records from i on all of them are written; `collected-more` splits off the record at i.
use mathlib.Core.List.{map}
use lib.ListN.{drop}
use Rattle.tree.specs.Tree.{encodes}
use Rattle.extraction_rules.specs.Records.{record_fields}
use Rattle.records.specs.Model.{rebuilt}
use Rattle.records.specs.Writes.{Placing, BothRead, Onward, items_in, retold}
use Rattle.records.proofs.collected.put_each.Given as goal

abbrev pub invariant-loop-i : goal.invariant-loop-i
invariant-loop-i l = Onward (λ x. Placing l.tree l.work x × BothRead l.work l.out) (λ s. encodes (record_fields 0x80 (retold l.work l.out s)))
    (λ s. encodes (record_fields 0x80 (map (rebuilt (items_in l.work) (items_in l.out) s.forced) (drop l.i s.collected)))) l.t.cells l.initial.records l.o l.records l.to
