-- `resolving::list::put_records`: the invariant: with the records from here on, all of them are written; their
-- sources have numbers.
use mathlib.Core.Path.{◌≡◌}
use Rattle.inputs.specs.Table.{rows_in}
use Rattle.scope.specs.ScopeValue.{modules_of}
use Rattle.tree.specs.Rows.{fields_of}
use Rattle.resolving_rules.specs.Resolve.{sources_in, forced_in, resolved_all}
use Rattle.resolving.specs.Records.{RecordsLeft, records_in}
use Rattle.resolving.specs.Numbers.{NumbersAll}
use Rattle.resolving.specs.Writes.{Onward}
use Rattle.resolving.proofs.list.put_records.Given as goal

abbrev pub invariant-loop-part : goal.invariant-loop-part
invariant-loop-part l = (l.part-iterator.bytes.now ≡ l.records)
    × Onward (resolved_all (rows_in l.table) (forced_in (records_in l.records)) (modules_of l.scope) (sources_in (records_in l.records)) 3)
    (resolved_all (rows_in l.table) (forced_in (records_in l.records)) (modules_of l.scope) (sources_in (fields_of l.part-iterator)) l.part-iterator.at)
    l.initial.list l.o l.list l.to
    × RecordsLeft l.part-iterator
    × NumbersAll (rows_in l.table) (modules_of l.scope) (sources_in (fields_of l.part-iterator))
