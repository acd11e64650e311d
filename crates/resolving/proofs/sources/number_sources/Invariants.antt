-- `resolving::sources::number_sources`: the invariant: numbering from here on gives what numbering from the
-- start gives.
use mathlib.Core.Path.{◌≡◌}
use Rattle.inputs.specs.Table.{rows_in}
use Rattle.scope.specs.ScopeValue.{modules_of}
use Rattle.tree.specs.Rows.{fields_of}
use Rattle.resolving_rules.specs.Resolve.{sources_in, number_all}
use Rattle.resolving.specs.Records.{RecordsLeft, records_in}
use Rattle.resolving.proofs.sources.number_sources.Given as goal

abbrev pub invariant-loop-part : goal.invariant-loop-part
invariant-loop-part l =
    (number_all (rows_in l.table) (sources_in (records_in l.records)) (modules_of l.initial.scope) 3
    ≡ number_all (rows_in l.table) (sources_in (fields_of l.part-iterator)) (modules_of l.scope) l.part-iterator.at)
    × RecordsLeft l.part-iterator
