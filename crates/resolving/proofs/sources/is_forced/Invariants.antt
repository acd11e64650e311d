-- `resolving::sources::is_forced`: the invariant: whether the source is forced is what the records from here on say.
use mathlib.Core.Path.{◌≡◌}
use Rattle.inputs.specs.Lists.{among}
use Rattle.tree.specs.Layout.{two}
use Rattle.tree.specs.Rows.{fields_of}
use Rattle.resolving_rules.specs.Resolve.{forced_in}
use Rattle.resolving.specs.Records.{RecordsLeft, records_in}
use Rattle.resolving.proofs.sources.is_forced.Given as goal

abbrev pub invariant-loop-part : goal.invariant-loop-part
invariant-loop-part l =
    (among (two l.source.0) (forced_in (records_in l.records)) ≡ among (two l.source.0) (forced_in (fields_of l.part-iterator))) × RecordsLeft l.part-iterator
