-- Demand 3, first part: a namespace import is kept whole or taken apart completely.
use mathlib.Core.Path.{ap}
use Rattle.tree.specs.declared.grammar.Set.TheVariants.{Module}
use Rattle.tree.specs.Read.{read}
use Rattle.extraction_rules.proofs.OutcomeLaws.{of-done}
use Rattle.extraction_rules.proofs.ReadableLaws.{Items, read-items}
use Rattle.extraction_rules.proofs.RecordsLaws.{call-records}
use Rattle.extraction_rules.specs.Call.{items_read}
use Rattle.resolving_rules.specs.Call.{records_read}
use Rattle.theorems.specs.Demand.{KeptOrApart}
use Rattle.theorems.proofs.TopLaws.{kept-or-apart}

pub kept-whole-or-apart : KeptOrApart
kept-whole-or-apart l room ms r m n q items own e v bs reading requesting placed k x i d inside =
    kept-or-apart l room ms r m n q items own e v reading requesting placed k x i d inside
    (of-done (items_read (read Module l.tree)) Items items reading (read-items l.tree bs)) (ap records_read (call-records l room ms bs r e))
