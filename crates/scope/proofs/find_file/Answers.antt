-- `find_file`: the library's first position of an equal file is the place by the rule (`placed`).
use mathlib.Core.Path.{◌∙◌}
use lib.Dec.{eqb}
use lib.ListN.{take}
use Rattle.std.proofs.Common.{rules, tests}
use Rattle.std.proofs.lemmas.Iterator.{YieldsList-from_slice}
use Rattle.std.proofs.lemmas.Iterator.Search.{position_from_yields_List}
use Rattle.scope.proofs.ScopeValueLaws.{placed}
use Rattle.scope.proofs.find_file.Goals as goal

pub returns : goal.returns
returns c =
    let files = take c.args.n c.args.files.now in
    position_from_yields_List (λ g. eqb c.args.file.0 g.0) _ _ c.position.result c.position.ensures.ran (YieldsList-from_slice files cc) (λ x b q k. search (rules, tests))
    ∙ placed c.args.file files
