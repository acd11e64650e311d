-- `literal`: the six bytes at the place, none where there are fewer (`literal-got`).
use mathlib.Core.Path.{sym, ◌∙◌}
use Rattle.records.proofs.LiteralLaws.{literal-got}
use Rattle.records.proofs.literals.literal.Goals as goal

pub returns : goal.returns
returns c = literal-got _ _ _ _ c.get.ensures.lookup c.unwrap_or_default.ensures ∙ sym c.tree_with-at.ensures.literal
