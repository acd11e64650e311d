-- `least_holder`: without a hint no row has the key (`not_held`), so there is no least value; else all rows are searched.
use mathlib.Core.Path.{sym, ap, ◌∙◌}
use Rattle.state.specs.Cells.{namespace_hint}
use Rattle.state.proofs.HintLaws.{none-least}
use Rattle.state.proofs.ChangeLaws.{not_held}
use Rattle.state.proofs.Tables.least_holder.Goals as goal

pub returns-then-hint_of-eq0 : goal.returns-then-hint_of-eq0
returns-then-hint_of-eq0 c =
    sym (none-least _ _ (not_held c.args.id c.args.self.now.good (ap namespace_hint (sym c.hint_of.ensures) ∙ c.if-hint_of-eq0.true)))
