-- `is_used`: without a hint no row has the key (`not-used`); there is a row with the key where one is found (`finds-some`).
use mathlib.Core.Path.{sym, ap, ◌∙◌}
use Rattle.state.specs.Cells.{uses, use_hint}
use Rattle.state.proofs.HintLaws.{finds-some}
use Rattle.state.proofs.ChangeLaws.{not-used}
use Rattle.state.proofs.Tables.is_used.Goals as goal

pub row_of-requires : goal.row_of-requires
row_of-requires c =
    (c.args.self.now.good.lies uses, λ e. not-used c.args.id c.args.self.now.good (ap use_hint (sym c.hint_of.ensures) ∙ e))

pub returns : goal.returns
returns c = c.is_some.ensures ∙ finds-some c.row_of.ensures
