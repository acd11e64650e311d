-- `import_row`: without a hint no row has the key (`not-imported`); a row with the key is the first, since keys stand once (`finds-row`).
use mathlib.Core.Path.{sym, ap, ◌∙◌}
use Rattle.state.specs.Cells.{imports, import_hint}
use Rattle.state.proofs.HintLaws.{finds-row}
use Rattle.state.proofs.ChangeLaws.{not-imported}
use Rattle.state.proofs.Tables.import_row.Goals as goal

pub row_of-requires : goal.row_of-requires
row_of-requires c =
    (c.args.self.now.good.lies imports, λ e. not-imported c.args.id c.args.self.now.good (ap import_hint (sym c.hint_of.ensures) ∙ e))

pub returns : goal.returns
returns c = finds-row (c.args.self.now.good.hinted imports).1 c.row_of.ensures
