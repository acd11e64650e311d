-- `drop_import`: where no row has the key nothing is to be taken out (`absent`); else the row that is found is the only one, and the others
-- keep their hints (`import-dropped`).
use mathlib.Core.Path.{sym}
use Rattle.state.specs.Cells.{imports}
use Rattle.state.proofs.ListLaws.{first-below}
use Rattle.state.proofs.ChangeLaws.{row-dropped, imports-good, absent}
use Rattle.state.proofs.FrameLaws.{changed}
use Rattle.state.proofs.Tables.drop_import.Goals as goal

pub returns-in_default : goal.returns-in_default
returns-in_default c =
    absent imports c.args.id (sym c.in_default.ensures)

pub drop_row-requires : goal.drop_row-requires
drop_row-requires c =
    (c.args.self.now.good.lies imports, first-below _ _ _ _ (sym c.in-Some.ensures))

pub invariant_of-self : goal.invariant_of-self
invariant_of-self c =
    record {
      good = imports-good c.args.id c.args.self.now.good (row-dropped c.args.id _ c.args.self.now.good c.in-Some.ensures c.drop_row.ensures.0) c.drop_row.ensures.1;
    }

pub returns-in-Some : goal.returns-in-Some
returns-in-Some c =
    changed imports c.args.self.now.good c.drop_row.ensures.1 (row-dropped c.args.id _ c.args.self.now.good c.in-Some.ensures c.drop_row.ensures.0)
