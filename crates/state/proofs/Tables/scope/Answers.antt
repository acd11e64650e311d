-- `scope_of`: the cells that `from_cells` reads are the rows of the modules' table (`modules-told`).
use Rattle.state.proofs.ModulesLaws.{modules-told}
use Rattle.state.proofs.Tables.scope.Goals as goal

pub returns : goal.returns
returns c =
    modules-told c.count_of.ensures.0 c.from_cells.ensures
