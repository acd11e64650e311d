-- `set_cell`: storing a cell that leaves out nothing changes what stands aside of the tables alone (`cell-set`).
use Rattle.state.proofs.ChangeLaws.{cell-set, cell-good}
use Rattle.state.proofs.Tables.set_cell.Goals as goal

pub invariant_of-self : goal.invariant_of-self
invariant_of-self c =
    record { good = cell-good c.args.h c.args.v c.args.self.now.good c.requires.0 c.requires.1 }

pub returns : goal.returns
returns c =
    cell-set c.args.h c.args.v c.args.self.now.good c.requires.0
