-- `row_of`: the row that the hint names has the key, or all rows are searched, of which the one that is found is the first (`found-first`).
use Rattle.state.proofs.HintLaws.{found-first}
use Rattle.state.proofs.Tables.row_of.Goals as goal

pub returns : goal.returns
returns c = found-first c.find.ensures
