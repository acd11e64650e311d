-- `count_of`: the number in the count cell is the number of rows (`rows-length`), and `Lies` says that it is at most the room.
use native.Mathlib.Omega.{arith}
use Rattle.tables.proofs.RowLaws.{rows-length}
use Rattle.tables.proofs.count_of.Goals as goal

pub returns : goal.returns
returns c =
    let l = rows-length c.args.b c.args.t.now in let h = c.requires.held in omega arith
