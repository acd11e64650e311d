-- `push`: `row-pushed` says that the three stores, the row's two cells and the count, make one row more and stay inside the table.
use native.Mathlib.Omega.{arith}
use Rattle.tables.proofs.OnlyLaws.{row-pushed}
use Rattle.tables.proofs.push.Goals as goal

pub returns : goal.returns
returns c =
    row-pushed c.args.b c.args.t.now c.count_of-n.result c.args.key c.args.value c.requires.0 c.count_of-n.ensures.0 (omega arith) _ c.put_row.ensures
