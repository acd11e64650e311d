-- `first_named`: no record stands before the hint of its first namespace's name (`starts`).
use native.Mathlib.Omega.{arith}
use Rattle.state.proofs.ChangeLaws.{starts}
use Rattle.state.proofs.Tables.first_named.Goals as goal

pub returns : goal.returns
returns c =
    starts c.args.self.now.good (omega arith)
