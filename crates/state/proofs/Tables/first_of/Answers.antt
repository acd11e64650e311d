-- `first_of`: no record stands before the hint of its literal's value (`opens`).
use native.Mathlib.Omega.{arith}
use Rattle.state.proofs.ChangeLaws.{opens}
use Rattle.state.proofs.Tables.first_of.Goals as goal

pub returns : goal.returns
returns c =
    opens c.args.literal c.args.self.now.good (omega arith)
