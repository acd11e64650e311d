-- `set_own`: one cell beside the tables changes, to a number of two bytes (`own-set`).
use native.Mathlib.Omega.{arith}
use Rattle.state.proofs.SettingLaws.{own-set, own-good}
use Rattle.state.proofs.Tables.set_own.Goals as goal

pub invariant_of-self : goal.invariant_of-self
invariant_of-self c =
    record { good = own-good c.args.own.0 (omega arith) c.args.self.now.good }

pub returns : goal.returns
returns c = own-set c.args.own.0 c.args.self.now.good
