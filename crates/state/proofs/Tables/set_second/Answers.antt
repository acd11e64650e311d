-- `set_second`: one cell beside the tables changes, to 1 (`second-set`).
use Rattle.state.proofs.SettingLaws.{second-set, second-good}
use Rattle.state.proofs.Tables.set_second.Goals as goal

pub invariant_of-self : goal.invariant_of-self
invariant_of-self c =
    record { good = second-good c.args.self.now.good }

pub returns : goal.returns
returns c = second-set c.args.self.now.good
