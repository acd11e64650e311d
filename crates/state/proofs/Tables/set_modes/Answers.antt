-- `set_modes`: by the one mode there is; the cell then has its flag (`modes-set`).
use Rattle.state.proofs.SettingLaws.{modes-set, modes-good}
use Rattle.state.proofs.Tables.set_modes.Goals as goal

pub invariant_of-self : goal.invariant_of-self
invariant_of-self c =
    record { good = modes-good c.args.modes c.args.self.now.good }

pub returns : goal.returns
returns c = modes-set c.args.modes c.args.self.now.good
