-- `is_external`: the search finds a row just where the atom is among the externals, since atoms are below 2^16 (`external-told`).
use native.Mathlib.Omega.{arith}
use Rattle.state.proofs.SettingLaws.{external-told}
use Rattle.state.proofs.Tables.is_external.Goals as goal

pub returns : goal.returns
returns c = external-told c.args.self.now.good (omega arith) c.is_some.ensures c.find.ensures
