-- `is_forced`: a row with this key is found just where the source is among the forced ones (`forced-told`).
use native.Mathlib.Omega.{arith}
use Rattle.state.proofs.ForcedLaws.{forced-told}
use Rattle.state.proofs.Tables.is_forced.Goals as goal

pub returns : goal.returns
returns c = forced-told c.args.self.now.good (omega arith) c.is_some.ensures c.find.ensures
