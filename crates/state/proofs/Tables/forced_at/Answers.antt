-- `forced_at`: the row's key is the forced source at this place (`forced-source`). It fits two bytes (`forced-small`), as the cast needs.
use Rattle.state.proofs.PlaceLaws.{forced-small, forced-source}
use native.Mathlib.Omega.{arith}
use Rattle.state.proofs.Tables.forced_at.Goals as goal

pub overflow_cast-result : goal.overflow_cast-result
overflow_cast-result c =
    let b = forced-small c.args.self.now.good c.requires c.key_of.ensures in omega arith

pub returns : goal.returns
returns c =
    forced-source c.requires c.key_of.ensures
