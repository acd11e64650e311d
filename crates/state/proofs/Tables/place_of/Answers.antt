-- `place_of`: by the pass, which the cell tells (`place-second`, `place-first`); a remainder is below 65,536, so that the place has a limit.
use mathlib.Core.Path.{subst}
use native.Mathlib.Omega.{arith}
use Rattle.state.specs.Does.{Says, is_second}
use Rattle.state.proofs.SettingLaws.{place-second, place-first}
use Rattle.state.proofs.Tables.place_of.Goals as goal

pub returns-then-is_second : goal.returns-then-is_second
returns-then-is_second c =
    (place-second c.args.at (subst (Says (λ e. is_second e.pass) c.args.self.now.cells) c.if-is_second.true c.is_second.ensures), omega arith)

pub returns-else-is_second : goal.returns-else-is_second
returns-else-is_second c =
    (place-first c.args.at (subst (Says (λ e. is_second e.pass) c.args.self.now.cells) c.if-is_second.false c.is_second.ensures), omega arith)
