-- `new`: an array of zeros has no rows, so it is good (`zero-good`).
use mathlib.Core.Path.{refl}
use Rattle.state.proofs.RestLaws.{zeros-good}
use Rattle.state.proofs.Tables.new.Goals as goal

pub invariant_of-result : goal.invariant_of-result
invariant_of-result c = record { good = zeros-good refl }
