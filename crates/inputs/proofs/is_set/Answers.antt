-- `is_set`: the definition is the same test.
use mathlib.Core.Path.{refl}
use Rattle.inputs.specs.Bitmap.{is_set}
use Rattle.inputs.proofs.is_set.Goals as goal

pub returns : goal.returns
unfolding is_set
returns c = refl
