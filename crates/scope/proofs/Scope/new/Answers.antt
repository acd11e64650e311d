-- `new`: a count of 0 stands for no modules, by computation.
use mathlib.Core.Path.{refl}
use Rattle.scope.specs.ScopeValue.{modules_from, modules_of}
use Rattle.scope.proofs.Scope.new.Goals as goal

pub returns : goal.returns
unfolding modules_of modules_from
returns c =
    refl
