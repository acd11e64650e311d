-- `gen_ids`: the invariant says that asking the scope so far for the files from the i-th pair of bytes on gives what asking for the whole
-- list gives. A file that is given is `list-goes-on`, one that is refused `list-stops`; with fewer than two bytes left it is `list-ends`.
use mathlib.Core.Path.{◌≡◌}
use Prim.Native.Nat.{◌*◌}
use lib.ListN.{drop}
use Rattle.scope.specs.Modules.{files_in, request_all}
use Rattle.scope.specs.ScopeValue.{modules_of}
use Rattle.scope.proofs.Scope.gen_ids.Given as goal

abbrev pub invariant-loop-i : goal.invariant-loop-i
invariant-loop-i l = request_all (files_in l.files) (modules_of l.initial.self) ≡ request_all (files_in (drop (2 * l.i) l.files)) (modules_of l.self)
