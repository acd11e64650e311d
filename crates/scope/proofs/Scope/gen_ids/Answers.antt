-- `gen_ids`: the invariant says that asking the scope so far for the files from the i-th pair of bytes on gives what asking for the whole
-- list gives. A file that is given is `list-goes-on`, one that is refused `list-stops`; with fewer than two bytes left it is `list-ends`.
use mathlib.Core.Path.{◌≡◌, refl, sym, ◌∙◌}
use Prim.Native.Nat.{◌+◌, ◌*◌}
use native.Mathlib.Omega.{arith}
use Rattle.scope.specs.ScopeValue.{modules_of}
use Rattle.scope.proofs.ScopeValueLaws.{list-goes-on, list-stops, list-ends}
use Rattle.scope.proofs.Scope.gen_ids.Goals as goal

pub returns-in-Err : goal.returns-in-Err
returns-in-Err c =
    sym (c.loop-i.invariant ∙ list-stops c.args.files.now (2 * c.loop-i.i) _ (modules_of c.loop-i.self) c.gen_id-g.result (omega arith) refl c.gen_id-g.ensures c.in-Err.is)

pub loop-i-preserved : goal.loop-i-preserved
loop-i-preserved c =
    let n : 2 * c.loop-i.i + 2 ≡ 2 * (c.loop-i.i + 1) = omega arith in
    c.loop-i.invariant
    ∙ rw n at (list-goes-on c.args.files.now (2 * c.loop-i.i) _ (modules_of c.loop-i.self) c.gen_id-g.result (omega arith) refl c.gen_id-g.ensures c.in_default.is)

pub returns : goal.returns
returns c =
    sym (c.loop-i.invariant ∙ list-ends c.args.files.now (2 * c.loop-i.i) (modules_of c.loop-i.self) (omega arith))
