-- `from_cells`: the invariant says that the first k modules of the arrays are the first k in the cells.
-- `cells-taken` adds module k: its five stores touch no module before it. At the end k is n, which is at most 256.
use mathlib.Core.Path.{◌≡◌, refl}
use Prim.Native.Nat.{min}
use native.Mathlib.Omega.{arith}
use lib.ListN.{length-set}
use Rattle.scope.specs.ScopeValue.{modules_from, modules_of, modules_in}
use Rattle.scope.proofs.ScopeValueLaws.{cells-taken}
use Rattle.scope.proofs.Scope.from_cells.Goals as goal

pub loop-k-init : goal.loop-k-init
unfolding modules_from modules_in
loop-k-init c =
    (refl, omega arith, refl, refl)

pub loop-k-preserved : goal.loop-k-preserved
loop-k-preserved c = (
  cells-taken c.args.cells.now c.loop-k.files c.loop-k.marks c.args.base c.loop-k.k _
      c.slot-loaded.result c.slot-stored.result c.slot-cjs.result c.slot-wrapping.result c.last_bit.result c.last_bit-in-loop-k.result
      c.last_bit-in-loop-k-2.result c.last_bit-in-loop-k-3.result c.loop-k.invariant.2 c.loop-k.invariant.3 (omega arith) refl
      c.last_bit.ensures c.last_bit-in-loop-k.ensures c.last_bit-in-loop-k-2.ensures c.last_bit-in-loop-k-3.ensures c.slot-loaded.ensures.0
      c.slot-stored.ensures.0 c.slot-cjs.ensures.0 c.slot-wrapping.ensures.0 c.loop-k.invariant.0,
  omega arith,
  simp length-set
      c.loop-k.invariant.2,
  simp length-set c.loop-k.invariant.3,
)

pub returns : goal.returns
unfolding modules_of
returns c =
    let e : c.loop-k.k ≡ c.args.n = omega arith in
    let m : min c.args.n 256 ≡ c.args.n = omega arith in
    rw m (rw e at c.loop-k.invariant.0)
