-- `to_cells`: the invariant says that the first k modules in the cells are the first k of the scope, and that only cells from base up to
-- base + 512 were written, files of two bytes and marks of four bits (`small-put`). `cells-put` adds module k, whose marks `four_bits` lets be
-- read back; `rewrites-set` allows the two stores.
use mathlib.Core.Path.{◌≡◌, refl, ◌∙◌}
use native.Mathlib.Omega.{arith}
use borrow.Author.Rules.{rules}
use Rattle.scope.specs.ScopeValue.{modules_from, modules_in}
use Rattle.scope.proofs.Laws.{rewrites-none, rewrites-set, small-put}
use Rattle.scope.proofs.ScopeValueLaws.{cells-put, modules-length, modules-first}
use Rattle.scope.proofs.Scope.to_cells.Goals as goal

pub loop-k-init : goal.loop-k-init
unfolding modules_from modules_in
loop-k-init c =
    (refl, omega arith, rewrites-none _ _ _, λ i h. absurd (omega arith))

pub loop-k-preserved : goal.loop-k-preserved
loop-k-preserved c = (
  cells-put c.loop-k.cells c.args.self.files c.args.self.marks c.args.base c.loop-k.k _
      c.four_bits.result c.slot-loaded.result c.slot-stored.result c.slot-cjs.result c.slot-wrapping.result (omega arith)
      refl (search rules) c.four_bits.ensures.0 c.four_bits.ensures.1 c.four_bits.ensures.2
      c.four_bits.ensures.3 c.slot-loaded.ensures.0 c.slot-stored.ensures.0 c.slot-cjs.ensures.0 c.slot-wrapping.ensures.0
      c.loop-k.invariant.0,
  omega arith,
  rewrites-set _ _ (omega arith) (omega arith)
      (rewrites-set _ _ (omega arith) (omega arith) c.loop-k.invariant.2),
  small-put c.loop-k.cells c.args.base c.loop-k.k _ c.four_bits.result (omega arith)
      (search rules) c.four_bits.ensures.4 c.loop-k.invariant.3,
)

pub returns : goal.returns
returns c =
    let l = modules-length c.args.self in
    let e : c.loop-k.k ≡ c.counted-n.result = omega arith in (
      omega arith,
      c.counted-n.ensures.1,
      rw e at c.loop-k.invariant.0
          ∙ modules-first c.args.self c.counted-n.result c.counted-n.ensures.0,
      c.loop-k.invariant.2,
      λ i h. c.loop-k.invariant.3 i (omega arith),
    )
