-- `put_modules`: the invariant says that with the modules from i on all n are written; `module-written` splits off the one at i.
-- The measure is n - i.
use mathlib.Core.Path.{refl, ◌∙◌}
use Rattle.tychodrel.proofs.ListingLaws.{module-written, all-left, none-left}
use Rattle.tychodrel.proofs.listing.put_modules.Goals as goal

pub loop-i-init : goal.loop-i-init
loop-i-init c =
    (λ l p w. all-left c.args.cells.now c.args.n w, refl)

pub loop-i-preserved : goal.loop-i-preserved
loop-i-preserved c = (
  λ l p w. c.loop-i.invariant.0 l p
      (module-written c.args.cells.now c.args.n c.loop-i.i c.loop-i-test.true c.low_file.ensures c.low_marks.ensures
      c.put_u16-to.ensures c.put-to.ensures w),
  c.put-to.ensures.size ∙ c.put_u16-to.ensures.size
      ∙ c.loop-i.invariant.1,
)

pub returns : goal.returns
returns c =
    c.loop-i.invariant.0 _ _ (none-left c.args.cells.now c.args.n c.loop-i.i c.loop-i-test.false)
