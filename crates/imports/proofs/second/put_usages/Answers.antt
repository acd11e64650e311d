-- `put_usages`: the invariant `Listing` says that writing the usages from i on completes writing all of them.
-- `usages-end` says that from n on there is none.
use native.Mathlib.Omega.{arith}
use Rattle.state.specs.Cells.{id_by}
use Rattle.imports.proofs.TakenLaws.{listing-start, listing-more, usages-end}
use Rattle.imports.proofs.second.put_usages.Goals as goal

pub loop-i-init : goal.loop-i-init
loop-i-init c =
    listing-start (id_by c.args.id)

pub loop-i-preserved : goal.loop-i-preserved
loop-i-preserved c =
    listing-more c.loop-i.invariant c.put_usage-to.ensures c.put_usage-to.auto.out

pub returns : goal.returns
returns c =
    c.loop-i.invariant.rest _ _ (usages-end (id_by c.args.id) c.loop-i.i c.count_usages-n.ensures.0 (omega arith))
