-- `copy_part`: the invariant: writing what is left of the part, from here, writes the whole of it.
use mathlib.Core.Path.{◌∙◌}
use native.Mathlib.Omega.{arith}
use Rattle.writer.proofs.Wrote.{wrote-none, wrote-slice, slice-none}
use Rattle.writer.proofs.copy_part.Goals as goal

pub loop-at-preserved : goal.loop-at-preserved
loop-at-preserved c =
    let a = c.args in
    let here = c.loop-at in
    let byte = c.put-to.ensures in (
      λ l p w. here.invariant.0 l p (wrote-slice a.s.now here.at a.end (omega arith) (omega arith) byte w),
      byte.size ∙ here.invariant.1,
    )

pub returns : goal.returns
returns c =
    let a = c.args in
    let here = c.loop-at in
    here.invariant.0 _ _ (rw (slice-none a.s.now here.at a.end (omega arith)) wrote-none)
