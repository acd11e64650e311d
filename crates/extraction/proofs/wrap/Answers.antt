-- `wrap`: the invariant `Wrapping` says that wrapping the forced sources from i on completes wrapping all of them.
-- The measure is 256 - i; `forces-most` says that at most 256 sources are forced.
use mathlib.Core.Path.{◌≡◌}
use native.Mathlib.Omega.{arith}
use Rattle.std.proofs.Common.{Err, rules}
use Rattle.extraction.proofs.WrapLaws.{wrapping-next, wrapping-turned, wrapping-over, forces-most}
use Rattle.extraction.proofs.wrap.Goals as goal

pub loop-i-smaller : goal.loop-i-smaller
loop-i-smaller c = let b = forces-most c.loop-i.t.good in omega (arith, c.count_forced.ensures.1)

pub loop-i-preserved : goal.loop-i-preserved
loop-i-preserved c =
    wrapping-next c.forced_at.result.0 c.loop-i.invariant c.forced_at.ensures c.wrap_source.ensures c.in_ok-wrap_source.was

pub returns-in_err-wrap_source : goal.returns-in_err-wrap_source
returns-in_err-wrap_source c =
    let h : c.from_residual.result ≡ Err c.in_err-wrap_source.field-0.0 = search rules in
    rw h
    (wrapping-turned c.forced_at.result.0 c.loop-i.invariant c.forced_at.ensures c.wrap_source.ensures c.in_err-wrap_source.was)

pub returns : goal.returns
returns c = wrapping-over c.loop-i.invariant c.count_forced.ensures.0 c.loop-i-test.false
