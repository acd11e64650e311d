-- `copy_whole`: the invariant: writing what is left of the part, from its i-th byte on, writes the whole of it. A turn stores one byte
-- (`wrote-byte`) inside the buffer, since o + i is below o + (end - from), and no position is past its end.
use mathlib.Core.Path.{◌≡◌}
use Prim.Native.Nat.{◌+◌, ◌-◌}
use native.Mathlib.Omega.{arith}
use Rattle.writer.proofs.Wrote.{wrote-none, slice-none}
use Rattle.writer.proofs.copy_whole.Goals as goal

pub returns : goal.returns
returns c =
    let a = c.args in
    let here = c.loop-i in
    let e : a.o + here.i ≡ a.o + (a.end - a.from) = omega arith in
    here.invariant.0 _ _ (rw (slice-none a.s.now (a.from + here.i) a.end (omega arith), e) wrote-none)
