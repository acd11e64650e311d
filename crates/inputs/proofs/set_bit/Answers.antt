-- `set_bit`: an `or` with a shifted 1 sets the one bit (`with-bit`).
use native.Mathlib.Omega.{arith}
use Rattle.inputs.proofs.BitmapLaws.{with-bit}
use Rattle.inputs.proofs.set_bit.Goals as goal

pub returns : goal.returns
returns c =
    with-bit c.args.cells.now c.args.n (omega arith)
