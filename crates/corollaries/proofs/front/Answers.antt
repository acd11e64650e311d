-- `front`: a buffer that is no longer than its field is taken whole (`front-cut`); otherwise the field ends where its length says
-- (`front-whole`).
use Prim.Native.Nat.{◌+◌, ◌*◌}
use Rattle.corollaries.proofs.PairLaws.{front-cut, front-whole}
use native.Mathlib.Omega.{arith}
use Rattle.corollaries.proofs.front.Goals as goal

pub returns-then-s-lt3 : goal.returns-then-s-lt3
returns-then-s-lt3 c =
    (front-cut c.args.s.now (omega arith), omega arith)

pub returns-then-end-s : goal.returns-then-end-s
returns-then-end-s c =
    (front-whole c.args.s.now (3 + c.wide.result * 256 + c.wide-2.result) (omega (arith, c.wide.ensures, c.wide-2.ensures)), omega arith)

pub returns-else-end-s : goal.returns-else-end-s
returns-else-end-s c =
    (front-cut c.args.s.now (omega (arith, c.wide.ensures, c.wide-2.ensures, c.if-end-s.false)), omega arith)
