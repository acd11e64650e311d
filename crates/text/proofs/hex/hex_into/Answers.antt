-- `hex_into`: two digits are one byte more; where they are none, or one character is left, the text is spelt by no bytes; where it goes on and `out` is full, by none that have room.
use Rattle.std.proofs.Common.{arith}
use Rattle.text.proofs.HexLaws.{not-spelt-pair, not-spelt-one}
use Rattle.text.proofs.PutLaws.{putting-start, putting-more, putting-full, putting-none, putting-ends}
use Rattle.text.proofs.hex.hex_into.Goals as goal

pub loop-rest-init : goal.loop-rest-init
loop-rest-init c = putting-start c.args.s.now c.args.out.now

pub returns-in_err-byte : goal.returns-in_err-byte
returns-in_err-byte c =
    rw c.from_residual.ensures
    (putting-none c.args.s.now c.loop-rest.rest.now c.args.out.now c.loop-rest.count c.loop-rest.out c.loop-rest.invariant
    (not-spelt-pair c.loop-rest.rest.now (omega arith) c.in_err-byte.ensures))

pub returns-then-out-count : goal.returns-then-out-count
returns-then-out-count c =
    putting-full c.args.s.now c.loop-rest.rest.now c.args.out.now c.loop-rest.count c.loop-rest.out c.loop-rest.invariant (omega arith) (omega arith)

pub loop-rest-preserved : goal.loop-rest-preserved
loop-rest-preserved c =
    putting-more c.args.s.now c.loop-rest.rest.now c.args.out.now c.loop-rest.count c.loop-rest.out c.loop-rest.invariant
    c.in_ok-byte.byte (omega arith) (omega arith) c.in_ok-byte.ensures.0 c.in_ok-byte.ensures.1 c.in_ok-byte.ensures.2

pub returns-then-is_empty : goal.returns-then-is_empty
returns-then-is_empty c =
    putting-ends c.args.s.now c.loop-rest.rest.now c.args.out.now c.loop-rest.count c.loop-rest.out c.loop-rest.invariant (grind arith)

pub returns-else-is_empty : goal.returns-else-is_empty
returns-else-is_empty c =
    putting-none c.args.s.now c.loop-rest.rest.now c.args.out.now c.loop-rest.count c.loop-rest.out c.loop-rest.invariant
    (not-spelt-one c.loop-rest.rest.now (omega arith) (λ e. grind arith))
