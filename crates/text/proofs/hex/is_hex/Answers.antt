-- `is_hex`: two digits are one byte more; where they are none, or one character is left, the text is spelt by no bytes.
use Rattle.std.proofs.Common.{arith}
use Rattle.text.proofs.HexLaws.{not-spelt-pair}
use Rattle.text.proofs.PutLaws.{reading-start, reading-more, reading-none, reading-ends}
use Rattle.text.proofs.hex.is_hex.Goals as goal

pub loop-rest-init : goal.loop-rest-init
loop-rest-init c = reading-start c.args.s.now

pub returns-in_default-byte_of : goal.returns-in_default-byte_of
returns-in_default-byte_of c =
    reading-none c.args.s.now c.loop-rest.rest.now c.loop-rest.invariant (not-spelt-pair c.loop-rest.rest.now (omega arith) c.in_default-byte_of.ensures)

pub loop-rest-preserved : goal.loop-rest-preserved
loop-rest-preserved c =
    reading-more c.args.s.now c.loop-rest.rest.now c.loop-rest.invariant c.in-Some.field-0 (omega arith) c.in-Some.ensures.0 c.in-Some.ensures.1 c.in-Some.ensures.2

pub returns : goal.returns
returns c = reading-ends c.args.s.now c.loop-rest.rest.now c.loop-rest.invariant c.is_empty.result (λ e. grind arith) (λ e z. grind arith) (omega arith)
