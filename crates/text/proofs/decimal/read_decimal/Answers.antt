-- `read_decimal`: a character that is no decimal digit stands in no number.
use Rattle.std.proofs.Common.{arith, get_or}
use Rattle.text.proofs.DecimalLaws.{number-bad, other-no-decimal, high-no-decimal}
use Rattle.text.proofs.decimal.read_decimal.Goals as goal

pub returns-in_err-digit : goal.returns-in_err-digit
returns-in_err-digit c =
    rw c.from_residual.ensures (number-bad c.args.s.now c.loop-c.c-index (omega arith) (other-no-decimal (get_or c.args.s.now c.loop-c.c-index 0) c.in_err-digit.ensures))

pub returns-then-digit-gt-NINE : goal.returns-then-digit-gt-NINE
returns-then-digit-gt-NINE c =
    number-bad c.args.s.now c.loop-c.c-index (omega arith)
    (high-no-decimal (get_or c.args.s.now c.loop-c.c-index 0) c.in_ok-digit.digit c.in_ok-digit.ensures (omega arith))
