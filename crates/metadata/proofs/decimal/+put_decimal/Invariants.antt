-- `put_decimal`: one digit, or the others and then the last. The number falls.
use Rattle.metadata.proofs.decimal.+put_decimal.Given as goal

abbrev pub decreases-put_decimal : goal.decreases-put_decimal
decreases-put_decimal l = l.n
