-- `put_decimal`: what stands before the last digit is a smaller number.
use Rattle.text.proofs.write.Text.+put_decimal.Given as goal

abbrev pub decreases-put_decimal : goal.decreases-put_decimal
decreases-put_decimal g l = l.n
