-- `read_decimal`: the characters so far are the digits of n.
use Rattle.std.proofs.Common.{◌≡◌, ◌^◌, ◌<◌, take}
use Rattle.text.specs.Digits.{last_digits}
use Rattle.text.proofs.decimal.read_decimal.Given as goal

abbrev pub invariant-loop-c : goal.invariant-loop-c
invariant-loop-c l = record { text : take l.c-index l.s ≡ last_digits 10 l.c-index l.n; bound : l.n < 10 ^ l.c-index }
