-- `number_in`: what is left, behind the number so far, gives what the whole text gives.
use Rattle.std.proofs.Common.{◌≡◌, ◌≤◌, drop}
use Rattle.metadata.specs.Decimal.{number_from, limited}
use Rattle.metadata.proofs.decimal.number_in.Given as goal

abbrev pub invariant-loop-b : goal.invariant-loop-b
invariant-loop-b l = record { rest : limited (number_from l.n (drop l.b-index l.digits)) ≡ limited (number_from 0 l.digits); bound : l.n ≤ 4294967295 }
