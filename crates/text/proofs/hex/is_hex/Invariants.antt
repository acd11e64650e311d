-- `is_hex`: what is left of the text behind the digits of some bytes.
use Rattle.std.proofs.Common.{length}
use Rattle.text.proofs.PutLaws.{Reading}
use Rattle.text.proofs.hex.is_hex.Given as goal

abbrev pub invariant-loop-rest : goal.invariant-loop-rest
invariant-loop-rest l = Reading l.s l.rest

abbrev pub decreases-loop-rest : goal.decreases-loop-rest
decreases-loop-rest l = length l.rest
