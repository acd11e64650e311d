-- `hex_into`: so many bytes are put, and what is left of the text.
use Rattle.std.proofs.Common.{length}
use Rattle.text.proofs.PutLaws.{Putting}
use Rattle.text.proofs.hex.hex_into.Given as goal

abbrev pub invariant-loop-rest : goal.invariant-loop-rest
invariant-loop-rest l = Putting l.s l.rest l.initial.out l.count l.out

abbrev pub decreases-loop-rest : goal.decreases-loop-rest
decreases-loop-rest l = length l.rest
