-- `has_room`: the two tests together say that n is at most the lesser of 65,538 and the room.
use native.Mathlib.Omega.{arith}
use Rattle.std.proofs.lemmas.Bool.Decides.{nat_tests}
use Rattle.writer.specs.Finished.{has_room}
use Rattle.writer.proofs.has_room.Goals as goal

pub returns-then-n-le-LONGEST : goal.returns-then-n-le-LONGEST
unfolding has_room
returns-then-n-le-LONGEST c =
    grind (arith, nat_tests)

pub returns-else-n-le-LONGEST : goal.returns-else-n-le-LONGEST
unfolding has_room
returns-else-n-le-LONGEST c =
    grind (arith, nat_tests)
