-- `fixed_of`: for 90, 91 and 92 it is arithmetic; for every other tag the fixed bytes end inside the field.
use Rattle.std.proofs.Common.{arith}
use Rattle.show.proofs.Reaches.{fixed-some}
use Rattle.show.proofs.resolved.fixed_of.Goals as goal

pub returns-in_default : goal.returns-in_default
returns-in_default c = rw c.fixed.ensures (fixed-some c.args.s.now c.args.tag c.args.at c.args.stop (omega arith))
