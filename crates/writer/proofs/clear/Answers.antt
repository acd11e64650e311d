-- `clear`: `fill` leaves as many zeros as there were bytes.
use borrow.Author.Rules.{rules}
use Rattle.writer.specs.Finished.{zeroed}
use Rattle.writer.proofs.clear.Goals as goal

pub returns : goal.returns
unfolding zeroed
returns c =
    search rules
