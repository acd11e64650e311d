-- `split_front`: the field ends inside, and not before its head's end.
use Rattle.std.proofs.Common.{arith, sym, ◌∙◌, length}
use Rattle.tree.proofs.AccessLaws.{extent-upto}
use Rattle.show.proofs.buffer.split_front.Goals as goal

pub split_at-requires : goal.split_at-requires
split_at-requires c = omega (arith, extent-upto c.args.s.now 0 (length c.args.s.now) (omega arith) (sym c.extent.ensures ∙ c.in_ok-stop.was))

pub returns-clause-head : goal.returns-clause-head
returns-clause-head c = omega (arith, extent-upto c.args.s.now 0 (length c.args.s.now) (omega arith) (sym c.extent.ensures ∙ c.in_ok-stop.was))
