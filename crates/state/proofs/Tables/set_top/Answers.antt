-- `set_top`: `top-set` says that storing a flag's number in its cell sets it in the state and changes no table.
use Rattle.state.proofs.RestLaws.{top-set, top-good}
use Rattle.state.proofs.Tables.set_top.Goals as goal

pub invariant_of-self : goal.invariant_of-self
invariant_of-self c =
    record { good = top-good c.args.top c.args.self.now.good }

pub returns : goal.returns
returns c = top-set c.args.top c.args.self.now.good
