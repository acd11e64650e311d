-- `wrapped_exactly`: one way; `exact` joins the contract of the call with the theorem on lists of calls from a fresh scope on.
use Rattle.corollaries.proofs.PairLaws.{exact}
use Rattle.corollaries.proofs.wrapped_exactly.Goals as goal

pub returns : goal.returns
returns c =
    exact c.args.id c.args.scope c.should_be_wrapped_with_a_fn.result c.should_be_wrapped_with_a_fn.ensures
