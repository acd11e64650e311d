-- `lazy_literal`: the row at the place has the literal's number, and what stands there is the state's entry (`lazy-literal-at`).
use native.Mathlib.Omega.{arith}
use Rattle.state.proofs.PlaceLaws.{lazy-small, lazy-literal-at}
use Rattle.state.proofs.Tables.lazy_literal.Goals as goal

pub numbered_literal-requires : goal.numbered_literal-requires
numbered_literal-requires c =
    let b = (lazy-small c.args.self.now.good c.requires).0 in let e = c.key_of.ensures in omega arith

pub returns : goal.returns
returns c =
    lazy-literal-at c.numbered_literal.ensures.0 c.numbered_literal.ensures.1 c.requires c.key_of.ensures
