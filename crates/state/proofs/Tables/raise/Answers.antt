-- `raise`: the cell grows, and stands beside the tables (`raise-set`), or it is as great already.
use native.Mathlib.Omega.{arith}
use Rattle.state.proofs.ChangeLaws.{raise-set, raise-good}
use Rattle.state.proofs.Tables.raise.Goals as goal

pub invariant_of-self : goal.invariant_of-self
invariant_of-self c =
    record { good = raise-good c.args.h c.args.hint c.args.self.now.good c.requires (omega arith) }

pub returns-then-self-h : goal.returns-then-self-h
returns-then-self-h c =
    raise-set c.args.h c.args.hint c.args.self.now.good c.requires (omega arith)
