-- `add_use`: the hint is set first and names the row to come, so it may enter (`use-added`).
use native.Mathlib.Omega.{arith}
use mathlib.Core.Path.{ap}
use lib.ListN.{length}
use Rattle.state.specs.Cells.{uses}
use Rattle.state.proofs.ChangeLaws.{use-added, entered}
use Rattle.state.proofs.Tables.add_use.Goals as goal

pub push-requires : goal.push-requires
push-requires c =
    (c.set_hint.new.self.good.lies uses, let e = ap length (c.set_hint.ensures.0.same_rows uses) in omega arith)

pub invariant_of-self : goal.invariant_of-self
invariant_of-self c =
    record {
      good =
          use-added c.args.self.now.good c.set_hint.new.self.good c.set_hint.ensures.0 c.requires.0 c.requires.1 c.requires.2
          (let e = c.set_hint.ensures.1 in omega arith) c.push.ensures.0 c.push.ensures.1;
    }

pub returns : goal.returns
returns c =
    entered uses (c.args.id, c.args.property) c.set_hint.new.self.good c.set_hint.ensures.0 c.push.ensures.0 c.push.ensures.1
