-- `add_held`: the hint is set first and names the namespaces, so the row may enter (`held-added`).
use native.Mathlib.Omega.{arith}
use mathlib.Core.Path.{ap}
use lib.ListN.{length}
use Rattle.state.specs.Cells.{namespaces}
use Rattle.state.proofs.ChangeLaws.{held-added, entered}
use Rattle.state.proofs.Tables.add_held.Goals as goal

pub push-requires : goal.push-requires
push-requires c =
    (c.set_hint.new.self.good.lies namespaces, let e = ap length (c.set_hint.ensures.0.same_rows namespaces) in omega arith)

pub invariant_of-self : goal.invariant_of-self
invariant_of-self c =
    record {
      good =
          held-added c.args.self.now.good c.set_hint.new.self.good c.set_hint.ensures.0 c.requires.0 c.requires.1 c.requires.2
          (let e = c.set_hint.ensures.1 in omega arith) c.push.ensures.0 c.push.ensures.1;
    }

pub returns : goal.returns
returns c =
    entered namespaces (c.args.id, c.args.i) c.set_hint.new.self.good c.set_hint.ensures.0 c.push.ensures.0 c.push.ensures.1
