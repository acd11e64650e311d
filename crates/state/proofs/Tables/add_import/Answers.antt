-- `add_import`: the hint is set first and names the row to come; the id was not imported, so the keys stay distinct (`import-added`).
use native.Mathlib.Omega.{arith}
use mathlib.Core.Path.{ap}
use lib.ListN.{length}
use Rattle.state.specs.Cells.{imports}
use Rattle.state.proofs.ChangeLaws.{import-added, entered}
use Rattle.state.proofs.Tables.add_import.Goals as goal

pub push-requires : goal.push-requires
push-requires c =
    (c.set_hint.new.self.good.lies imports, let e = ap length (c.set_hint.ensures.0.same_rows imports) in omega arith)

pub invariant_of-self : goal.invariant_of-self
invariant_of-self c =
    record {
      good =
          import-added c.args.self.now.good c.set_hint.new.self.good c.set_hint.ensures.0 c.requires.0 c.requires.1 c.requires.2 c.requires.3
          (let e = c.set_hint.ensures.1 in omega arith) c.push.ensures.0 c.push.ensures.1;
    }

pub returns : goal.returns
returns c =
    entered imports (c.args.id, c.args.context) c.set_hint.new.self.good c.set_hint.ensures.0 c.push.ensures.0 c.push.ensures.1
