-- `force_source`: forced before (`force-again`), new with room (`force-new`), or new without room. A full table shows no state that asks
-- for more (`force-full`): forced sources are sources of collected records, each once, and no more than 256 records are collected.
use mathlib.Core.Path.{subst}
use native.Mathlib.Omega.{arith}
use Rattle.tree.specs.Layout.{two}
use Rattle.inputs.specs.Lists.{among}
use Rattle.state.specs.Does.{Tells}
use Rattle.state.proofs.ForcedLaws.{forced-good, force-again, force-new, force-full}
use Rattle.state.proofs.Tables.force_source.Goals.{else-not-is_forced-via-then-not-is_forced+else-count_of, else-not-is_forced-via-else-not-is_forced}
use Rattle.state.proofs.Tables.force_source.Goals as goal

pub invariant_of-self : goal.invariant_of-self
invariant_of-self c =
    record { good = forced-good c.args.source.0 c.args.self.now.good (omega arith) (omega arith) c.push.ensures.0 c.push.ensures.1 }

pub returns-then-count_of : goal.returns-then-count_of
returns-then-count_of c =
    force-new c.args.source.0 c.args.self.now.good
    (subst (Tells (λ s. among (two c.args.source.0) s.forced) c.args.self.now.cells) c.if-not-is_forced.true c.is_forced.ensures)
    c.push.ensures.0 c.push.ensures.1

pub returns-else-not-is_forced : goal.returns-else-not-is_forced
returns-else-not-is_forced c =
    let a = c.args in
    elim c.else-not-is_forced.branch [
      | else-not-is_forced-via-then-not-is_forced+else-count_of w ↦
          force-full a.source.0 c.args.self.now.good (subst (Tells (λ s. among (two a.source.0) s.forced) a.self.now.cells) w.if-not-is_forced.true c.is_forced.ensures) (omega arith)
      | else-not-is_forced-via-else-not-is_forced w ↦
          force-again a.source.0 c.args.self.now.good (subst (Tells (λ s. among (two a.source.0) s.forced) a.self.now.cells) w.if-not-is_forced.false c.is_forced.ensures)
    ]
