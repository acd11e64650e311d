-- `resolving::sources::is_forced`: the invariant: whether the source is forced is what the records from here on say.
use mathlib.Core.Path.{◌≡◌, refl, sym, ◌∙◌}
use native.Mathlib.Omega.{arith}
use Rattle.inputs.specs.Lists.{among}
use Rattle.tree.specs.Layout.{two}
use Rattle.tree.specs.Standing.{row_at}
use Rattle.resolving_rules.specs.Resolve.{forced_in}
use Rattle.resolving.specs.Records.{RecordsIn, records_in}
use Rattle.tree.proofs.PartLaws.{walk-there}
use Rattle.resolving.proofs.RecordsLaws.{records-next, forced-end, forced-inside, forced-step}
use Rattle.resolving.proofs.sources.is_forced.Goals as goal

pub loop-part-init : goal.loop-part-init
loop-part-init c =
    let a = two c.args.source.0 in
    walk-there c.into_iter-part-iterator.result c.new-part-items.result c.into_iter-part-iterator.ensures.into_iter_gives c.new-part-items.ensures
    (λ s n e. (among a (forced_in (records_in c.args.records.now)) ≡ among a (forced_in (row_at s n e))) × RecordsIn s n e) (refl, c.requires.records)

pub forces-requires : goal.forces-requires
forces-requires c =
    let l = c.loop-part in
    let p = c.in-Some.part in
    let i = forced-inside c.args.source.0 (omega arith) l.part-iterator p c.next.new.self l.invariant.1 c.in-Some.ensures.steps in
    let w = p.whole.1 in omega arith

pub returns-then-forces : goal.returns-then-forces
returns-then-forces c =
    let l = c.loop-part in
    sym (l.invariant.0 ∙ forced-step c.args.source.0 (omega arith) l.part-iterator c.in-Some.part c.next.new.self l.invariant.1 c.in-Some.ensures.steps
    ∙ rw (sym c.forces.ensures ∙ c.if-forces.true))

pub loop-part-preserved : goal.loop-part-preserved
loop-part-preserved c =
    let l = c.loop-part in
    let p = c.in-Some in (
      l.invariant.0 ∙ forced-step c.args.source.0 (omega arith) l.part-iterator p.part c.next.new.self l.invariant.1 p.ensures.steps
          ∙ rw (sym c.forces.ensures ∙ c.if-forces.false),
      records-next l.part-iterator p.part c.next.new.self l.invariant.1 p.ensures.steps,
    )

pub returns : goal.returns
returns c =
    let l = c.loop-part in
    sym (l.invariant.0 ∙ forced-end c.args.source.0 (omega arith) l.part-iterator c.next.new.self c.in-None.ensures.steps)
