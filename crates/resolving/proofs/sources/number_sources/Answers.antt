-- `resolving::sources::number_sources`: the invariant: numbering from here on gives what numbering from the
-- start gives.
use mathlib.Core.Path.{◌≡◌, refl, sym, ap, ◌∙◌}
use native.Mathlib.Omega.{arith}
use Rattle.std.proofs.lemmas.Result.{err_from_is_err_and}
use Rattle.inputs.specs.Table.{rows_in}
use Rattle.scope.specs.ScopeValue.{modules_of}
use Rattle.tree.specs.Standing.{row_at}
use Rattle.resolving_rules.specs.Resolve.{sources_in, number_all}
use Rattle.resolving.specs.Numbers.{number_by}
use Rattle.resolving.specs.Records.{RecordsIn, records_in}
use Rattle.tree.proofs.PartLaws.{walk-there}
use Rattle.resolving.proofs.RecordsLaws.{source-part, sources-end, sources-none}
use Rattle.resolving.proofs.NumbersLaws.{numbers-end, numbers-more, numbers-stop}
use Rattle.resolving.proofs.sources.number_sources.Goals as goal

pub loop-part-init : goal.loop-part-init
loop-part-init c =
    let rows = rows_in c.args.table.now in
    let ms = modules_of c.args.scope in
    walk-there c.into_iter-part-iterator.result c.new-part-items.result c.into_iter-part-iterator.ensures.into_iter_gives c.new-part-items.ensures
    (λ s n e. (number_all rows (sources_in (records_in c.args.records.now)) ms 3 ≡ number_all rows (sources_in (row_at s n e)) ms n) × RecordsIn s n e)
    (refl, c.requires.records)

pub literal_value-requires : goal.literal_value-requires
literal_value-requires c =
    let l = c.loop-part in
    let p = c.in-Some.part in
    let w = source-part l.part-iterator p c.next.new.self l.invariant.1 c.in-Some.ensures.steps (λ e. c.if-tag.false (c.tag.ensures ∙ e)) in
    let a = w.source.wide in
    let b = p.whole.1 in omega arith

pub returns-in_err-scope : goal.returns-in_err-scope
returns-in_err-scope c =
    let l = c.loop-part in
    let w = source-part l.part-iterator c.in-Some.part c.next.new.self l.invariant.1 c.in-Some.ensures.steps (λ e. c.if-tag.false (c.tag.ensures ∙ e)) in
    let passed = err_from_is_err_and c.from_residual.result c.from_residual.ensures.1 in
    rw (passed.1, passed.2)
    (numbers-stop (rows_in c.args.table.now) (modules_of l.scope) w c.literal_value.ensures
    (sym c.number_source.ensures ∙ ap number_by c.in_err-scope.was) ∙ sym l.invariant.0)

pub loop-part-preserved : goal.loop-part-preserved
loop-part-preserved c =
    let l = c.loop-part in
    let w = source-part l.part-iterator c.in-Some.part c.next.new.self l.invariant.1 c.in-Some.ensures.steps (λ e. c.if-tag.false (c.tag.ensures ∙ e)) in (
      l.invariant.0
          ∙ numbers-more (rows_in c.args.table.now) (modules_of l.scope) w c.literal_value.ensures
          (sym c.number_source.ensures ∙ ap number_by c.in_ok-scope.was),
      w.rest,
    )

pub returns-in-None : goal.returns-in-None
returns-in-None c =
    let l = c.loop-part in
    numbers-end (rows_in c.args.table.now) (modules_of l.scope) l.part-iterator.at (sources-none l.part-iterator c.next.new.self c.in-None.ensures.steps) ∙ sym l.invariant.0

pub returns-then-tag : goal.returns-then-tag
returns-then-tag c =
    let l = c.loop-part in
    numbers-end (rows_in c.args.table.now) (modules_of l.scope) l.part-iterator.at
    (sources-end l.part-iterator c.in-Some.part c.next.new.self l.invariant.1 c.in-Some.ensures.steps (sym c.tag.ensures ∙ c.if-tag.true)) ∙ sym l.invariant.0
