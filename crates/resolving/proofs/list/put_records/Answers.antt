-- `resolving::list::put_records`: the invariant: with the records from here on, all of them are written; their
-- sources have numbers. A record stands in the bytes of all, which its contract speaks of.
use Prim.Native.Nat.{ℕ}
use mathlib.Core.Path.{◌≡◌, refl, sym, ap, subst, ◌∙◌}
use mathlib.Core.List.{List}
use Rattle.std.proofs.lemmas.Result.{err_from_is_err_and}
use Rattle.inputs.specs.Table.{rows_in}
use Rattle.scope.specs.ScopeValue.{modules_of}
use Rattle.tree.specs.Standing.{row_at}
use Rattle.resolving_rules.specs.Resolve.{sources_in, forced_in, resolved_all}
use Rattle.resolving.specs.Records.{RecordsIn, RecordsRead, records_in}
use Rattle.resolving.specs.Numbers.{NumbersAll}
use Rattle.resolving.specs.Writes.{Onward}
use Rattle.tree.proofs.PartLaws.{walk-there}
use Rattle.resolving.proofs.RecordsLaws.{source-part, sources-end, sources-none}
use Rattle.resolving.proofs.WritesLaws.{onward-all, onward-end, onward-more, onward-stop}
use Rattle.resolving.proofs.ListLaws.{list-end, list-more, numbers-next}
use Rattle.resolving.proofs.list.put_records.Goals as goal

pub loop-part-init : goal.loop-part-init
loop-part-init c =
    let a = c.args in
    let rows = rows_in a.table.now in
    let forced = forced_in (records_in a.records.now) in
    let ms = modules_of a.scope in
    walk-there c.into_iter-part-iterator.result c.new-part-items.result c.into_iter-part-iterator.ensures.into_iter_gives c.new-part-items.ensures
    (λ s n e. (s ≡ a.records.now)
    × Onward (resolved_all rows forced ms (sources_in (records_in a.records.now)) 3) (resolved_all rows forced ms (sources_in (row_at s n e)) n) a.list.now a.o a.list.now a.o
    × RecordsIn s n e
    × NumbersAll rows ms (sources_in (row_at s n e)))
    (refl, onward-all, c.requires.0.records, c.requires.1)

pub put_record-requires : goal.put_record-requires
put_record-requires c =
    let l = c.loop-part in
    let g = c.in-Some.ensures.steps in
    let w = source-part l.part-iterator c.in-Some.part c.next.new.self l.invariant.2 g (λ e. c.if-tag.false (c.tag.ensures ∙ e)) in (
      subst RecordsRead (sym (g.5 ∙ l.invariant.0)) c.requires.0,
      w.source,
      (numbers-next (rows_in c.args.table.now) (forced_in (records_in c.args.records.now)) (modules_of c.args.scope) w l.invariant.3).0,
    )

pub loop-part-preserved : goal.loop-part-preserved
loop-part-preserved c =
    let l = c.loop-part in
    let g = c.in-Some.ensures.steps in
    let rows = rows_in c.args.table.now in
    let forced = forced_in (records_in c.args.records.now) in
    let ms = modules_of c.args.scope in
    let w = source-part l.part-iterator c.in-Some.part c.next.new.self l.invariant.2 g (λ e. c.if-tag.false (c.tag.ensures ∙ e)) in
    let told = ap (λ (s : List ℕ). forced_in (records_in s)) (g.5 ∙ l.invariant.0) in
    (g.2 ∙ l.invariant.0, onward-more l.invariant.1 (list-more rows forced ms w told) c.put_record.ensures c.in_ok-to.was, w.rest, (numbers-next rows forced ms w l.invariant.3).1)

pub returns-in_err-to : goal.returns-in_err-to
returns-in_err-to c =
    let l = c.loop-part in
    let g = c.in-Some.ensures.steps in
    let w = source-part l.part-iterator c.in-Some.part c.next.new.self l.invariant.2 g (λ e. c.if-tag.false (c.tag.ensures ∙ e)) in
    let told = ap (λ (s : List ℕ). forced_in (records_in s)) (g.5 ∙ l.invariant.0) in
    let more = list-more (rows_in c.args.table.now) (forced_in (records_in c.args.records.now)) (modules_of c.args.scope) w told in
    let passed = err_from_is_err_and c.from_residual.result c.from_residual.ensures.1 in
    rw (passed.1, passed.2) (onward-stop l.invariant.1 more c.put_record.ensures c.in_err-to.was)

pub returns-in-None : goal.returns-in-None
returns-in-None c =
    let l = c.loop-part in
    onward-end l.invariant.1
    (list-end (rows_in c.args.table.now) (forced_in (records_in c.args.records.now)) (modules_of c.args.scope) l.part-iterator.at
    (sources-none l.part-iterator c.next.new.self c.in-None.ensures.steps))

pub returns-then-tag : goal.returns-then-tag
returns-then-tag c =
    let l = c.loop-part in
    onward-end l.invariant.1
    (list-end (rows_in c.args.table.now) (forced_in (records_in c.args.records.now)) (modules_of c.args.scope) l.part-iterator.at
    (sources-end l.part-iterator c.in-Some.part c.next.new.self l.invariant.2 c.in-Some.ensures.steps (sym c.tag.ensures ∙ c.if-tag.true)))
