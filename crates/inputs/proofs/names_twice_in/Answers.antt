-- `names_twice_in`: the invariant says that this half names a source twice in the table just where one of its rows that are left has a source
-- that was met before, so that its bit is set, or two of them have the same (`twice_from`). A row of the other half is passed (`twice-past`);
-- one of this half is a hit (`twice-here`), or its bit is set now and it is passed (`twice-on`); with fewer than four bytes left there is no
-- row (`twice-end`).
use mathlib.Core.Path.{refl, sym, ap, ◌∙◌}
use native.Mathlib.Omega.{arith}
use Rattle.std.specs.Slice.Iter.{chunks_exact_rest}
use Rattle.inputs.specs.Bitmap.{half_of}
use Rattle.inputs.specs.Table.{rows_in}
use Rattle.inputs.proofs.SeenLaws.{twice_from, twice-first, taken, twice-past, twice-here, twice-on, twice-end}
use Rattle.inputs.proofs.names_twice_in.Goals as goal

pub loop-row-init : goal.loop-row-init
loop-row-init c =
    let rows = c.chunks_exact-row-items in
    let rest = rows.ensures.rest in
    let is = c.into_iter-row-iterator.ensures.into_iter_gives in
    let known = c.type_inv.table in (
      twice-first 512 (half_of c.args.half (rows_in c.args.table.now)) ∙ rw (is, rest),
      rw is (record { by_four = rows.ensures.size; bytes = rw rest (λ i. (known i).fits) }),
      refl,
    )

pub loop-row-preserved-then-source-half : goal.loop-row-preserved-then-source-half
loop-row-preserved-then-source-half c =
    let here = c.loop-row in
    let step = c.in-Some.ensures.steps in
    let source = c.atom_at-source in
    let row = taken c.in-Some.row.now here.invariant.1 step.1.0 step.1.1 in
    let past = twice-past row step.1.0 source.result source.ensures c.args.half here.seen c.if-source-half.true in
    (here.invariant.0 ∙ ap (twice_from here.seen) past, rw step.0 row.left, here.invariant.2)

pub returns-then-is_set : goal.returns-then-is_set
returns-then-is_set c =
    let here = c.loop-row in
    let step = c.in-Some.ensures.steps in
    let source = c.atom_at-source in
    let row = taken c.in-Some.row.now here.invariant.1 step.1.0 step.1.1 in
    let found = sym c.is_set.ensures ∙ c.if-is_set.true in
    sym (here.invariant.0 ∙ twice-here row step.1.0 source.result source.ensures c.args.half here.seen c.if-source-half.false found)

pub loop-row-preserved : goal.loop-row-preserved
loop-row-preserved c =
    let here = c.loop-row in
    let step = c.in-Some.ensures.steps in
    let source = c.atom_at-source in
    let row = taken c.in-Some.row.now here.invariant.1 step.1.0 step.1.1 in
    let new = sym c.is_set.ensures ∙ c.if-is_set.false in
    let met = c.set_bit.ensures in
    let on = twice-on row step.1.0 source.result source.ensures c.args.half here.seen c.if-source-half.false new met in
    (here.invariant.0 ∙ on, rw step.0 row.left, met.size ∙ here.invariant.2)

pub returns : goal.returns
returns c =
    let here = c.loop-row in
    let step = c.in-None.ensures.steps in
    let size = here.invariant.1.by_four in
    sym (here.invariant.0 ∙ twice-end (chunks_exact_rest here.row-iterator) c.args.half here.seen (omega (arith, step.1.0)))
