-- `found_other` and `found_other_in`: the loop's invariant says that the row from here on answers what the whole row answers.
-- The measure is a field's length, and a row's length and one more: a field is no longer than the row around it, and its parts start
-- behind its head of three bytes.
use Prim.Native.Nat.{◌+◌}
use mathlib.Core.Path.{◌≡◌, sym, ap, ◌∙◌}
use native.Mathlib.Omega.{arith}
use Rattle.tree.specs.Rows.{fields_of}
use Rattle.tree.proofs.AccessLaws.{extent-upto, upto-in}
use Rattle.tree.proofs.PartLaws.{fields-same, part_tag}
use Rattle.detection.specs.Detection.{found_other_in}
use Rattle.detection.proofs.DetectionLaws.{found-none, found-more, found-short, found-upto}
use Rattle.detection.proofs.+found_other_found_other_in.Goals as goal

pub found_other-returns-in_default : goal.found_other-returns-in_default
found_other-returns-in_default t c =
    sym (found-short c.args.part (sym c.fixed.ensures ∙ c.in_default.is))

pub found_other-row-requires : goal.found_other-row-requires
found_other-row-requires t c =
    let p = c.args.part in
    let i = upto-in p.bytes.now (part_tag p) (p.at + 3) p.stop p.whole.0 (sym c.fixed.ensures ∙ c.in-Some.is) in
    omega arith

pub found_other-found_other_in-requires : goal.found_other-found_other_in-requires
found_other-found_other_in-requires t c =
    let p = c.args.part in
    let i = upto-in p.bytes.now (part_tag p) (p.at + 3) p.stop p.whole.0 (sym c.fixed.ensures ∙ c.in-Some.is) in
    let e = c.row-else-other_here.ensures in
    omega arith

pub found_other-returns-then-other_here : goal.found_other-returns-then-other_here
found_other-returns-then-other_here t c =
    rw (found-upto c.args.part c.row.result (sym c.fixed.ensures ∙ c.in-Some.is) c.row.ensures, ← c.tag.ensures, ← c.other_here.ensures, c.if-other_here.true)

pub found_other-returns-else-other_here : goal.found_other-returns-else-other_here
found_other-returns-else-other_here t c =
    let e : fields_of c.row-else-other_here.result ≡ fields_of c.row.result =
    fields-same c.row-else-other_here.result c.row.result c.row-else-other_here.ensures c.row.ensures in
    rw (found-upto c.args.part c.row.result (sym c.fixed.ensures ∙ c.in-Some.is) c.row.ensures, ← c.tag.ensures, ← c.other_here.ensures, c.if-other_here.false)
    (c.found_other_in.ensures ∙ ap found_other_in e)

pub found_other_in-returns : goal.found_other_in-returns
found_other_in-returns t c =
    let l = c.loop-part in
    sym (l.invariant.2 ∙ found-none l.part-iterator c.next.new.self c.in-None.ensures.steps)

pub found_other_in-found_other-requires : goal.found_other_in-found_other-requires
found_other_in-found_other-requires t c =
    let l = c.loop-part.invariant in
    let b = l.0 in
    let e = l.1 in
    let g = c.in-Some.ensures.steps in
    let at = g.1 in
    let i = extent-upto c.loop-part.part-iterator.bytes.now c.loop-part.part-iterator.at c.loop-part.part-iterator.end c.loop-part.part-iterator.inside.0 g.0 in
    omega arith

pub found_other_in-returns-then-found_other : goal.found_other_in-returns-then-found_other
found_other_in-returns-then-found_other t c =
    let l = c.loop-part in
    sym (l.invariant.2 ∙ found-more l.part-iterator c.in-Some.part c.next.new.self c.in-Some.ensures.steps ∙ rw (sym c.found_other.ensures ∙ c.if-found_other.true))

pub found_other_in-loop-part-preserved : goal.found_other_in-loop-part-preserved
found_other_in-loop-part-preserved t c =
    let l = c.loop-part in
    let g = c.in-Some.ensures.steps in
    let w = c.in-Some.part.whole.0 in
    let b = l.invariant.0 in (
      omega arith,
      g.4 ∙ l.invariant.1,
      l.invariant.2 ∙ found-more l.part-iterator c.in-Some.part c.next.new.self g ∙ rw (sym c.found_other.ensures ∙ c.if-found_other.false),
    )
