-- `forced_es6`: the invariant says that the items from here on answer what all items answer, and that reading accepts them
-- (`accepted-on`): so the tag that is tested is that of the field that stands there (`forced-more`).
use mathlib.Core.Path.{sym, ◌∙◌}
use native.Mathlib.Omega.{arith}
use Rattle.tree.proofs.GrammarLaws.{within-true, within-below, within-above}
use Rattle.tree.proofs.PartLaws.{part_tag}
use Rattle.detection.proofs.DetectionLaws.{forced-none, forced-more, accepted-on}
use Rattle.detection.proofs.forced_es6.Goals as goal

pub returns : goal.returns
returns c =
    let l = c.loop-part in
    sym (l.invariant.0 ∙ forced-none l.part-iterator c.next.new.self c.in-None.ensures.steps)

pub returns-in-16-to-20 : goal.returns-in-16-to-20
returns-in-16-to-20 c =
    let l = c.loop-part in
    let p = c.in-Some in
    let t = c.tag.ensures in
    sym (l.invariant.0 ∙ forced-more l.part-iterator p.part c.next.new.self p.ensures.steps l.invariant.1
    ∙ rw (within-true 0x10 0x14 (part_tag p.part) (omega arith) (omega arith)))

pub loop-part-preserved-then-tag-lt16 : goal.loop-part-preserved-then-tag-lt16
loop-part-preserved-then-tag-lt16 c =
    let l = c.loop-part in
    let p = c.in-Some in
    let t = c.tag.ensures in (
      l.invariant.0 ∙ forced-more l.part-iterator p.part c.next.new.self p.ensures.steps l.invariant.1
          ∙ rw (within-below 0x10 0x14 (part_tag p.part) (omega arith)),
      accepted-on l.part-iterator p.part c.next.new.self p.ensures.steps l.invariant.1,
    )

pub loop-part-preserved : goal.loop-part-preserved
loop-part-preserved c =
    let l = c.loop-part in
    let p = c.in-Some in
    let t = c.tag.ensures in (
      l.invariant.0 ∙ forced-more l.part-iterator p.part c.next.new.self p.ensures.steps l.invariant.1
          ∙ rw (within-above 0x10 0x14 (part_tag p.part) (omega arith) (omega arith)),
      accepted-on l.part-iterator p.part c.next.new.self p.ensures.steps l.invariant.1,
    )
