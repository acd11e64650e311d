-- `take_specifier`: the invariant says that the specifiers of what is left are all of them, since only 2Fs were taken (`gives-skip`).
-- `gives-first` takes the first specifier.
use mathlib.Core.Path.{sym, ◌∙◌}
use Rattle.tree.specs.Rows.{tree_of}
use Rattle.records.proofs.SpecifierLaws.{gives-none, gives-skip, gives-first}
use Rattle.records.proofs.parts.take_specifier.Goals as goal

pub returns-then-tag-ne47 : goal.returns-then-tag-ne47
returns-then-tag-ne47 c =
    let p = c.in-Some.part in
    record {
      first = tree_of p;
      is = c.loop-part.invariant ∙ gives-first c.loop-part.row p c.next.new.self c.in-Some.ensures.steps (λ e. c.if-tag-ne47.true (c.tag_of-tag.ensures ∙ e));
      tagged = c.tag_of-tag.ensures;
    }

pub loop-part-preserved : goal.loop-part-preserved
loop-part-preserved c =
    c.loop-part.invariant
    ∙ gives-skip c.loop-part.row c.in-Some.part c.next.new.self c.in-Some.ensures.steps (sym c.tag_of-tag.ensures ∙ c.if-tag-ne47.false)

pub returns : goal.returns
returns c = c.loop-part.invariant ∙ gives-none c.loop-part.row c.next.new.self (rw c.in_default.is at c.next.ensures.steps)
