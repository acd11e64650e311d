-- `specifiers_end`: the invariant `Seeking` says that where the specifiers that are left end, those from `from` on end too.
-- They end at a 2F, or where the row does.
use mathlib.Core.Path.{sym, ◌∙◌}
use Rattle.imports.proofs.PartsLaws.{seeking-start, seeking-more, seeking-short, seeking-attributes}
use Rattle.imports.proofs.parts.specifiers_end.Goals as goal

pub loop-p-init : goal.loop-p-init
loop-p-init c =
    rw c.into_iter-p-iterator.ensures.into_iter_gives (seeking-start c.row-p-items.result c.row-p-items.ensures)

pub returns : goal.returns
returns c =
    seeking-short c.loop-p.invariant c.next.new.self c.in-None.ensures.steps

pub returns-then-tag-eq47 : goal.returns-then-tag-eq47
returns-then-tag-eq47 c =
    seeking-attributes c.loop-p.invariant c.next.new.self c.in-Some.p c.in-Some.ensures.steps (sym c.tag.ensures ∙ c.if-tag-eq47.true)

pub loop-p-preserved : goal.loop-p-preserved
loop-p-preserved c =
    seeking-more c.loop-p.invariant c.next.new.self c.in-Some.p c.in-Some.ensures.steps (λ e. c.if-tag-eq47.false (c.tag.ensures ∙ e))
