-- `note_all`: the invariant `Going` says that noting the fields that are left completes noting those of the whole row.
-- The loop ends at the end of the row, at a 2F (behind which a row that was read has nothing), or at a refusal.
use Rattle.std.proofs.Common.{◌≡◌, Err, rules}
use mathlib.Core.Path.{sym, ◌∙◌}
use Rattle.imports.proofs.NoteAllLaws.{going-start, going-end, going-attributes, going-more, going-refused}
use Rattle.imports.proofs.note.note_all.Goals as goal

pub loop-part-init : goal.loop-part-init
loop-part-init c =
    rw c.into_iter-part-iterator.ensures.into_iter_gives (going-start c.args.n.0 c.args.row)

pub returns : goal.returns
returns c =
    going-end c.args.n.0 c.loop-part.invariant c.next.new.self c.in-None.ensures.steps

pub returns-then-tag-eq47 : goal.returns-then-tag-eq47
returns-then-tag-eq47 c =
    going-attributes c.args.n.0 c.loop-part.invariant c.next.new.self c.in-Some.part c.in-Some.ensures.steps (sym c.tag.ensures ∙ c.if-tag-eq47.true)

pub loop-part-preserved : goal.loop-part-preserved
loop-part-preserved c =
    going-more c.args.n.0 c.loop-part.invariant c.next.new.self c.in-Some.part c.in-Some.ensures.steps (λ e. c.if-tag-eq47.false (c.tag.ensures ∙ e))
    c.note_specifier.ensures c.in_ok-to.was

pub returns-in_err-to : goal.returns-in_err-to
returns-in_err-to c =
    let h : c.from_residual.result ≡ Err c.in_err-to.field-0.0 = search rules in
    rw h
    (going-refused c.args.n.0 c.loop-part.invariant c.next.new.self c.in-Some.part c.in-Some.ensures.steps (λ e. c.if-tag-eq47.false (c.tag.ensures ∙ e))
    c.note_specifier.ensures c.in_err-to.was)
