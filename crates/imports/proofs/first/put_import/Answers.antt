-- `put_import`: without a module the import is copied (`put-unresolved`). With one, by whether `note_all` refused: `put-resolved` joins the written
-- head, specifiers and attributes into the rule's field, and `put-refused` passes the refusal on. `head-in` gives the bounds.
use native.Mathlib.Omega.{arith}
use mathlib.Core.Path.{◌≡◌, ◌∙◌}
use Rattle.std.proofs.Common.{None, Err, rules}
use Rattle.imports.proofs.HeadLaws.{headed, head-in}
use Rattle.imports.proofs.FirstLaws.{put-unresolved, put-resolved, put-refused}
use Rattle.imports.proofs.first.put_import.Goals as goal

pub returns-in_default : goal.returns-in_default
returns-in_default c =
    let h : c.args.found ≡ None = search rules in
    rw h (put-unresolved (headed c.args.part.now c.requires.0 c.requires.1) c.copy.ensures)

pub begin_field-content-requires : goal.begin_field-content-requires
begin_field-content-requires c =
    let i = head-in (headed c.args.part.now c.requires.0 c.requires.1) in omega arith

pub row-requires : goal.row-requires
row-requires c =
    (head-in (headed c.args.part.now c.requires.0 c.requires.1)).1

pub specifiers_end-requires : goal.specifiers_end-requires
specifiers_end-requires c =
    (head-in (headed c.args.part.now c.requires.0 c.requires.1)).1

pub row-attributes-requires : goal.row-attributes-requires
row-attributes-requires c =
    c.specifiers_end.ensures.before

pub returns : goal.returns
returns c =
    let r = c.row.ensures in
    let a = c.row-attributes.ensures in
    let k = c.close_field.auto.out ∙ c.put_context_attributes-p.auto.out ∙ c.note_all.auto.out ∙ c.begin_field-content.auto.out in
    rw c.in-Some.is
    (put-resolved (headed c.args.part.now c.requires.0 c.requires.1) c.in-Some.n.0
    c.begin_field-content.ensures (rw (r.0, r.1, r.2) at c.note_all.ensures) c.in_ok-q.was
    c.specifiers_end.ensures (rw (a.0, a.1, a.2) at c.put_context_attributes-p.ensures) c.close_field.ensures k)

pub returns-in_err-q : goal.returns-in_err-q
returns-in_err-q c =
    let r = c.row.ensures in
    let h : c.from_residual.result ≡ Err c.in_err-q.field-0.0 = search rules in
    rw (c.in-Some.is, h)
    (put-refused (headed c.args.part.now c.requires.0 c.requires.1) c.in-Some.n.0
    c.begin_field-content.ensures (rw (r.0, r.1, r.2) at c.note_all.ensures) c.in_err-q.was)
