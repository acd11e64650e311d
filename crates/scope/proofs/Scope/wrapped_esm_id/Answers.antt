-- `wrapped_esm_id`: where a reading of the two marks is refused, the rule refuses (`esm-refused`). Two values determine the rule's answer
-- (`esm-read`); then a split on each of them.
use mathlib.Core.Path.{◌≡◌, sym, ◌∙◌, ap}
use borrow.Author.Rules.{rules}
use Rattle.scope.specs.declared.Mark.TheVariants.{Stored, Wrapping}
use Rattle.scope.specs.Modules.{refused, not_given}
use Rattle.scope.specs.ScopeValue.{modules_of, read_by, esm_by}
use Rattle.scope.proofs.Laws.{esm-read, esm-refused}
use Rattle.scope.proofs.Scope.wrapped_esm_id.Goals.{else-wrapping-via-then-wrapping+else-stored, else-wrapping-via-else-wrapping}
use Rattle.scope.proofs.Scope.wrapped_esm_id.Goals as goal

pub returns-in_err-wrapping : goal.returns-in_err-wrapping
returns-in_err-wrapping c =
    let w = esm-refused Wrapping c.args.id (modules_of c.args.self) (sym c.should_be_wrapped_with_a_fn.ensures ∙ ap read_by c.in_err-wrapping.was) in
    let e : esm_by c.from_residual.result ≡ refused not_given = search rules in
    e ∙ sym w

pub returns-in_err-stored : goal.returns-in_err-stored
returns-in_err-stored c =
    let s = esm-refused Stored c.args.id (modules_of c.args.self) (sym c.is_stored.ensures ∙ ap read_by c.in_err-stored.was) in
    let e : esm_by c.from_residual-in_err-stored.result ≡ refused not_given = search rules in
    e ∙ sym s

pub returns-then-stored : goal.returns-then-stored
returns-then-stored c =
    let w = sym c.should_be_wrapped_with_a_fn.ensures ∙ ap read_by c.in_ok-wrapping.was in
    let s = sym c.is_stored.ensures ∙ ap read_by c.in_ok-stored.was in
    let r = esm-read c.args.id (modules_of c.args.self) c.in_ok-wrapping.wrapping c.in_ok-stored.stored w s in
    sym (r ∙ rw (c.if-wrapping.true, c.if-stored.true, c.export_ctxt.ensures))

pub returns-else-wrapping : goal.returns-else-wrapping
returns-else-wrapping c =
    let w = sym c.should_be_wrapped_with_a_fn.ensures ∙ ap read_by c.in_ok-wrapping.was in
    let s = sym c.is_stored.ensures ∙ ap read_by c.in_ok-stored.was in
    let r = esm-read c.args.id (modules_of c.args.self) c.in_ok-wrapping.wrapping c.in_ok-stored.stored w s in
    sym (r ∙ elim c.else-wrapping.branch [
      | else-wrapping-via-then-wrapping+else-stored w ↦ rw (w.if-wrapping.true, w.if-stored.false)
      | else-wrapping-via-else-wrapping w ↦ rw w.if-wrapping.false
    ])
