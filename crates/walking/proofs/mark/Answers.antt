-- `mark`: by what `mark_required` gave; each answer has its law of AmendLaws. With a module the callee is set too (`marks-found`).
use Rattle.std.proofs.Common.{◌≡◌, ◌∙◌, ap, None, Ok, Err, rules}
use Rattle.scope.specs.declared.TooManyFiles.{TooManyFiles}
use Rattle.steps.specs.Refusal.{refusal}
use Rattle.steps.specs.declared.Why.TheVariants.{TooManyFiles as too-many}
use Rattle.walking.proofs.AmendLaws.{marks-found, marks-none, marks-full}
use Rattle.walking.proofs.mark.Goals as goal

pub returns-in_err-module : goal.returns-in_err-module
returns-in_err-module c =
    let h : c.from_residual.result ≡ Err (refusal too-many c.args.at) = search rules in
    let k : (e : TooManyFiles) × (c.mark_required.result ≡ Err e) = search rules in
    rw h (marks-full c.args.literal c.args.at c.mark_required.ensures k.1)

pub returns-in-Some : goal.returns-in-Some
returns-in-Some c =
    let h : c.mark_required.result ≡ Ok c.in_ok-module.module = search rules in
    marks-found c.args.literal c.args.at c.mark_required.ensures (h ∙ ap Ok c.in-Some.is) c.set_callee.ensures

pub returns-in_default : goal.returns-in_default
returns-in_default c =
    let h : c.mark_required.result ≡ Ok None = search rules in
    marks-none c.args.literal c.args.at c.mark_required.ensures h
