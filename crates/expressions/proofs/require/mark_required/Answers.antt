-- `mark_required`: by what `module_for` gave; each answer has its law of MarkLaws.
-- The laws split the rule into finding the module and marking it.
use Rattle.std.proofs.Common.{◌≡◌, ◌∙◌, ap, None, Ok, Err, rules}
use Rattle.expressions.proofs.MarkLaws.{mark-marked, mark-unresolved, mark-full}
use Rattle.expressions.proofs.require.mark_required.Goals as goal

pub returns-in_err-module : goal.returns-in_err-module
returns-in_err-module c =
    let h : c.from_residual.result ≡ Err c.in_err-module.field-0.0 = search rules in
    rw h (mark-full c.args.literal c.module_for.ensures c.in_err-module.was)

pub returns-in-Some : goal.returns-in-Some
returns-in-Some c =
    mark-marked c.args.literal c.module_for.ensures (c.in_ok-module.was ∙ ap Ok c.in-Some.is) c.set_mark.ensures

pub returns-in_default : goal.returns-in_default
returns-in_default c =
    let h : c.in_ok-module.module ≡ None = search rules in
    rw h (mark-unresolved c.args.literal c.module_for.ensures (c.in_ok-module.was ∙ ap Ok h))
