-- `use_from`: by whether a record is found, and then by what `module_for` gave; each of the four ways has its law of PropertyLaws.
use Rattle.std.proofs.Common.{◌≡◌, ◌∙◌, ap, Ok, Err, rules}
use Rattle.scope.specs.declared.TooManyFiles.{TooManyFiles as too-many}
use Rattle.steps.specs.Refusal.{refusal}
use Rattle.steps.specs.declared.Why.TheVariants.{TooManyFiles}
use Rattle.tree.specs.Rows.{tree_of}
use Rattle.expressions.proofs.PropertyLaws.{from-none, from-number, from-unresolved, from-full}
use Rattle.expressions.proofs.usages.use_from.Goals as goal

pub returns-in_default : goal.returns-in_default
returns-in_default c =
    from-none (tree_of c.args.member.now) c.args.at c.args.member.now.at c.args.id
    c.own_module.ensures c.used_record.ensures
    c.in_default.is

pub returns-in_err-module : goal.returns-in_err-module
returns-in_err-module c =
    let h : c.from_residual.result ≡ Err (refusal TooManyFiles c.args.at) = search rules in
    let k : (e : too-many) × (c.module_for.result ≡ Err e) = search rules in
    rw h
    (from-full (tree_of c.args.member.now) c.args.at c.args.member.now.at c.args.id
    c.own_module.ensures c.used_record.ensures c.in-Some.is c.module_for.ensures k.1)

pub returns-in-Some-module : goal.returns-in-Some-module
returns-in-Some-module c =
    let h : c.module_for.result ≡ Ok c.in_ok-module.module = search rules in
    from-number (tree_of c.args.member.now) c.args.at c.args.member.now.at c.args.id
    c.own_module.ensures c.used_record.ensures
    c.in-Some.is c.module_for.ensures (h ∙ ap Ok c.in-Some-module.is) c.use_property.ensures

pub returns-in-None : goal.returns-in-None
returns-in-None c =
    let h : c.module_for.result ≡ Ok c.in_ok-module.module = search rules in
    from-unresolved (tree_of c.args.member.now) c.args.at c.args.member.now.at c.args.id
    c.own_module.ensures c.used_record.ensures
    c.in-Some.is c.module_for.ensures (h ∙ ap Ok c.in-None.is)
