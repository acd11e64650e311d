-- `wrap_source`: by what `module_for` gave; each answer has its law of WrapLaws.
use Rattle.std.proofs.Common.{◌≡◌, None, Some, Ok, Err, rules}
use Rattle.scope.specs.declared.TooManyFiles.{TooManyFiles}
use Rattle.steps.specs.Refusal.{refusal}
use Rattle.steps.specs.declared.Why.TheVariants.{TooManyFiles as no-number}
use Rattle.extraction.proofs.WrapLaws.{source-marked, source-unresolved, source-full}
use Rattle.extraction.proofs.wrap_source.Goals as goal

pub returns-in-Some : goal.returns-in-Some
returns-in-Some c =
    let h : c.module_for.result ≡ Ok (Some c.in-Some.id) = search rules in
    source-marked c.args.source.0 c.in-Some.id c.module_for.ensures h c.set_mark.ensures

pub returns-in_default : goal.returns-in_default
returns-in_default c =
    let h : c.module_for.result ≡ Ok None = search rules in
    source-unresolved c.args.source.0 c.module_for.ensures h

pub returns-in_err-id : goal.returns-in_err-id
returns-in_err-id c =
    let h : c.from_residual.result ≡ Err (refusal no-number 0) = search rules in
    let k : (e : TooManyFiles) × (c.module_for.result ≡ Err e) = search rules in
    rw h (source-full c.args.source.0 c.module_for.ensures k.1)
