-- `own_file`: by the answer of `gen_id`; the array then shows the scope's modules (`load`) and the own number (`set_own`).
use Rattle.std.proofs.Common.{◌≡◌, Ok, Err, rules}
use Rattle.scope.specs.ScopeValue.{modules_of}
use Rattle.scope.specs.declared.TooManyFiles.{TooManyFiles}
use Rattle.steps.specs.Refusal.{refusal}
use Rattle.steps.specs.declared.Why.TheVariants.{TooManyFiles as no-number}
use Rattle.extraction.specs.declared.ExtractError.TheVariants.{Refused}
use Rattle.extraction.proofs.OnceLaws.{own-given, own-full}
use Rattle.extraction.proofs.own_file.Goals as goal

pub returns : goal.returns
returns c =
    let h : c.gen_id-g.result.answer ≡ Ok c.in_ok-own.own = search rules in
    own-given c.args.file (modules_of c.args.scope) c.gen_id-g.result c.gen_id-g.ensures h c.load.ensures c.set_own.ensures

pub returns-in_err-own : goal.returns-in_err-own
returns-in_err-own c =
    let h : c.from_residual.result ≡ Err (Refused (refusal no-number 0)) = search rules in
    let k : (e : TooManyFiles) × (c.gen_id-g.result.answer ≡ Err e) = search rules in
    rw h (own-full c.args.file (modules_of c.args.scope) c.gen_id-g.result c.gen_id-g.ensures k.1)
