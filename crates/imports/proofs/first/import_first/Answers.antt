-- `import_first`: an import that was read has its literal (`head-short`). An external one stays (`first-external`). Any other is written by its
-- module and then collected: `put-collected` and `put-turned` make that the rule for an import whose module is known, and `first-module` and
-- `first-many` find the module. `head-value` says that the literal's value is the tree's source.
use native.Mathlib.Omega.{arith}
use mathlib.Core.Path.{◌≡◌, sym, ◌∙◌}
use Rattle.std.proofs.Common.{Ok, Err, rules}
use Rattle.scope.specs.declared.TooManyFiles.{TooManyFiles}
use Rattle.steps.specs.Refusal.{refusal}
use Rattle.steps.specs.declared.Why.TheVariants.{TooManyFiles as too-many}
use Rattle.steps.proofs.StepsLaws.{steps-is}
use Rattle.imports.proofs.HeadLaws.{headed, head-in, head-value, head-short}
use Rattle.imports.proofs.FirstLaws.{first-external, first-module, first-many, put-collected, put-turned}
use Rattle.imports.proofs.first.import_first.Goals as goal

pub returns-in_default : goal.returns-in_default
returns-in_default c =
    head-short c.args.part.now (sym c.fixed.ensures ∙ c.in_default.is) (λ x u k. k.0)

pub literal_at-literal-requires : goal.literal_at-literal-requires
literal_at-literal-requires c =
    let i = head-in (headed c.args.part.now c.requires (sym c.fixed.ensures ∙ c.in-Some.is)) in
    omega arith

pub returns-then-is_external : goal.returns-then-is_external
returns-then-is_external c =
    let w = headed c.args.part.now c.requires (sym c.fixed.ensures ∙ c.in-Some.is) in
    first-external w c.literal_at-literal.result.value.0 (head-value w _ c.literal_at-literal.ensures.0)
    c.is_external.ensures c.if-is_external.true c.copy.ensures

pub returns-in_err-module : goal.returns-in_err-module
returns-in_err-module c =
    let w = headed c.args.part.now c.requires (sym c.fixed.ensures ∙ c.in-Some.is) in
    let h : c.from_residual.result ≡ Err (refusal too-many c.args.part.now.at) = search rules in
    let k : (e : TooManyFiles) × (c.module_for.result ≡ Err e) = search rules in
    rw h
    (first-many w c.literal_at-literal.result.value.0 (head-value w _ c.literal_at-literal.ensures.0)
    c.is_external.ensures c.if-is_external.false c.module_for.ensures k.1)

pub returns-in_err-p : goal.returns-in_err-p
returns-in_err-p c =
    let w = headed c.args.part.now c.requires (sym c.fixed.ensures ∙ c.in-Some.is) in
    let m : c.module_for.result ≡ Ok c.in_ok-module.module = search rules in
    let h : c.from_residual-in_err-p.result ≡ Err c.in_err-p.field-0.0 = search rules in
    rw h
    (first-module w c.literal_at-literal.result.value.0 (head-value w _ c.literal_at-literal.ensures.0)
    c.is_external.ensures c.if-is_external.false c.module_for.ensures c.in_ok-module.module m
    (put-turned w _ (steps-is c.put_import.ensures c.in_err-p.was)))

pub returns : goal.returns
returns c =
    let w = headed c.args.part.now c.requires (sym c.fixed.ensures ∙ c.in-Some.is) in
    let m : c.module_for.result ≡ Ok c.in_ok-module.module = search rules in
    first-module w c.literal_at-literal.result.value.0 (head-value w _ c.literal_at-literal.ensures.0)
    c.is_external.ensures c.if-is_external.false c.module_for.ensures c.in_ok-module.module m
    (put-collected w _ (steps-is c.put_import.ensures c.in_ok-p.was) c.gathered.ensures)
