-- `set_mark`: by the kind of mark; the contract of each call is `marking` of that kind.
use mathlib.Core.Path.{refl, sym, ap, ◌∙◌}
use Rattle.scope.specs.declared.Mark.{Mark}
use Rattle.scope.specs.Modules.{marking}
use Rattle.scope.specs.ScopeValue.{modules_of}
use Rattle.corollaries.proofs.set_mark.Goals as goal

pub returns-in-Loaded : goal.returns-in-Loaded
returns-in-Loaded c = (
  c.mark_as_loaded-m.result,
  c.mark_as_loaded-m.ensures
      ∙ ap (λ (k : Mark). marking k c.args.id (modules_of c.args.scope)) (sym c.in-Loaded.is),
  refl,
)

pub returns-in-Stored : goal.returns-in-Stored
returns-in-Stored c = (
  c.store_module-m.result,
  c.store_module-m.ensures
      ∙ ap (λ (k : Mark). marking k c.args.id (modules_of c.args.scope)) (sym c.in-Stored.is),
  refl,
)

pub returns-in-Cjs : goal.returns-in-Cjs
returns-in-Cjs c = (
  c.mark_as_cjs-m.result,
  c.mark_as_cjs-m.ensures
      ∙ ap (λ (k : Mark). marking k c.args.id (modules_of c.args.scope)) (sym c.in-Cjs.is),
  refl,
)

pub returns-in-Wrapping : goal.returns-in-Wrapping
returns-in-Wrapping c = (
  c.mark_as_wrapping_required-m.result,
  c.mark_as_wrapping_required-m.ensures
      ∙ ap (λ (k : Mark). marking k c.args.id (modules_of c.args.scope)) (sym c.in-Wrapping.is),
  refl,
)
