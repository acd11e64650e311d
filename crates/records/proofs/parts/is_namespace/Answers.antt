-- `is_namespace`: by the first specifier: a 22 with none behind it (`first-namespace`), another (`first-other`), or none.
use mathlib.Core.Path.{sym, ap, ◌∙◌}
use borrow.Author.Tests.{ne_eqb}
use Rattle.tree.specs.Tree.{Fields}
use Rattle.inputs.specs.Fields.{sole}
use Rattle.records.specs.Model.{is_namespace}
use Rattle.records.proofs.SpecifierLaws.{first-none, first-namespace, first-other, sole-none}
use Rattle.records.proofs.parts.is_namespace.Goals as goal

pub returns-then-tag-eq34 : goal.returns-then-tag-eq34
returns-then-tag-eq34 c =
    first-none _ c.take_specifier-then-tag-eq34.result _ _ c.take_specifier-then-tag-eq34.ensures c.is_none.ensures
    ∙ first-namespace _ _ c.in-Some.ensures c.if-tag-eq34.true

pub returns-else-tag-eq34 : goal.returns-else-tag-eq34
returns-else-tag-eq34 c =
    ne_eqb c.in-Some.tag 34 c.if-tag-eq34.false ∙ first-other _ _ c.in-Some.ensures c.if-tag-eq34.false

pub returns-in-None : goal.returns-in-None
returns-in-None c = sym (ap (λ (fs : Fields). is_namespace (sole fs)) c.in-None.ensures ∙ sole-none)
