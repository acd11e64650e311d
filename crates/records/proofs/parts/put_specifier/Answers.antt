-- `put_specifier`: by the tag, and whether namespaces are written: nothing of a 2F, and nothing of a 22 without them.
use mathlib.Core.Path.{sym, ◌∙◌}
use native.Mathlib.Omega.{arith}
use Rattle.std.proofs.Common.{rules}
use Rattle.std.proofs.lemmas.Grind.{common_steps}
use Rattle.tree.specs.Rows.{tree_of}
use Rattle.records.proofs.SpecifierLaws.{if-none, if-copied, part-attributes, part-namespace, part-kept}
use Rattle.records.proofs.parts.put_specifier.Goals as goal
use Rattle.records.proofs.parts.put_specifier.Goals.{in_default-via-in-34+else-not-namespaces, in_default-via-in_default-1}

pub returns-in-47 : goal.returns-in-47
returns-in-47 c = if-none (part-attributes c.args.namespaces (tree_of c.args.part) (sym c.tag_of.ensures ∙ c.in-47.is))

pub returns-in-34 : goal.returns-in-34
returns-in-34 c =
    let t = sym c.tag_of.ensures ∙ c.in-34.is in
    if-none (part-namespace c.args.namespaces (tree_of c.args.part) (λ e. omega arith) (search rules) t)

pub returns-in_default : goal.returns-in_default
returns-in_default c =
    if-copied c.args.part
    (part-kept c.args.namespaces (tree_of c.args.part)
    (elim c.in_default.branch [
      | in_default-via-in-34+else-not-namespaces w ↦ (λ e. omega (arith, w.in-34.is, c.tag_of.ensures))
      | in_default-via-in_default-1 w ↦ (λ e. omega (arith, c.tag_of.ensures))
    ])
    (elim c.in_default.branch [
      | in_default-via-in-34+else-not-namespaces w ↦ (λ q e. grind (arith, common_steps))
      | in_default-via-in_default-1 w ↦ (λ q e. omega (arith, c.tag_of.ensures))
    ])) c.copy.ensures
