-- `import_second`: an import that was read has its literal (`head-short`). Each other return has its law of AgainLaws: external, forced,
-- without a sole namespace (these stay), or taken apart. `head-source` says that the atom at at + 3 is the tree's source.
use Rattle.imports.proofs.HeadLaws.{headed, head-in, head-source, head-short}
use native.Mathlib.Omega.{arith}
use mathlib.Core.Path.{sym, ◌∙◌}
use Rattle.imports.proofs.AgainLaws.{again-external, again-forced, again-other, again-apart}
use Rattle.imports.proofs.second.import_second.Goals.{then-is_external-via-then-is_external, then-is_external-via-else-is_external+then-is_forced}
use Rattle.imports.proofs.second.import_second.Goals as goal

pub returns-in_default : goal.returns-in_default
returns-in_default c =
    head-short c.args.part.now (sym c.fixed.ensures ∙ c.in_default.is) (λ x u k. k.0)

pub atom_at-requires : goal.atom_at-requires
atom_at-requires c =
    let i = head-in (headed c.args.part.now c.requires (sym c.fixed.ensures ∙ c.in-Some.is)) in omega arith

pub returns-then-is_external : goal.returns-then-is_external
returns-then-is_external c =
    let w = headed c.args.part.now c.requires (sym c.fixed.ensures ∙ c.in-Some.is) in
    let h = head-source w c.atom_at.ensures in
    elim c.then-is_external.branch [
      | then-is_external-via-then-is_external v ↦
          again-external w c.atom_at.result h c.is_external.ensures v.if-is_external.true c.copy.ensures
      | then-is_external-via-else-is_external+then-is_forced v ↦
          again-forced w c.atom_at.result h c.is_external.ensures v.if-is_external.false v.is_forced.ensures
          v.if-is_forced.true c.copy.ensures
    ]

pub sole_namespace-requires : goal.sole_namespace-requires
sole_namespace-requires c =
    (head-in (headed c.args.part.now c.requires (sym c.fixed.ensures ∙ c.in-Some.is))).1

pub take_apart-requires : goal.take_apart-requires
take_apart-requires c =
    let i = head-in (headed c.args.part.now c.requires (sym c.fixed.ensures ∙ c.in-Some.is)) in
    (omega arith, c.requires)

pub returns-in-Some-sole_namespace : goal.returns-in-Some-sole_namespace
returns-in-Some-sole_namespace c =
    let w = headed c.args.part.now c.requires (sym c.fixed.ensures ∙ c.in-Some.is) in
    again-apart w c.atom_at.result (head-source w c.atom_at.ensures)
    c.is_external.ensures c.if-is_external.false c.is_forced.ensures c.if-is_forced.false c.sole_namespace.result c.sole_namespace.ensures
    c.in-Some-sole_namespace.id c.in-Some-sole_namespace.is c.take_apart.ensures

pub returns-in-None : goal.returns-in-None
returns-in-None c =
    let w = headed c.args.part.now c.requires (sym c.fixed.ensures ∙ c.in-Some.is) in
    again-other w c.atom_at.result (head-source w c.atom_at.ensures)
    c.is_external.ensures c.if-is_external.false c.is_forced.ensures c.if-is_forced.false c.sole_namespace.result c.sole_namespace.ensures
    c.in-None.is c.copy-in-None.ensures
