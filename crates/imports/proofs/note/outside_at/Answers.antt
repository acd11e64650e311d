-- `outside_at`: by the kind byte: 0, 1 or another. The precondition has room for a name unless it is 0; for a 1 `two_at-is` gives the name.
use Rattle.std.proofs.Common.{rules}
use native.Mathlib.Omega.{arith}
use mathlib.Core.Path.{◌∙◌, ap}
use Rattle.tree.specs.Layout.{two}
use Rattle.tree.proofs.LayoutLaws.{two_at-is}
use Rattle.imports.proofs.note.outside_at.Goals as goal

pub bounds-s-at : goal.bounds-s-at
bounds-s-at c =
    c.requires.0

pub atom_at-requires : goal.atom_at-requires
atom_at-requires c =
    let h = c.requires.1 (λ z. let k = c.in-1.is in omega arith) in omega arith

pub returns-in-0 : goal.returns-in-0
returns-in-0 c =
    c.in-0.is

pub returns-in-1 : goal.returns-in-1
returns-in-1 c =
    let h = c.requires.1 (λ z. let k = c.in-1.is in omega arith) in (
      c.in-1.is,
      ap two c.atom_at.ensures
          ∙ two_at-is c.args.s.now _ (λ i. (c.type_inv.s i).fits) (omega arith),
    )

pub returns-in_default : goal.returns-in_default
returns-in_default c =
    (search rules, search rules)
