-- `id_at`: the six bytes are those of the atom's and the context's number, since each byte is below 256 (`id-stands`).
use mathlib.Core.Path.{◌∙◌, ap₂}
use mathlib.Core.List.{◌++◌}
use Prim.Native.Nat.{ℕ}
use Rattle.tree.specs.Layout.{two, four}
use Rattle.state.proofs.IdentLaws.{id-stands}
use Rattle.state.proofs.ident.id_at.Goals as goal

pub returns : goal.returns
returns c =
    ap₂ (λ (a c : ℕ). two a ++ four c) c.atom_at.ensures c.context_at.ensures
    ∙ id-stands c.args.s.now c.args.at (λ i. (c.type_inv.s i).fits) c.requires
