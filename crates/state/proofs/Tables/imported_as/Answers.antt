-- `imported_as`: `context-told` says that the value of the first row with this key is the id's context, and no row that it has none. The
-- row stands in the table (`first-below`), and its value is below the table's limit (`below-row`), so the cast keeps it.
use Rattle.std.specs.Prelude.{Some}
use native.Mathlib.Omega.{arith}
use mathlib.Core.Path.{sym, subst}
use Prim.Native.Nat.{ℕ}
use Rattle.tree.specs.Layout.{four}
use Rattle.state.specs.Cells.{imports, id_by}
use Rattle.state.specs.Does.{Tells}
use Rattle.extraction_rules.specs.First.{imported_as}
use Rattle.state.proofs.ListLaws.{first-below, below-row}
use Rattle.state.proofs.ImportedLaws.{context-told}
use Rattle.state.proofs.Tables.imported_as.Goals as goal

pub returns-in_err-i : goal.returns-in_err-i
returns-in_err-i c =
    rw c.from_residual.ensures (context-told c.args.self.now.good c.id_number.ensures.0 c.id_number.ensures.1 c.in_err-i.ensures)

pub value_of-requires : goal.value_of-requires
value_of-requires c =
    (c.args.self.now.good.lies imports, first-below _ _ _ _ (sym c.in_ok-i.ensures))

pub overflow_cast-result : goal.overflow_cast-result
overflow_cast-result c =
    let i = first-below _ _ _ _ (sym c.in_ok-i.ensures) in
    let b = (below-row _ _ _ _ (c.args.self.now.good.below imports) i).1 in let e = c.value_of.ensures in omega arith

pub returns : goal.returns
returns c =
    subst (λ (n : ℕ). Tells (λ s. imported_as (id_by c.args.id) s.imported) c.args.self.now.cells (Some (four n))) (sym c.value_of.ensures)
    (context-told c.args.self.now.good c.id_number.ensures.0 c.id_number.ensures.1 c.in_ok-i.ensures)
