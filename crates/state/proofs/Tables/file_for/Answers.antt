-- `file_for`: no row before the hint has the source; the row that the search gives is the source's in the lent table (`file-told`). A file's
-- number fits two bytes (`file-small`).
use Rattle.std.specs.Prelude.{Some}
use native.Mathlib.Omega.{arith}
use mathlib.Core.Path.{sym, subst}
use Prim.Native.Nat.{ℕ}
use Rattle.tree.specs.Layout.{two}
use Rattle.inputs.specs.Table.{file_of}
use Rattle.state.specs.Cells.{table}
use Rattle.state.specs.Does.{Says}
use Rattle.state.proofs.ListLaws.{first-below}
use Rattle.state.proofs.SettingLaws.{file-told, file-small}
use Rattle.state.proofs.Tables.file_for.Goals as goal

pub returns-in_err-i : goal.returns-in_err-i
returns-in_err-i c =
    rw c.from_residual.ensures (file-told c.args.self.now.good (omega arith) c.in_err-i.ensures)

pub value_of-requires : goal.value_of-requires
value_of-requires c =
    (c.args.self.now.good.lies table, first-below _ _ _ _ (sym c.in_ok-i.ensures))

pub overflow_cast-result : goal.overflow_cast-result
overflow_cast-result c =
    let b = file-small _ c.args.self.now.good (sym c.in_ok-i.ensures) c.value_of.ensures in omega arith

pub returns : goal.returns
returns c =
    subst (λ (n : ℕ). Says (λ e. file_of (two c.args.source.0) e.table) c.args.self.now.cells (Some n)) (sym c.value_of.ensures)
    (file-told c.args.self.now.good (omega arith) c.in_ok-i.ensures)
