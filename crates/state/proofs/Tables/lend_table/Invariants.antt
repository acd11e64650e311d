-- `lend_table`: the invariant says that the rows put so far, with the rows from 4 * i on, are the rows of the list (`Lending`), and that
-- there are i rows: so there is room, and the hint is that of the row that enters.
use mathlib.Core.Path.{◌≡◌}
use Prim.Native.Nat.{◌*◌}
use Rattle.inputs.specs.Table.{rows_in}
use Rattle.state.specs.Cells.{table as kind, held, lent_of}
use Rattle.state.proofs.SettingLaws.{Lending}
use Rattle.state.proofs.Tables.lend_table.Given as goal

abbrev pub invariant-loop-i : goal.invariant-loop-i
invariant-loop-i l = Lending kind lent_of rows_in l.table (4 * l.i) l.initial.self.cells l.self.cells × (held kind l.self.cells ≡ l.i)
