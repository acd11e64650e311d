-- `lend_externals`: the invariant says that the rows put so far, with the atoms from 2 * i on, are the atoms of the list (`Lending`), and that
-- there are i rows: so there is room.
use Rattle.state.specs.Cells.{externals as kind, held, atom_of}
use mathlib.Core.Path.{◌≡◌}
use Prim.Native.Nat.{◌*◌}
use Rattle.inputs.specs.Table.{atoms_in}
use Rattle.state.proofs.SettingLaws.{Lending}
use Rattle.state.proofs.Tables.lend_externals.Given as goal

abbrev pub invariant-loop-i : goal.invariant-loop-i
invariant-loop-i l = Lending kind atom_of atoms_in l.externals (2 * l.i) l.initial.self.cells l.self.cells × (held kind l.self.cells ≡ l.i)
