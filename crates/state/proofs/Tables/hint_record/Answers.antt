-- `hint_record`: a lower hint is replaced (`part-grows`, `part-now`), another stays; both name record i or one before it.
use native.Mathlib.Omega.{arith}
use Prim.Native.Nat.{◌-◌}
use Rattle.state.proofs.ChangeLaws.{part-grows}
use Rattle.state.proofs.Tables.hint_record.Goals as goal

pub set_cell-requires : goal.set_cell-requires
set_cell-requires c =
    (omega arith, part-grows c.cell_of-v.result (256 - c.args.i) c.requires.1 (omega arith) _ c.cell_of-v.ensures (omega arith))
