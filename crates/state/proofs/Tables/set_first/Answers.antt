-- `set_first`: the hint of the name is set first, so the record may have its value (`first-set`).
use native.Mathlib.Omega.{arith}
use Prim.Native.Nat.{◌+◌}
use mathlib.Core.Logic.{inl}
use mathlib.Core.Path.{refl, ap}
use lib.ListN.{length}
use Rattle.state.specs.Cells.{records}
use Rattle.state.proofs.FrameLaws.{room-for}
use Rattle.state.proofs.ChangeLaws.{first-set, valued}
use Rattle.state.proofs.Tables.set_first.Goals as goal

pub hint_record-requires : goal.hint_record-requires
hint_record-requires c =
    (let r = room-for records c.args.self.now.good in let b = c.requires.0 in omega arith, inl refl)

pub set_value-requires : goal.set_value-requires
set_value-requires c =
    (c.hint_record.new.self.good.lies records, let e = ap length (c.hint_record.ensures.0.same_rows records) in let b = c.requires.0 in omega arith)

pub invariant_of-self : goal.invariant_of-self
invariant_of-self c =
    record {
      good =
          first-set c.args.self.now.good c.hint_record.new.self.good c.hint_record.ensures.0 c.args.i c.requires.1 c.hint_record.ensures.1
          c.set_value.ensures.0 c.set_value.ensures.1;
    }

pub returns : goal.returns
returns c =
    valued records c.args.i (c.args.id + 1) c.hint_record.new.self.good c.hint_record.ensures.0 c.set_value.ensures.0 c.set_value.ensures.1
