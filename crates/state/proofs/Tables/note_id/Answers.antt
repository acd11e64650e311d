-- `note_id`: the id has an entry, which gets the context (`noted-again`); it has none and there is room (`noted-new`); or there is no room,
-- and the rule refuses with 8 (`noted-full`).
use native.Mathlib.Omega.{arith}
use mathlib.Core.Path.{sym}
use Rattle.std.proofs.lemmas.Result.{err_from_is_err_and}
use Rattle.state.specs.Cells.{imports}
use Rattle.state.proofs.ListLaws.{first-below}
use Rattle.state.proofs.ImportedLaws.{noted-again, noted-good, noted-new, noted-full}
use Rattle.state.proofs.Tables.note_id.Goals as goal

pub set_value-requires : goal.set_value-requires
set_value-requires c =
    (c.args.self.now.good.lies imports, first-below _ _ _ _ (sym c.in-Some.ensures))

pub invariant_of-self : goal.invariant_of-self
invariant_of-self c =
    record {
      good = noted-good c.args.self.now.good c.id_number-n.ensures.0 c.id_number-n.ensures.1 (omega arith) _ c.set_value.ensures.0 c.set_value.ensures.1;
    }

pub returns-in-Some : goal.returns-in-Some
returns-in-Some c =
    noted-again c.args.self.now.good c.id_number-n.ensures.0 c.id_number-n.ensures.1 (omega arith) c.in-Some.ensures
    c.set_value.ensures.0 c.set_value.ensures.1

pub returns-in_err-room_in : goal.returns-in_err-room_in
returns-in_err-room_in c =
    let p = err_from_is_err_and c.from_residual.result c.from_residual.ensures.1 in
    rw p.1 (noted-full c.args.self.now.good c.id_number-n.ensures.0 c.id_number-n.ensures.1 (omega arith) c.in_default.ensures
    (c.room_in.ensures.full _ c.in_err-room_in.was))

pub returns : goal.returns
returns c =
    noted-new c.args.self.now.good c.id_number-n.ensures.0 c.id_number-n.ensures.1 (omega arith) c.in_default.ensures
    (c.room_in.ensures.more _ c.in_ok-room_in.was).1 c.add_import.ensures
