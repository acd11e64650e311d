-- `add_usage`: by the room: with room the row that enters is the usage appended (`usage-made`), without it the rule refuses with 8
-- (`usage-full`).
use Rattle.std.proofs.lemmas.Result.{err_from_is_err_and}
use Rattle.state.proofs.UsageLaws.{usage-made, usage-full}
use Rattle.state.proofs.Tables.add_usage.Goals as goal

pub returns-in_err-room_in : goal.returns-in_err-room_in
returns-in_err-room_in c =
    let p = err_from_is_err_and c.from_residual.result c.from_residual.ensures.1 in
    rw p.1 (usage-full _ (c.room_in.ensures.full _ c.in_err-room_in.was))

pub returns : goal.returns
returns c =
    usage-made _ _ c.args.self.now.good c.id_number.ensures.0 c.id_number-2.ensures.0 (c.room_in.ensures.more _ c.in_ok-room_in.was).1 c.add_use.ensures
