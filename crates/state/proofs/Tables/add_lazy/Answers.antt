-- `add_lazy`: by the room: with room the row that is pushed is the lazy record appended (`lazy-made`), without it the rule refuses with 8
-- (`lazy-full`).
use Rattle.std.proofs.lemmas.Result.{err_from_is_err_and}
use Rattle.state.proofs.RestLaws.{lazy-good, lazy-made, lazy-full}
use Rattle.state.proofs.Tables.add_lazy.Goals as goal

pub returns-in_err-room_in : goal.returns-in_err-room_in
returns-in_err-room_in c =
    let p = err_from_is_err_and c.from_residual.result c.from_residual.ensures.1 in
    rw p.1 (lazy-full c.args.literal c.args.place (c.room_in.ensures.full _ c.in_err-room_in.was))

pub invariant_of-self : goal.invariant_of-self
invariant_of-self c =
    record {
      good =
          lazy-good c.literal_number.result c.args.literal c.args.place c.literal_number.ensures.1 c.args.self.now.good c.literal_number.ensures.2 c.requires
          c.push.ensures.0 (c.room_in.ensures.more _ c.in_ok-room_in.was).1 c.push.ensures.1;
    }

pub returns : goal.returns
returns c =
    lazy-made c.literal_number.result c.args.literal c.args.place c.literal_number.ensures.1 c.args.self.now.good c.push.ensures.0
    (c.room_in.ensures.more _ c.in_ok-room_in.was).1 c.push.ensures.1
