-- `collect`: the range of keys is that of all literals with this value, and no record before the hint is in it. A record in it
-- (`collected-again`), none and room (`collected-new`), or none and no room, where the rule refuses with 8 (`collected-full`).
use Rattle.std.proofs.lemmas.Result.{err_from_is_err_and}
use Rattle.state.proofs.CollectLaws.{collected-again, collected-new, collected-full}
use Rattle.state.proofs.Tables.collect.Goals as goal

pub returns-in-Some : goal.returns-in-Some
returns-in-Some c =
    let l = c.literal_number-number in
    collected-again l.result c.args.literal l.ensures.0 l.ensures.1 l.ensures.2 c.args.self.now.good c.in-Some.ensures

pub returns-in_err-n : goal.returns-in_err-n
returns-in_err-n c =
    let l = c.literal_number-number in
    let p = err_from_is_err_and c.from_residual.result c.from_residual.ensures.1 in
    rw p.1 (collected-full l.result c.args.literal l.ensures.0 l.ensures.1 l.ensures.2 c.args.self.now.good c.in_default.ensures
    (c.room_in.ensures.full _ c.in_err-n.was))

pub returns : goal.returns
returns c =
    let l = c.literal_number-number in
    let r = c.room_in.ensures.more _ c.in_ok-n.was in
    collected-new l.result c.args.literal l.ensures.0 l.ensures.1 l.ensures.2 c.args.self.now.good r.0 c.in_default.ensures r.1 c.add_record.ensures
