-- `require_lazily`: after the mark the lazy record is made (`lazily-marked`), or its refusal is passed on (`lazily-turned`).
use Rattle.std.proofs.Common.{◌≡◌, Err, rules}
use Rattle.walking.proofs.AmendLaws.{lazily-marked, lazily-turned}
use Rattle.walking.proofs.require_lazily.Goals as goal

pub returns-in_err-mark : goal.returns-in_err-mark
returns-in_err-mark c =
    let h : c.from_residual.result ≡ Err c.in_err-mark.field-0.0 = search rules in
    rw h
    (λ q. lazily-turned c.args.literal c.args.at c.args.pattern q c.mark.ensures c.place_of-place.ensures.0 c.in_err-mark.was)

pub returns : goal.returns
returns c =
    λ q. lazily-marked c.args.literal c.args.at c.args.pattern q c.mark.ensures c.place_of-place.ensures.0 c.in_ok-mark.was (c.make_lazy.ensures _)
