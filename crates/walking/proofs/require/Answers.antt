-- `require`: after the mark the record is made (`require-marked`), or its refusal is passed on (`require-turned`).
use Rattle.std.proofs.Common.{◌≡◌, Err, rules}
use Rattle.walking.proofs.AmendLaws.{require-marked, require-turned}
use Rattle.walking.proofs.require.Goals as goal

pub returns-in_err-mark : goal.returns-in_err-mark
returns-in_err-mark c =
    let h : c.from_residual.result ≡ Err c.in_err-mark.field-0.0 = search rules in
    rw h (require-turned c.args.literal c.args.at c.mark.ensures c.in_err-mark.was)

pub returns : goal.returns
returns c =
    require-marked c.args.literal c.args.at c.mark.ensures c.in_ok-mark.was (c.make_record.ensures _)
