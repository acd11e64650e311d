-- `make_record`: by *top*: if it is clear, the rule is that of `make_lazy` (`record-lazy`); if it is set, by whether `collect` had room.
use Rattle.std.proofs.Common.{◌≡◌, ℕ, Ok, Err, rules}
use Rattle.state.specs.declared.TableFull.{TableFull}
use Rattle.steps.specs.Refusal.{refusal}
use Rattle.steps.specs.declared.Why.TheVariants.{TableFull as no-room}
use Rattle.walking.proofs.AmendLaws.{record-lazy, record-collected, record-full}
use Rattle.walking.proofs.make_record.Goals as goal

pub returns-then-not-is_top : goal.returns-then-not-is_top
returns-then-not-is_top c =
    λ out. record-lazy c.args.literal c.args.at out c.is_top.ensures c.if-not-is_top.true (c.make_lazy.ensures out)

pub returns : goal.returns
returns c =
    let h : (i : ℕ) × (c.collect.result ≡ Ok i) = search rules in
    λ out. record-collected c.args.literal c.args.at out c.is_top.ensures c.if-not-is_top.false c.collect.ensures h.1

pub returns-in_err-map_err : goal.returns-in_err-map_err
returns-in_err-map_err c =
    let h : c.from_residual.result ≡ Err (refusal no-room c.args.at) = search rules in
    let k : (e : TableFull) × (c.collect.result ≡ Err e) = search rules in
    rw h (λ out. record-full c.args.literal c.args.at out c.is_top.ensures c.if-not-is_top.false c.collect.ensures k.1)
