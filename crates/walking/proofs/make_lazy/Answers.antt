-- `make_lazy`: by whether `add_lazy` had room (`lazy-made`, `lazy-full`).
use Rattle.std.proofs.Common.{◌≡◌, Ok, Err, rules}
use Rattle.state.specs.declared.TableFull.{TableFull}
use Rattle.steps.specs.Refusal.{refusal}
use Rattle.steps.specs.declared.Why.TheVariants.{TableFull as no-room}
use Rattle.walking.proofs.AmendLaws.{lazy-made, lazy-full}
use Rattle.walking.proofs.make_lazy.Goals as goal

pub returns : goal.returns
returns c =
    let h : c.add_lazy.result ≡ Ok tt = search rules in
    λ out. lazy-made c.args.literal c.args.at c.args.place out c.add_lazy.ensures h

pub returns-in_err-map_err : goal.returns-in_err-map_err
returns-in_err-map_err c =
    let h : c.from_residual.result ≡ Err (refusal no-room c.args.at) = search rules in
    let k : (e : TableFull) × (c.add_lazy.result ≡ Err e) = search rules in
    rw h (λ out. lazy-full c.args.literal c.args.at c.args.place out c.add_lazy.ensures k.1)
