-- A rule with its place is followed, or refused for want of room, and then a value is given whose bytes are written.
use Rattle.std.specs.Prelude.{Result, Ok, Err}
use Prim.Native.Nat.{ℕ}
use mathlib.Core.Path.{◌≡◌, refl, ap}
use mathlib.Core.List.{List}
use lib.ListN.{length}
use Rattle.writer.specs.Wrote.{Wrote}
use Rattle.inputs.specs.Outcome.{Outcome, done, onto}
use Rattle.extraction_rules.specs.State.{State, Act, ◌>>◌, give}
use Rattle.state.specs.Cells.{Env}
use Rattle.state.specs.Does.{Acts, Anyhow}
use Rattle.steps.specs.Step.{Steps}
use Rattle.state.specs.declared.TableFull.{TableFull}
use Rattle.steps.specs.Refusal.{refusal}
use Rattle.steps.specs.declared.Why.TheVariants.{TableFull as no-room}
use Rattle.steps.proofs.StepsLaws.{steps-done, steps-refused}

module _ {A : Type 0} {bytes : A → List ℕ} {P : Env → State → Type 0} {act : ℕ → Act (Unit {0})} (at : ℕ) (a : A) {t t' out : List ℕ} {o : ℕ} {r : Result Unit TableFull}
    (w : Acts Anyhow (λ _. act) t t' r) where
  pub acts-made : {out' : List ℕ} {p : ℕ} → r ≡ Ok tt → length out' ≡ length out → ((x : Env) (s : State) → P x s → Wrote out o (bytes a) out' p) →
      Steps bytes P (λ _. act at >> give a) t out o t' out' (Ok p)
  acts-made e z h =
      steps-done z (λ x s k b.
      let d = w.made e s at k tt in
      record { value = a; state = d.state; is = ap (λ (m : Outcome (Unit {0} × State)). onto m (λ q. done (a, q.1))) d.is; wrote = h x s b; shows = d.shows })

  pub acts-full : {y : TableFull} → r ≡ Err y → Steps bytes P (λ _. act at >> give a) t out o t' out (Err (refusal no-room at))
  acts-full {y} e = steps-refused refl (λ x s k b. ap (λ (m : Outcome (Unit {0} × State)). onto m (λ q. done (a, q.1))) (w.full y e s at k tt))
