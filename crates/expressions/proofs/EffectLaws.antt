-- Steps that write nothing: one that is passed over, one that is refused, one of a table, and the same step said otherwise.
use Rattle.std.specs.Prelude.{Result, Ok, Err}
use Prim.Native.Nat.{ℕ}
use mathlib.Core.Path.{◌≡◌, ◌∙◌, sym}
use mathlib.Core.List.{List}
use Rattle.inputs.specs.Outcome.{done, refused}
use Rattle.extraction_rules.specs.State.{State, Act}
use Rattle.state.specs.Cells.{Env, Shows}
use Rattle.state.specs.Does.{Turns, Acts}
use Rattle.state.specs.declared.TableFull.{TableFull}
use Rattle.steps.specs.Step.{Effect, Effects}
use Rattle.steps.specs.Refusal.{refusal, refusal_of}
use Rattle.steps.specs.declared.Why.{Why}
use Rattle.steps.specs.declared.Why.TheVariants.{TableFull as no-room}
use Rattle.steps.proofs.StepsLaws.{fine-turned, turned-as}

module _ {P : Env → State → Type 0} {act : Env → Act (Unit {0})} {t : List ℕ} where
  -- nothing is done
  pub effects-skip : ((x : Env) (s : State) → Shows x t s → P x s → act x s ≡ done (tt, s)) → Effects P act t t (Ok tt)
  effects-skip h =
      record { fine = λ _ {x} s v w. record { state = s; is = h x s v w; shows = v }; turned = λ y e {x} s v w. fine-turned e }

  pub effects-refuse : {t' : List ℕ} (w : Why) (q : ℕ) → ((x : Env) (s : State) → Shows x t s → P x s → act x s ≡ refused (refusal_of w) q) →
      Effects P act t t' (Err (refusal w q))
  effects-refuse w q h =
      record {
        fine = λ e. fine-turned (sym e);
        turned = λ y e {x} s k m. turned-as (h x s k m) e;
      }

  -- the state is changed
  pub effects-turn : {t' : List ℕ} (f : State → State) → Turns f t t' → ((x : Env) (s : State) → Shows x t s → P x s → act x s ≡ done (tt, f s)) → Effects P act t t' (Ok tt)
  effects-turn f k h =
      record { fine = λ _ {x} s v w. record { state = f s; is = h x s v w; shows = k.shows s v }; turned = λ y e {x} s v w. fine-turned e }

  -- a table is asked for room
  pub effects-made : {t' : List ℕ} {Q : Env → Type 0} {rule : Env → ℕ → Act (Unit {0})} {r : Result Unit TableFull} (p : ℕ) → Acts Q rule t t' r → r ≡ Ok tt →
      ((x : Env) (s : State) → Shows x t s → P x s → Q x × (act x s ≡ rule x p s)) → Effects P act t t' (Ok tt)
  effects-made p k m h =
      record {
        fine = λ _ {x} s v w. let d = k.made m s p v (h x s v w).0 in record { state = d.state; is = (h x s v w).1 ∙ d.is; shows = d.shows };
        turned = λ y e {x} s v w. fine-turned e;
      }

  pub effects-full : {t' : List ℕ} {Q : Env → Type 0} {rule : Env → ℕ → Act (Unit {0})} {r : Result Unit TableFull} {e : TableFull} (p : ℕ) → Acts Q rule t t' r → r ≡ Err e →
      ((x : Env) (s : State) → Shows x t s → P x s → Q x × (act x s ≡ rule x p s)) → Effects P act t t' (Err (refusal no-room p))
  effects-full {e = e} p k m h = effects-refuse no-room p (λ x s v w. (h x s v w).1 ∙ k.full e m s p v (h x s v w).0)

  -- under a premise that gives another, the step is another's
  pub effects-as : {Q : Env → State → Type 0} {rule : Env → Act (Unit {0})} {t' : List ℕ} {k : Effect} → Effects Q rule t t' k →
      ((x : Env) (s : State) → Shows x t s → P x s → Q x s × (act x s ≡ rule x s)) → Effects P act t t' k
  effects-as k h =
      record {
        fine = λ e {x} s v w. let d = k.fine e s v (h x s v w).0 in record { state = d.state; is = (h x s v w).1 ∙ d.is; shows = d.shows };
        turned = λ y e {x} s v w. (h x s v w).1 ∙ k.turned y e s v (h x s v w).0;
      }
