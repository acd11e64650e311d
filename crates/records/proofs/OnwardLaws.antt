-- Writing a list of the shown state one entry after another: what is left, with what is written, is the whole.
use Prim.Native.Nat.{ℕ, ◌≤◌}
use native.Mathlib.Omega.{arith}
use mathlib.Core.Path.{◌≡◌, refl, sym, ◌∙◌}
use mathlib.Core.List.{List, [], ◌++◌}
use lib.ListN.{length, drop, drop_of_length-le}
use Rattle.writer.specs.Wrote.{Wrote}
use Rattle.writer.proofs.Wrote.{wrote-none, wrote-then, wrote-as}
use Rattle.extraction_rules.specs.State.{State}
use Rattle.state.specs.Cells.{Env, Shows}
use Rattle.state.specs.Does.{Tells}
use Rattle.records.specs.Writes.{WroteFor, Onward}

pub onward-start : {P : Env → Type 0} {f : State → List ℕ} {t l : List ℕ} {o : ℕ} → Onward P f f t l o l o
onward-start = record { size = refl; is = λ s w k v. v }

-- some of what is left is written
pub onward-step : {P : Env → Type 0} {f g h : State → List ℕ} {t l l' l'' bs : List ℕ} {o p q : ℕ} → Onward P f g t l o l' p →
    ((x : Env) (s : State) → Shows x t s → P x → g s ≡ bs ++ h s) → Wrote l' p bs l'' q → Onward P f h t l o l'' q
onward-step i e w = record { size = w.size ∙ i.size; is = λ {x} s v k u. i.is s v k (wrote-as (wrote-then w u) (sym (e x s v k))) }

-- nothing is left
pub onward-end : {P : Env → Type 0} {f g : State → List ℕ} {t l l' : List ℕ} {o p : ℕ} → Onward P f g t l o l' p →
    ((x : Env) (s : State) → Shows x t s → P x → g s ≡ []) → WroteFor P f t l o l' p
onward-end i e = record { size = i.size; is = λ {x} s v k. i.is s v k (wrote-as wrote-none (sym (e x s v k))) }

-- the entries from a place on, where all are counted
pub drop-end : {A : Type 0} (f : State → List A) {t : List ℕ} {n : ℕ} (i : ℕ) → Tells (λ s. length (f s)) t n → n ≤ i → (x : Env) (s : State) → Shows x t s → drop i (f s) ≡ []
drop-end f i c h x s w = let e = c.is s w in drop_of_length-le (f s) {i = i} (omega arith)
