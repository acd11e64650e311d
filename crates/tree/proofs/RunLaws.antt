-- An answer is what the table has. Where the runs rise, a key of a later run is behind the ones before, so that `lookup` passes over them;
-- and a key that is in no run finds none.
use Prim.Native.Nat.{ℕ, zero, suc, ◌+◌, ◌-◌, ◌/◌, ◌≤◌}
use mathlib.Core.Path.{◌≡◌, refl, sym, ap, ◌∙◌}
use mathlib.Core.Bool.{Bool, true, false, ◌&&◌, cond}
use mathlib.Core.List.{List, [], ◌∷◌}
use native.Mathlib.Omega.{arith}
use lib.Dec.{leb, eqb}
use borrow.Author.Tests.{le-leb, lt-leb, leb-true, eqb-true}
use Rattle.tree.specs.Runs.{Run, lookup, cond_type, NoneOf, Absent, InRun, Answers, nibble_in, nibble_at}
use Rattle.tree.proofs.Table.{both-true}

-- the runs rise from k on
abbrev pub rising : ℕ → List Run → Bool
rising k [] = true
rising k (e ∷ l) = leb k e.0 && (leb e.0 e.1 && rising (suc e.1) l)

-- ---- A key of a run

record Rises (k : ℕ) (e : Run) (l : List Run) : Type 0 where
  from : k ≤ e.0
  upto : e.0 ≤ e.1
  rest : rising (suc e.1) l ≡ true

rises : (k : ℕ) (e : Run) (l : List Run) → rising k (e ∷ l) ≡ true → Rises k e l
rises k e l h =
    let a = both-true (leb k e.0) (leb e.0 e.1 && rising (suc e.1) l) h in
    let b = both-true (leb e.0 e.1) (rising (suc e.1) l) a.1 in
    record { from = leb-true k e.0 a.0; upto = leb-true e.0 e.1 b.0; rest = b.1 }

behind-by : (k t : ℕ) (e : Run) (A : Type 0) (b : Bool) → k ≤ e.0 → e.0 ≤ e.1 → (A → suc e.1 ≤ t) →
    cond_type b ((e.0 ≤ t) × (t ≤ e.1)) A → k ≤ t
behind-by k t e A true from upto later w = omega arith
behind-by k t e A false from upto later w = let i = later w in omega arith

behind : (k : ℕ) (l : List Run) (t r : ℕ) → rising k l ≡ true → InRun l t r → k ≤ t
behind k [] t r h w = absurd w
behind k (e ∷ l) t r h w =
    let s = rises k e l h in
    behind-by k t e (InRun l t r) (eqb r e.2) s.from s.upto (behind (suc e.1) l t r s.rest) w

inside : (e : Run) (t x : ℕ) → e.0 ≤ t → t ≤ e.1 → cond (leb e.0 t && leb t e.1) e.2 x ≡ e.2
inside e t x a b = rw (le-leb e.0 t a, le-leb t e.1 b)

past : (e : Run) (t x : ℕ) → e.0 ≤ e.1 → suc e.1 ≤ t → cond (leb e.0 t && leb t e.1) e.2 x ≡ x
past e t x a b = rw (le-leb e.0 t (omega arith), lt-leb t e.1 b)

found-by : (e : Run) (l : List Run) (t r : ℕ) (b : Bool) → eqb r e.2 ≡ b → e.0 ≤ e.1 → rising (suc e.1) l ≡ true →
    (InRun l t r → lookup l t ≡ r) → cond_type b ((e.0 ≤ t) × (t ≤ e.1)) (InRun l t r) → lookup (e ∷ l) t ≡ r
found-by e l t r true q upto h later w = inside e t (lookup l t) w.0 w.1 ∙ sym (eqb-true r e.2 q)
found-by e l t r false q upto h later w = past e t (lookup l t) upto (behind (suc e.1) l t r h w) ∙ later w

found : (k : ℕ) (l : List Run) (t r : ℕ) → rising k l ≡ true → InRun l t r → lookup l t ≡ r
found k [] t r h w = absurd w
found k (e ∷ l) t r h w =
    let s = rises k e l h in
    found-by e l t r (eqb r e.2) refl s.upto s.rest (found (suc e.1) l t r s.rest) w

-- ---- A key of none

none-of : (t : ℕ) (X : Type 0) (k n : ℕ) → NoneOf t X k n → X × (k ≤ t → t ≤ k + n → ⊥)
none-of t X k zero h = (h.0, λ a b. h.1 (omega arith))
none-of t X k (suc n) h =
    let i = none-of t (X × (t ≡ k → ⊥)) (suc k) n h in
    let off = i.0.1 in
    (i.0.0, λ a b. i.1 (omega arith) (omega arith))

outside : (e : Run) (t x : ℕ) (a b : Bool) → leb e.0 t ≡ a → leb t e.1 ≡ b → (e.0 ≤ t → t ≤ e.1 → ⊥) → cond (a && b) e.2 x ≡ x
outside e t x true true p q h = absurd (h (leb-true e.0 t p) (leb-true t e.1 q))
outside e t x true false p q h = refl
outside e t x false b p q h = refl

missing : (k : ℕ) (l : List Run) (t : ℕ) (X : Type 0) → rising k l ≡ true → Absent t X l → X × (lookup l t ≡ 0)
missing k [] t X h w = (w, refl)
missing k (e ∷ l) t X h w =
    let s = rises k e l h in
    let i = missing (suc e.1) l t (NoneOf t X e.0 (e.1 - e.0)) s.rest w in
    let o = none-of t X e.0 (e.1 - e.0) i.0 in
    let upto = s.upto in
    (o.0, outside e t (lookup l t) (leb e.0 t) (leb t e.1) refl refl (λ a b. o.1 a (omega arith)) ∙ i.1)

-- ---- An answer

answers-by : (l : List Run) (t r : ℕ) (b : Bool) → eqb r 0 ≡ b → rising 0 l ≡ true → cond_type b (Absent t Unit l) (InRun l t r) → r ≡ lookup l t
answers-by l t r true q h w = eqb-true r 0 q ∙ sym (missing 0 l t Unit h w).1
answers-by l t r false q h w = sym (found 0 l t r h w)

-- of a table with rising runs, for which `refl` is `rising`
pub answer-is : (l : List Run) (t r : ℕ) → rising 0 l ≡ true → Answers l t r → r ≡ lookup l t
answer-is l t r h w = answers-by l t r (eqb r 0) refl h w

-- so a number of a row's sixteen is the table's
pub nibble-is : (rows : List Run) (t row n : ℕ) → rising 0 rows ≡ true → Answers rows (t / 16) row → n ≡ nibble_in row t → n ≡ nibble_at rows t
nibble-is rows t row n h w e = e ∙ ap (λ (x : ℕ). nibble_in x t) (answer-is rows (t / 16) row h w)
