-- A match's last arm against a list of entries: where the number is none of the keys, `find` gives the default. What holds of every
-- entry holds of what is found, and what was tried for every number below a bound holds for each.
use Prim.Native.Nat.{ℕ, zero, suc, ◌<◌}
use mathlib.Core.Path.{◌≡◌, refl, sym, ap, subst, ◌∙◌}
use mathlib.Core.Bool.{Bool, true, false, ◌&&◌, cond}
use native.Mathlib.Omega.{arith}
use mathlib.Core.List.{List, [], ◌∷◌}
use lib.Dec.{eqb}
use borrow.Author.Tests.{ne_eqb, eqb-true, eqb-false}
use Rattle.tree.specs.Grammar.{find}

-- what `c.match.rest` holds: a tuple nested to the left, `X` innermost, an inequation for each key in order
abbrev pub Absent : {A : Type 0} → ℕ → Type 0 → List (ℕ × A) → Type 0
Absent t X [] = X
Absent t X (e ∷ l) = Absent t (X × (t ≡ e.0 → ⊥)) l

pub find-rest : {A : Type 0} (t : ℕ) (l : List (ℕ × A)) (d : A) (X : Type 0) → Absent t X l → X × (find t l d ≡ d)
find-rest t [] d X h = (h, refl)
find-rest t (e ∷ l) d X h =
    let r = find-rest t l d (X × (t ≡ e.0 → ⊥)) h in
    (r.0.0, rw (ne_eqb t e.0 r.0.1) r.1)

-- a test that every entry of a table passes, and the default at t, is passed by what is found at t
abbrev pub passes : {A : Type 0} → (ℕ → A → Bool) → List (ℕ × A) → Bool
passes g [] = true
passes g (e ∷ l) = g e.0 e.1 && passes g l

pub both-true : (a b : Bool) → a && b ≡ true → (a ≡ true) × (b ≡ true)
both-true true b e = (refl, e)
both-true false b e = cc

found : {A : Type 0} (g : ℕ → A → Bool) (t k : ℕ) (x y : A) (b : Bool) → eqb t k ≡ b → g k x ≡ true → g t y ≡ true →
    g t (cond b x y) ≡ true
found g t k x y true e p q = ap (λ (n : ℕ). g n x) (eqb-true t k e) ∙ p
found g t k x y false e p q = q

pub find-passes : {A : Type 0} (g : ℕ → A → Bool) (t : ℕ) (l : List (ℕ × A)) (d : A) → passes g l ≡ true →
    g t d ≡ true → g t (find t l d) ≡ true
find-passes g t [] d h k = k
find-passes g t (e ∷ l) d h k =
    let p = both-true (g e.0 e.1) (passes g l) h in
    found g t e.0 e.1 (find t l d) (eqb t e.0) refl p.0 (find-passes g t l d p.1 k)

-- every number below n has P
abbrev pub AllBelow : (ℕ → Type 0) → ℕ → Type 0
AllBelow P zero = Unit
AllBelow P (suc n) = P n × AllBelow P n

each-by : (P : ℕ → Type 0) (n k : ℕ) → P n → k < suc n → (k < n → P k) → (b : Bool) → eqb k n ≡ b → P k
each-by P n k p l r true e = subst P (sym (eqb-true k n e)) p
each-by P n k p l r false e = let d = eqb-false k n e in r (omega arith)

pub each : (P : ℕ → Type 0) (n : ℕ) → AllBelow P n → (k : ℕ) → k < n → P k
each P zero h k l = absurd (omega arith)
each P (suc n) h k l = each-by P n k h.0 l (each P n h.1 k) (eqb k n) refl

-- a test that every number below n passes, which computes
abbrev pub all_below : (ℕ → Bool) → ℕ → Bool
all_below f zero = true
all_below f (suc n) = f n && all_below f n

all-true : (f : ℕ → Bool) (n : ℕ) → all_below f n ≡ true → AllBelow (λ (k : ℕ). f k ≡ true) n
all-true f zero h = tt
all-true f (suc n) h = let b = both-true (f n) (all_below f n) h in (b.0, all-true f n b.1)

pub below : (f : ℕ → Bool) (n : ℕ) → all_below f n ≡ true → (k : ℕ) → k < n → f k ≡ true
below f n h = each (λ (k : ℕ). f k ≡ true) n (all-true f n h)
