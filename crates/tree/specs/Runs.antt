-- A table of numbers: a run of keys has one value, and every other key has 0. What an answer says of its key computes from the answer
-- alone: so each arm of a `match` over numbers is proved by itself, and RunLaws ties all of them to the table at once.
use Rattle.std.specs.Prelude.{ℕ, zero, suc, ◌-◌, ◌*◌, ◌/◌, ◌%◌, ◌^◌, ◌≤◌, ◌≡◌, Bool, true, false, ◌&&◌, cond, List, [], ◌∷◌, leb, eqb}

-- the first key, the last, and their value
abbrev pub Run : Type 0
Run = ℕ × ℕ × ℕ

abbrev pub lookup : List Run → ℕ → ℕ
lookup [] t = 0
lookup (e ∷ l) t = cond (leb e.0 t && leb t e.1) e.2 (lookup l t)

abbrev pub cond_type : Bool → Type 0 → Type 0 → Type 0
cond_type true A B = A
cond_type false A B = B

-- t is none of n keys behind k, nor k; X is told of the keys before, as in the last arm of a `match`
abbrev pub NoneOf : ℕ → Type 0 → ℕ → ℕ → Type 0
NoneOf t X k zero = X × (t ≡ k → ⊥)
NoneOf t X k (suc n) = NoneOf t (X × (t ≡ k → ⊥)) (suc k) n

abbrev pub Absent : ℕ → Type 0 → List Run → Type 0
Absent t X [] = X
Absent t X (e ∷ l) = Absent t (NoneOf t X e.0 (e.1 - e.0)) l

-- t is in the run whose value is r
abbrev pub InRun : List Run → ℕ → ℕ → Type 0
InRun [] t r = ⊥
InRun (e ∷ l) t r = cond_type (eqb r e.2) ((e.0 ≤ t) × (t ≤ e.1)) (InRun l t r)

-- the answer r to the key t: the value of t's run, or 0
abbrev pub Answers : List Run → ℕ → ℕ → Type 0
Answers l t r = cond_type (eqb r 0) (Absent t Unit l) (InRun l t r)

-- the number of t in a row of sixteen, four bits for each
abbrev pub nibble_in : ℕ → ℕ → ℕ
nibble_in row t = row / 2 ^ (4 * (t % 16)) % 16

-- a number for each t, sixteen to a row
abbrev pub nibble_at : List Run → ℕ → ℕ
nibble_at rows t = nibble_in (lookup rows (t / 16)) t
