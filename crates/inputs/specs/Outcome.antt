-- What a call, or a step of one, gives: a value, or a refusal with its number and its place.
-- Document 01, 'Where a call turns back'.
use Rattle.std.specs.Prelude.{ℕ, Bool, cond, Option, None, Some}

pub data Outcome (A : Type 0) : Type 0 where
  done : A → Outcome A
  refused : ℕ → ℕ → Outcome A

-- 'Order is the table's': the first refusal stands
abbrev pub onto : {A B : Type 0} → Outcome A → (A → Outcome B) → Outcome B
onto (done a) f = f a
onto (refused n p) f = refused n p

infixl 10 ◌>>=◌
infixl 10 ◌>>◌
abbrev pub ◌>>=◌ : {A B : Type 0} → Outcome A → (A → Outcome B) → Outcome B
◌>>=◌ m f = onto m f

abbrev pub ◌>>◌ : {A B : Type 0} → Outcome A → Outcome B → Outcome B
◌>>◌ m n = onto m (λ a. n)

-- the refusal n where a test fails, 'Place .. (1, 2, 9, 12 ..: 0)'
abbrev pub refuse_if : Bool → ℕ → Outcome (Unit {0})
refuse_if b n = cond b (refused n 0) (done tt)

-- the same refusal without a place: 'all of pass two: 0'
abbrev pub placeless : {A : Type 0} → Outcome A → Outcome A
placeless (done a) = done a
placeless (refused n p) = refused n 0

-- a refusal's number and place; none where the call is accepted
abbrev pub refusal_in : {A : Type 0} → Outcome A → Option (ℕ × ℕ)
refusal_in (done a) = None
refusal_in (refused n p) = Some (n, p)

-- the two of a refusal, 0 and 0 of none
abbrev pub number_in : Option (ℕ × ℕ) → ℕ
number_in None = 0
number_in (Some r) = r.0

abbrev pub place_in : Option (ℕ × ℕ) → ℕ
place_in None = 0
place_in (Some r) = r.1
