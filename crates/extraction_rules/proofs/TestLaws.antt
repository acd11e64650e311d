-- Tests put together: what one of `&&` or `||` says of its parts.
use mathlib.Core.Path.{◌≡◌, refl}
use mathlib.Core.Bool.{Bool, true, false, cond, ◌||◌, true≢false}

pub or-neither : (a b : Bool) → a || b ≡ false → (a ≡ false) × (b ≡ false)
or-neither true b e = absurd (true≢false e)
or-neither false b e = (refl, e)

pub neither-or : (a b : Bool) → a ≡ false → b ≡ false → a || b ≡ false
neither-or true b e k = absurd (true≢false e)
neither-or false b e k = k

pub is-false : (b : Bool) → (b ≡ true → ⊥) → b ≡ false
is-false true h = absurd (h refl)
is-false false h = refl

pub is-true : (b : Bool) → (b ≡ false → ⊥) → b ≡ true
is-true true h = refl
is-true false h = absurd (h refl)

-- a function of what a test picks
pub cond-of : {A B : Type 0} (f : A → B) (b : Bool) (x y : A) → f (cond b x y) ≡ cond b (f x) (f y)
cond-of f true x y = refl
cond-of f false x y = refl

pub cond-same : {A : Type 0} (b : Bool) (x : A) → cond b x x ≡ x
cond-same true x = refl
cond-same false x = refl
