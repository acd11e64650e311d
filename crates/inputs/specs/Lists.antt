-- Searches in lists, and in lists of byte runs.
use Rattle.std.specs.Prelude.{ℕ, Bool, true, false, cond, ◌||◌, List, [], ◌∷◌, Option, None, Some}
use Rattle.tree.specs.Layout.{same}

-- the first that meets a test
unfoldable pub find : {A : Type 0} → (A → Bool) → List A → Option A
find p [] = None
find p (a ∷ l) = cond (p a) (Some a) (find p l)

-- those that meet a test
unfoldable pub filter : {A : Type 0} → (A → Bool) → List A → List A
filter p [] = []
filter p (a ∷ l) = cond (p a) (a ∷ filter p l) (filter p l)

abbrev pub is_some : {A : Type 0} → Option A → Bool
is_some None = false
is_some (Some a) = true

-- the value, if there is one, through a function
abbrev pub mapped : {A B : Type 0} → (A → B) → Option A → Option B
mapped f None = None
mapped f (Some a) = Some (f a)

-- a byte run is one of these
unfoldable pub among : List ℕ → List (List ℕ) → Bool
among a [] = false
among a (b ∷ l) = same a b || among a l
