-- Fields of a text, apart by single spaces.
use Rattle.std.specs.Prelude.{ℕ, zero, suc, ◌+◌, cond, List, [], ◌∷◌, take, drop, length, eqb, Option, None, Some}

-- how many elements stand before the first b
abbrev pub first_of : ℕ → List ℕ → ℕ
first_of b [] = 0
first_of b (x ∷ l) = cond (eqb x b) 0 (suc (first_of b l))

-- where the field at the front ends
unfoldable pub end_at : List ℕ → ℕ
end_at s = first_of 32 s

-- the field number k, from 0
unfoldable pub field_at : ℕ → List ℕ → Option (List ℕ)
field_at zero s = Some (take (end_at s) s)
field_at (suc k) s = cond (eqb (end_at s) (length s)) None (field_at k (drop (end_at s + 1) s))
