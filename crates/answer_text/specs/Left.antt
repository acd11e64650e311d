-- How a buffer is shown that a call has left.
use Rattle.std.specs.Prelude.{ℕ, Bool, cond, List, [], codes, length, take, drop, ◌==◌, Option, None, Some}
use Rattle.std.specs.List.{list_all}
use Rattle.tree.specs.Access.{extent_at}

-- only zeros
abbrev pub zeros : List ℕ → Bool
zeros s = list_all (λ b. b == 0) s

-- the field that ends there, if only zeros stand behind it, or else all of the buffer
abbrev pub shown_to : Option ℕ → List ℕ → List ℕ
shown_to None s = s
shown_to (Some stop) s = cond (zeros (drop stop s)) (take stop s) s

-- what is shown: the field at the front, or all of the buffer
abbrev pub shown : List ℕ → List ℕ
shown s = shown_to (extent_at s 0 (length s)) s

-- words for what a refused call left in its buffers
abbrev pub leftovers_text : List (List ℕ) → List ℕ
leftovers_text bs = cond (list_all zeros bs) [] (codes " with bytes left in a buffer")
