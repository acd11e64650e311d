-- How a scope's bytes are shown: the number of modules (2 bytes), then for each its file (2 bytes) and its marks (1 byte).
use Rattle.std.specs.Prelude.{ℕ, ◌+◌, ◌*◌, ◌/◌, ◌%◌, Bool, cond, ◌&&◌, ◌==◌, nat_le, List, [], ◌∷◌, ◌++◌, take, drop, flat_map, codes, slice_index, nat_lt}
use Rattle.std.specs.Fmt.{decimal}
use Rattle.std.specs.Simd.{first_chunks}
use Rattle.text.specs.Hex.{hexed}
use Rattle.answer_text.specs.Left.{zeros}

-- how many modules are told
abbrev pub count_of : List ℕ → ℕ
count_of s = slice_index s 0 * 256 + slice_index s 1

-- the modules, three bytes each; 256 at most have room
abbrev pub modules_of : List ℕ → List (List ℕ)
modules_of s = take (count_of s) (first_chunks 3 256 (drop 2 s))

-- whether a byte of marks stands there: behind the number of modules, and each third
abbrev pub is_marks : ℕ → Bool
is_marks k = nat_le 4 k && (k % 3 == 1)

-- a byte that may be one of marks, after an earlier one: where it is zero, that one stands for it
abbrev pub marked : Bool → ℕ → ℕ → ℕ
marked m b earlier = cond (m && (b == 0)) earlier b

-- bit 0: loaded, 1: stored, 2: cjs, 3: wrapping
abbrev pub marks_text : ℕ → List ℕ
marks_text m = decimal (m % 2) ++ decimal (m / 2 % 2) ++ decimal (m / 4 % 2) ++ decimal (m / 8 % 2)

-- `file:LSCW`
abbrev pub module_text : List ℕ → List ℕ
module_text m = hexed (slice_index m 0 ∷ slice_index m 1 ∷ []) ++ 58 ∷ marks_text (slice_index m 2)

-- apart by commas; `-` for none
abbrev pub modules_text : List (List ℕ) → List ℕ
modules_text [] = codes "-"
modules_text (m ∷ ms) = module_text m ++ flat_map (λ n. 44 ∷ module_text n) ms

-- words where not only zeros stand behind the modules
abbrev pub behind_text : List ℕ → List ℕ
behind_text s = cond (zeros (drop (2 + 3 * count_of s) s)) [] (codes " with bytes behind the scope")

abbrev pub scope_text : List ℕ → List ℕ
scope_text s = cond (nat_lt 256 (count_of s)) (codes "more than 256 modules") (modules_text (modules_of s) ++ behind_text s)
