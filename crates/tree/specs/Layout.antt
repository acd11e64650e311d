-- Atoms, contexts, ids and literals in bytes (document 01, before 'Scope'). A literal's width, value and equality stand here alone.
use Rattle.std.specs.Prelude.{ℕ, ◌+◌, ◌-◌, ◌*◌, ◌/◌, ◌%◌, ◌<◌, List, [], ◌∷◌, Bool, true, false, ◌&&◌, cond, leb, eqb, get_or, take, drop, Option, Some, None}
use Rattle.std.proofs.Math.Seq.{slice}

-- every element is a byte
abbrev pub Bytes : List ℕ → Type 0
Bytes s = (i : ℕ) → get_or s i 0 < 256

-- n bytes from `at`, inside stop
unfoldable pub skip_at : ℕ → ℕ → ℕ → Option ℕ
skip_at at n stop = cond (leb n (stop - at)) (Some (at + n)) None

-- 'Integers are big-endian': a number as two bytes, and as four
abbrev pub two : ℕ → List ℕ
two n = n / 256 % 256 ∷ n % 256 ∷ []

abbrev pub four : ℕ → List ℕ
four n = n / 16777216 % 256 ∷ n / 65536 % 256 ∷ n / 256 % 256 ∷ n % 256 ∷ []

-- the number in two bytes at a place, and in four
abbrev pub two_at : List ℕ → ℕ → ℕ
two_at s at = get_or s at 0 * 256 + get_or s (at + 1) 0

abbrev pub four_at : List ℕ → ℕ → ℕ
four_at s at = two_at s at * 65536 + two_at s (at + 2)

-- the bytes of the field at the front of a buffer: 'a one-byte tag, a two-byte content length, content'
unfoldable pub field_in : List ℕ → List ℕ
field_in s = take (3 + two_at s 1) s

-- two runs of bytes are equal
unfoldable pub same : List ℕ → List ℕ → Bool
same [] [] = true
same [] (y ∷ t) = false
same (x ∷ s) [] = false
same (x ∷ s) (y ∷ t) = eqb x y && same s t

-- 'A (2 bytes) is an atom', 'C (4 bytes) is a context', 'I is A then C': the bytes that stand at a place
abbrev pub atom_at : List ℕ → ℕ → List ℕ
atom_at s at = slice at (at + 2) s

abbrev pub context_at : List ℕ → ℕ → List ℕ
context_at s at = slice at (at + 4) s

abbrev pub id_at : List ℕ → ℕ → List ℕ
id_at s at = slice at (at + 6) s

-- an id's name and context
abbrev pub name_of : List ℕ → List ℕ
name_of i = take 2 i

abbrev pub context_of : List ℕ → List ℕ
context_of i = drop 2 i

-- 'L is a literal: A, then a 4-byte stamp'
abbrev pub literal_width : ℕ
literal_width = 6

abbrev pub literal_at : List ℕ → ℕ → List ℕ
literal_at s at = slice at (at + literal_width) s

-- where the literal at `at` ends, inside stop
unfoldable pub literal_end : ℕ → ℕ → Option ℕ
literal_end at stop = skip_at at literal_width stop

-- a literal's value is its atom: its bytes, and the number at a place
abbrev pub value_of : List ℕ → List ℕ
value_of l = take 2 l

abbrev pub literal_value : List ℕ → ℕ → ℕ
literal_value s at = two_at s at

-- 'equal literals agree in both'
abbrev pub same_literal : List ℕ → List ℕ → Bool
same_literal a b = same a b
