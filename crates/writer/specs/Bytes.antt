-- Numbers and fields as bytes (document 01: "Integers are big-endian"; 'Tree': "A field is a one-byte tag, a two-byte content
-- length, content").
use Rattle.std.specs.Prelude.{List, [], ◌∷◌, ◌++◌, ℕ, ◌/◌, ◌%◌, length}

-- a number below 2^16
abbrev pub two_bytes : ℕ → List ℕ
two_bytes n = n / 256 ∷ n % 256 ∷ []

-- a number below 2^32: its upper half, then its lower half
abbrev pub four_bytes : ℕ → List ℕ
four_bytes n = two_bytes (n / 65536) ++ two_bytes (n % 65536)

-- the field with tag t and content c
unfoldable pub framed : ℕ → List ℕ → List ℕ
framed t c = t ∷ two_bytes (length c) ++ c
