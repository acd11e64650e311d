-- What one field of a request spells.
use Rattle.std.specs.Prelude.{ℕ, ◌≤◌, Bool, cond, List, [], Option, None, Some}
use Rattle.std.specs.Int.{w16, w32, to_be_bytes}
use Rattle.text.specs.Decimal.{NumberRead}
use Rattle.text.specs.Hex.{Spelling, spelt}
use Rattle.request_fields.specs.declared.fields.TheConstants.{LONGEST}

-- a number in decimal
abbrev pub IsNumber : List ℕ → ℕ → Type 0
IsNumber s n = NumberRead s (Some n)

-- 0 or 1
abbrev pub IsFlag : List ℕ → Bool → Type 0
IsFlag s b = IsNumber s (cond b 1 0)

-- the length of a buffer
abbrev pub IsLength : List ℕ → ℕ → Type 0
IsLength s n = IsNumber s n × (n ≤ LONGEST)

-- bytes in hexadecimal, `-` for none
abbrev pub IsBytes : List ℕ → List ℕ → Type 0
IsBytes s bs = Spelling spelt s bs

-- a file, in two bytes
abbrev pub IsFile : List ℕ → ℕ → Type 0
IsFile s n = IsBytes s (to_be_bytes w16 n)

-- a context in four bytes, or none in none
abbrev pub IsContext : List ℕ → Option ℕ → Type 0
IsContext s None = IsBytes s []
IsContext s (Some n) = IsBytes s (to_be_bytes w32 n)
