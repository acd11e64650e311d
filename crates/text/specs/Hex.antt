-- Bytes in lowercase hexadecimal: the text of some bytes, and what reading a text answers. `hex_digit_ascii` is the digit of a value.
use Rattle.std.specs.Prelude.{ℕ, ◌/◌, ◌%◌, ◌≤◌, ◌<◌, ◌≡◌, List, [], ◌∷◌, ◌++◌, length, drop, Option, None, Some, Result, Ok, Err, Vec}
use Rattle.std.specs.Global.{Global}
use Rattle.text.specs.Digits.{hex_digit_ascii}
use Rattle.text.specs.declared.hex.BytesError.{BytesError}
use Rattle.text.specs.declared.hex.BytesError.TheVariants.{Malformed, OutOfMemory}

-- c is the digit of that value, or of none
abbrev pub DigitIs : ℕ → Option ℕ → Type 0
DigitIs c (Some v) = (v < 16) × (c ≡ hex_digit_ascii v)
DigitIs c None = (v : ℕ) → v < 16 → c ≡ hex_digit_ascii v → ⊥

-- two characters are the digits of that byte, or of none
abbrev pub ByteIs : ℕ → ℕ → Option ℕ → Type 0
ByteIs high low (Some b) = (b < 256) × (high ≡ hex_digit_ascii (b / 16)) × (low ≡ hex_digit_ascii (b % 16))
ByteIs high low None = (b : ℕ) → b < 256 → high ≡ hex_digit_ascii (b / 16) → low ≡ hex_digit_ascii (b % 16) → ⊥

-- two digits a byte
abbrev pub hexed : List ℕ → List ℕ
hexed [] = []
hexed (b ∷ bs) = hex_digit_ascii (b / 16) ∷ hex_digit_ascii (b % 16) ∷ hexed bs

-- the field of some bytes: `-` for none
abbrev pub spelt : List ℕ → List ℕ
spelt [] = 45 ∷ []
spelt (b ∷ bs) = hexed (b ∷ bs)

-- bytes are below 256
abbrev pub Small : List ℕ → Type 0
Small [] = Unit
Small (b ∷ bs) = (b < 256) × Small bs

-- the text s is the spelling of no bytes
abbrev pub NotSpelt : (List ℕ → List ℕ) → List ℕ → Type 0
NotSpelt spell s = (bs : List ℕ) → Small bs → s ≡ spell bs → ⊥

-- the text s is the spelling of these bytes
pub record Spelling (spell : List ℕ → List ℕ) (s bytes : List ℕ) : Type 0 where
  pub small : Small bytes
  pub text : s ≡ spell bytes

-- the text s is the spelling of some bytes
abbrev pub IsSpelt : (List ℕ → List ℕ) → List ℕ → Type 0
IsSpelt spell s = (bs : List ℕ) × Spelling spell s bs

-- the text s is the spelling of n bytes, which are put at the front of `out`, and this becomes `new`
pub record Put (spell : List ℕ → List ℕ) (s out : List ℕ) (n : ℕ) (new : List ℕ) : Type 0 where
  pub bytes : List ℕ
  pub spelling : Spelling spell s bytes
  pub count : n ≡ length bytes
  pub fits : n ≤ length out
  pub put : new ≡ bytes ++ drop n out

-- what reading the text s into `out` answers: how many bytes it is the spelling of; or None, where it is that of no bytes that have room
abbrev pub BytesPut : (List ℕ → List ℕ) → List ℕ → List ℕ → Option ℕ → List ℕ → Type 0
BytesPut spell s out (Some n) new = Put spell s out n new
BytesPut spell s out None new = (bs : List ℕ) → Small bs → length bs ≤ length out → s ≡ spell bs → ⊥

-- the same for a field, and None where there is no field
abbrev pub BytesPutFrom : Option (List ℕ) → List ℕ → Option ℕ → List ℕ → Type 0
BytesPutFrom (Some s) out r new = BytesPut spelt s out r new
BytesPutFrom None out r new = r ≡ None

-- what reading the text s answers: its bytes; or Malformed, where it is the spelling of no bytes; or OutOfMemory, where it is that of some
abbrev pub BytesRead : (List ℕ → List ℕ) → List ℕ → Result (Vec ℕ Global) BytesError → Type 0
BytesRead spell s (Ok bytes) = Spelling spell s bytes.items
BytesRead spell s (Err Malformed) = NotSpelt spell s
BytesRead spell s (Err OutOfMemory) = IsSpelt spell s

-- the bytes in a field, and none where there is no field
abbrev pub BytesFrom : Option (List ℕ) → Result (Vec ℕ Global) BytesError → Type 0
BytesFrom (Some s) r = BytesRead spelt s r
BytesFrom None r = r ≡ Err Malformed
