-- Numbers in decimal. `last_digits 10 k n` is the last k digits of n.
use Rattle.std.specs.Prelude.{ℕ, ◌^◌, ◌≤◌, ◌<◌, ◌≡◌, List, length, Option, None, Some}
use Rattle.text.specs.Digits.{last_digits, IsDigitCount}
use Rattle.text.specs.Write.{Written}

-- from one to nine characters
abbrev pub Short : List ℕ → Type 0
Short s = (0 < length s) × (length s ≤ 9)

-- the text is n in as many digits; or None, where it is no number in one to nine digits
abbrev pub NumberRead : List ℕ → Option ℕ → Type 0
NumberRead s (Some n) = (s ≡ last_digits 10 (length s) n) × (n < 10 ^ length s) × Short s
NumberRead s None = (n : ℕ) → Short s → s ≡ last_digits 10 (length s) n → ⊥

-- the number in a field, and none where there is no field
abbrev pub NumberIn : Option (List ℕ) → Option ℕ → Type 0
NumberIn (Some s) r = NumberRead s r
NumberIn None r = r ≡ None

-- n is written in the fewest digits behind the text `old`, which becomes `new`
pub record NumberWritten (room : ℕ) (old : List ℕ) (n : ℕ) (new : List ℕ) : Type 0 where
  pub count : ℕ
  pub fewest : IsDigitCount 10 1 n count
  pub written : Written room old (last_digits 10 count n) new
