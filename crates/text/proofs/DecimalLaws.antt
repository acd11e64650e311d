-- Digits one by one: what a digit of a number can be, and a number and one digit more.
use Rattle.std.proofs.Common.{ℕ, zero, suc, ◌-◌, ◌/◌, ◌%◌, ◌^◌, ◌≤◌, ◌<◌, ◌≡◌, List, [], ◌∷◌, length, get_or, refl, sym, ap, subst, ◌∙◌, ⊎_elim, arith, length-append}
use Rattle.std.proofs.Math.Nat.{pow-suc, eq-or-lt_of_le}
use Rattle.std.proofs.Math.ListN.{get_or-append}
use Rattle.std.proofs.Math.Seq.{get_or_at}
use Rattle.std.specs.Prelude.{None, Some}
use Rattle.text.specs.Digits.{hex_digit_ascii, last_digits, IsDigitCount}
use Rattle.text.specs.Hex.{DigitIs}
use Rattle.text.specs.Decimal.{NumberRead, NumberWritten}
use Rattle.text.specs.Write.{Written}
use Rattle.text.proofs.HexLaws.{glyph-low, glyph-high}
use Rattle.text.proofs.WriteLaws.{written-then}

length-digits : (k n : ℕ) → length (last_digits 10 k n) ≡ k
length-digits zero n = refl
length-digits (suc k) n =
    let h = length-digits k (n / 10) in
    length-append (last_digits 10 k (n / 10)) (hex_digit_ascii (n % 10) ∷ []) ∙ omega arith

-- a character that is no digit of a decimal number
abbrev pub NoDecimal : ℕ → Type 0
NoDecimal c = (v : ℕ) → v < 10 → c ≡ hex_digit_ascii v → ⊥

pub other-no-decimal : (c : ℕ) → DigitIs c None → NoDecimal c
other-no-decimal c h v l e = h v (omega arith) e

pub high-no-decimal : (c w : ℕ) → DigitIs c (Some w) → 9 < w → NoDecimal c
high-no-decimal c w h k v l e = omega (arith, h.1, glyph-low v l, glyph-high w k)

no-decimal-in : (k n i : ℕ) → i < k → NoDecimal (get_or (last_digits 10 k n) i 0) → ⊥
no-decimal-in zero n i h f = omega arith
no-decimal-in (suc k) n i h f =
    let l = length-digits k (n / 10) in
    ⊎_elim
    (λ (e : i ≡ k). f (n % 10) (omega arith) (get_or_at (last_digits 10 k (n / 10)) (hex_digit_ascii (n % 10)) [] 0 i (l ∙ sym e)))
    (λ (m : i < k).
    no-decimal-in k (n / 10) i m
    (subst NoDecimal (get_or-append (last_digits 10 k (n / 10)) (hex_digit_ascii (n % 10) ∷ []) 0 i (omega arith)) f))
    (eq-or-lt_of_le (let m : i ≤ k = omega arith in m))

pub number-bad : (s : List ℕ) (i : ℕ) → i < length s → NoDecimal (get_or s i 0) → NumberRead s None
number-bad s i h g n short e = no-decimal-in (length s) n i h (subst NoDecimal (ap (λ l. get_or l i 0) e) g)

lead-more : (n j : ℕ) → 10 ≤ n → (1 < suc j → 10 ^ (suc j - 1) ≤ n / 10) → 10 ^ (suc (suc j) - 1) ≤ n
lead-more n zero h w = omega arith
lead-more n (suc i) h w =
    let p = pow-suc 10 (suc i) in
    let l : 10 ^ (suc (suc i) - 1) ≤ n / 10 = w (omega arith) in
    let e : suc (suc i) - 1 ≡ suc i = omega arith in
    let k : 10 ^ suc i ≤ n / 10 = subst (λ (m : ℕ). 10 ^ m ≤ n / 10) e l in
    let f : suc (suc (suc i)) - 1 ≡ suc (suc i) = omega arith in
    subst (λ (m : ℕ). 10 ^ m ≤ n) (sym f) (omega arith)

-- one digit behind the fewest of what stands before it
fewest-more : (n k : ℕ) → 10 ≤ n → IsDigitCount 10 1 (n / 10) k → IsDigitCount 10 1 n (suc k)
fewest-more n zero h w = absurd (omega (arith, w.0))
fewest-more n (suc j) h w =
    let p = pow-suc 10 (suc j) in
    let q = pow-suc 10 j in
    (omega arith, omega (arith, w.1), λ m. lead-more n j h w.2)

module _ (room : ℕ) (old mid new : List ℕ) (n g : ℕ) (digit : g ≡ hex_digit_ascii (n % 10)) (last : Written room mid (g ∷ []) new) where
  pub number-one : n < 10 → mid ≡ old → NumberWritten room old n new
  number-one h e = record {
    count = 1;
    fewest = (omega arith, omega arith, λ m. omega arith);
    written = rw (← digit, ← e) last;
  }

  pub number-next : 10 ≤ n → NumberWritten room old (n / 10) mid → NumberWritten room old n new
  number-next h w = record {
    count = suc w.count;
    fewest = fewest-more n w.count h w.fewest;
    written = rw (← digit) (written-then room old (last_digits 10 w.count (n / 10)) mid (g ∷ []) new w.written last);
  }
