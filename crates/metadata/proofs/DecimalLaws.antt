-- Decimal numbers: their digits from the front, no leading zeros, and what was written parses to the number.
use Rattle.std.specs.Prelude.{Option, None, Some, MatchOption, unwrap_or, ◌≢◌}
use Rattle.std.specs.Char.{IsNotAsciiDigit}
use Rattle.std.proofs.lemmas.List.{drop_more, drop_all}
use Prim.Native.Nat.{ℕ, zero, suc, ◌+◌, ◌-◌, ◌*◌, ◌/◌, ◌%◌, ◌^◌, ◌≤◌, ◌<◌}
use mathlib.Core.Path.{◌≡◌, refl, sym, ap, ◌∙◌}
use mathlib.Core.Bool.{Bool, true, false, ◌&&◌, cond}
use mathlib.Core.List.{List, [], ◌∷◌, ◌++◌, append_assoc, append-nil}
use native.Mathlib.Nat.{pow-succ'}
use native.Mathlib.Omega.{arith}
use denote.Ref.{Bor}
use lib.Dec.{ltb, leb, eqb}
use lib.ListN.{length, get_or, drop, length-append}
use borrow.Author.Tests.{lt-ltb, le-ltb, le-leb, lt-leb, ltb-true, ltb-false, leb-true, ne_eqb}
use Rattle.metadata.specs.Decimal.{decimal_by, decimal, is_digit, number_from, number, limited, unsigned, parsed}

-- ---- Digits

by-digit : (k n : ℕ) → n < 10 → decimal_by (suc k) n ≡ (48 + n) ∷ []
unfolding decimal_by
by-digit k n h = rw (decimal_by, lt-ltb n 10 h)

by-more : (k n : ℕ) → 10 ≤ n → decimal_by (suc k) n ≡ decimal_by k (n / 10) ++ ((48 + n % 10) ∷ [])
unfolding decimal_by
by-more k n h = rw (decimal_by, le-ltb n 10 h)

-- the last digit behind the others
abbrev behind : ℕ → List ℕ → List ℕ
behind n l = l ++ ((48 + n % 10) ∷ [])

agree : (j k n : ℕ) → (10 ≤ n → decimal_by j (n / 10) ≡ decimal_by k (n / 10)) → decimal_by (suc j) n ≡ decimal_by (suc k) n
agree j k n h = go (ltb n 10) refl
  where
    go : (t : Bool) → ltb n 10 ≡ t → decimal_by (suc j) n ≡ decimal_by (suc k) n
    go true e = by-digit j n (ltb-true n 10 e) ∙ sym (by-digit k n (ltb-true n 10 e))
    go false e = let g = ltb-false n 10 e in by-more j n g ∙ ap (behind n) (h g) ∙ sym (by-more k n g)

-- more steps than a number needs change nothing
enough : (j k n : ℕ) → n < j → n < k → decimal_by j n ≡ decimal_by k n
enough zero k n a b = absurd (omega arith)
enough (suc j) zero n a b = absurd (omega arith)
enough (suc j) (suc k) n a b = agree j k n (λ h. enough j k (n / 10) (omega arith) (omega arith))

pub decimal-digit : (n : ℕ) → n < 10 → decimal n ≡ (48 + n) ∷ []
unfolding decimal
decimal-digit n h = by-digit n n h

pub decimal-more : (n : ℕ) → 10 ≤ n → decimal n ≡ decimal (n / 10) ++ ((48 + n % 10) ∷ [])
unfolding decimal
decimal-more n h = by-more n n h ∙ ap (behind n) (enough n (suc (n / 10)) (n / 10) (omega arith) (omega arith))

-- what holds of the digits, and of a number where it holds of the number without its last digit
module _ (P : ℕ → Type 0) (digit : (n : ℕ) → n < 10 → P n) (more : (n : ℕ) → 10 ≤ n → P (n / 10) → P n) where
  by-test : (n : ℕ) (t : Bool) → ltb n 10 ≡ t → (10 ≤ n → P (n / 10)) → P n
  by-test n true e h = digit n (ltb-true n 10 e)
  by-test n false e h = more n (ltb-false n 10 e) (h (ltb-false n 10 e))

  by-steps : (k n : ℕ) → n < k → P n
  by-steps zero n h = absurd (omega arith)
  by-steps (suc k) n h = by-test n (ltb n 10) refl (λ g. by-steps k (n / 10) (omega arith))

  by-digits : (n : ℕ) → P n
  by-digits n = by-steps (suc n) n (omega arith)

-- a decimal's first digit is 0 only where it is the number
pub record Leads (n b : ℕ) (l : List ℕ) : Type 0 where
  pub is : decimal n ≡ b ∷ l
  pub low : 48 ≤ b
  pub high : b ≤ 57
  pub zero_alone : b ≡ 48 → (n ≡ 0) × (l ≡ [])

leads-more : (n b : ℕ) (l : List ℕ) → 10 ≤ n → Leads (n / 10) b l → Leads n b (behind n l)
leads-more n b l h f =
    record {
      is = decimal-more n h ∙ ap (behind n) f.is;
      low = f.low;
      high = f.high;
      zero_alone = λ e. let z = (f.zero_alone e).0 in absurd (omega arith);
    }

pub decimal-leads : (n : ℕ) → (b : ℕ) × (l : List ℕ) × Leads n b l
decimal-leads =
    by-digits (λ n. (b : ℕ) × (l : List ℕ) × Leads n b l)
    (λ n h. (48 + n, [], record { is = decimal-digit n h; low = omega arith; high = omega arith; zero_alone = λ e. (omega arith, refl) }))
    (λ n h f. (f.0, behind n f.1, leads-more n f.0 f.1 h f.2))

-- ---- Parsing

pub digit-true : (b : ℕ) → 48 ≤ b → b ≤ 57 → is_digit b ≡ true
digit-true b h g = rw (le-leb 48 b h, le-leb b 57 g)

pub digit-is : (b : ℕ) → is_digit b ≡ true → (48 ≤ b) × (b ≤ 57)
digit-is b e = go (leb 48 b) (leb b 57) refl refl e
  where
    go : (l h : Bool) → leb 48 b ≡ l → leb b 57 ≡ h → l && h ≡ true → (48 ≤ b) × (b ≤ 57)
    go true true l h e = (leb-true 48 b l, leb-true b 57 h)
    go true false l h e = absurd (let z : ◌≡◌ {A = ℕ} 0 1 = cc in omega arith)
    go false h l k e = absurd (let z : ◌≡◌ {A = ℕ} 0 1 = cc in omega arith)

pub digit-false : (b : ℕ) → IsNotAsciiDigit b → is_digit b ≡ false
digit-false b h = go (is_digit b) refl
  where
    go : (t : Bool) → is_digit b ≡ t → is_digit b ≡ false
    go true e = let i = digit-is b e in absurd (omega arith)
    go false e = e

from-digit : (n b : ℕ) (l : List ℕ) → 48 ≤ b → b ≤ 57 → number_from n (b ∷ l) ≡ number_from (n * 10 + (b - 48)) l
unfolding number_from
from-digit n b l h g = rw (digit-true b h g)

-- what was written is read, whatever follows
from-decimal : (n : ℕ) (l : List ℕ) → number_from 0 (decimal n ++ l) ≡ number_from n l
from-decimal =
    by-digits (λ n. (l : List ℕ) → number_from 0 (decimal n ++ l) ≡ number_from n l)
    (λ n h l. let e : 0 * 10 + (48 + n - 48) ≡ n = omega arith in
    ap (λ (d : List ℕ). number_from 0 (d ++ l)) (decimal-digit n h)
    ∙ from-digit 0 (48 + n) l (omega arith) (omega arith) ∙ ap (λ (m : ℕ). number_from m l) e)
    (λ n h f l. let e : n / 10 * 10 + (48 + n % 10 - 48) ≡ n = omega arith in
    ap (λ (d : List ℕ). number_from 0 (d ++ l)) (decimal-more n h)
    ∙ ap (number_from 0) (append_assoc (decimal (n / 10)) ((48 + n % 10) ∷ []) l) ∙ f ((48 + n % 10) ∷ l)
    ∙ from-digit (n / 10) (48 + n % 10) l (omega arith) (omega arith) ∙ ap (λ (m : ℕ). number_from m l) e)

number-decimal : (n : ℕ) → number (decimal n) ≡ Some n
unfolding number number_from
number-decimal n =
    let f = (decimal-leads n).2 in
    ap number f.is ∙ ap (number_from 0) (sym f.is ∙ sym (append-nil (decimal n))) ∙ from-decimal n []

unsigned-decimal : (n : ℕ) → unsigned (decimal n) ≡ decimal n
unfolding unsigned
unsigned-decimal n =
    let b = (decimal-leads n).0 in
    let f = (decimal-leads n).2 in
    ap unsigned f.is ∙ rw (ne_eqb b 43 (λ e. let g = f.low in omega arith)) (sym f.is)

-- a decimal parses back to its number
pub decimal-parses : (n : ℕ) → n ≤ 4294967295 → parsed (decimal n) ≡ Some n
unfolding parsed
decimal-parses n h = rw (unsigned-decimal n, number-decimal n, le-leb n 4294967295 h)

-- a number that is too large stays so, whatever follows
pub too-large : (l : List ℕ) (n : ℕ) → 4294967295 < n → limited (number_from n l) ≡ None
unfolding number_from
too-large [] n h = rw (lt-leb n 4294967295 h)
too-large (b ∷ l) n h = go (is_digit b) (too-large l (n * 10 + (b - 48)) (omega arith))
  where
    go : (t : Bool) → limited (number_from (n * 10 + (b - 48)) l) ≡ None → limited (cond t (number_from (n * 10 + (b - 48)) l) None) ≡ None
    go true e = e
    go false e = refl

-- ---- The same of what is left of a text

module _ (s : List ℕ) (i : ℕ) (h : i < length s) where
  here : drop i s ≡ get_or s i 0 ∷ drop (i + 1) s
  here = drop_more s i 0 h

  pub number-more : (n : ℕ) → is_digit (get_or s i 0) ≡ true → number_from n (drop i s) ≡ number_from (n * 10 + (get_or s i 0 - 48)) (drop (i + 1) s)
  unfolding number_from
  number-more n e = ap (number_from n) here ∙ rw e

  pub number-other : (n : ℕ) → is_digit (get_or s i 0) ≡ false → number_from n (drop i s) ≡ None
  unfolding number_from
  number-other n e = ap (number_from n) here ∙ rw e

pub number-end : (s : List ℕ) (n : ℕ) (i : ℕ) → length s ≤ i → number_from n (drop i s) ≡ Some n
unfolding number_from
number-end s n i h = ap (number_from n) (drop_all i s h)

pub number-none : (l : List ℕ) → length l ≡ 0 → number l ≡ None
unfolding number
number-none [] e = refl
number-none (b ∷ l) e = absurd (omega arith)

pub number-some : (l : List ℕ) → 0 < length l → number l ≡ number_from 0 l
unfolding number
number-some [] h = absurd (omega arith)
number-some (b ∷ l) h = refl

pub unsigned-shorter : (l : List ℕ) → length (unsigned l) ≤ length l
unfolding unsigned
unsigned-shorter [] = omega arith
unsigned-shorter (b ∷ l) = go (eqb b 43)
  where
    go : (t : Bool) → length (cond t l (b ∷ l)) ≤ length (b ∷ l)
    go true = omega arith
    go false = omega arith

-- what is left of a text without a plus at its front
pub unsigned-stripped : (l : List ℕ) (r : Option (Bor (List ℕ))) → MatchOption r ((rest : List ℕ) → l ≢ 43 ∷ [] ++ rest) (λ x. l ≡ 43 ∷ [] ++ x.now) →
    (b : Bor (List ℕ)) → b.now ≡ l → (unwrap_or r b).now ≡ unsigned l
unfolding unsigned
unsigned-stripped l (Some x) e b k = sym (ap unsigned e)
unsigned-stripped [] None e b k = k
unsigned-stripped (d ∷ l) None e b k = k ∙ sym (rw (ne_eqb d 43 (λ z. e l (ap (λ (n : ℕ). n ∷ l) z))))

-- ---- Lengths

length-behind : (n : ℕ) (l : List ℕ) → length (behind n l) ≡ length l + 1
length-behind n l = length-append l ((48 + n % 10) ∷ [])

pub length-digit : (n : ℕ) → n < 10 → length (decimal n) ≡ 1
length-digit n h = ap length (decimal-digit n h)

pub length-more : (n : ℕ) → 10 ≤ n → length (decimal n) ≡ length (decimal (n / 10)) + 1
length-more n h = ap length (decimal-more n h) ∙ length-behind n (decimal (n / 10))

length-by : (m n : ℕ) → (10 ≤ n → length (decimal (n / 10)) ≤ m) → length (decimal n) ≤ suc m
length-by m n h = go (ltb n 10) refl
  where
    go : (t : Bool) → ltb n 10 ≡ t → length (decimal n) ≤ suc m
    go true e = let f = length-digit n (ltb-true n 10 e) in omega arith
    go false e = let g = ltb-false n 10 e in let f = length-more n g in let i = h g in omega arith

length-below : (k n : ℕ) → n < 10 ^ suc k → length (decimal n) ≤ suc k
length-below zero n h = length-by 0 n (λ g. absurd (omega arith))
length-below (suc k) n h =
    let e = pow-succ' 10 (suc k) in length-by (suc k) n (λ g. length-below k (n / 10) (omega arith))

-- a number of four bytes has at most ten digits
pub decimal-short : (n : ℕ) → n ≤ 4294967295 → length (decimal n) ≤ 10
decimal-short n h = length-below 9 n (omega arith)
