-- A bitmap's bits: none is set in zeros, and an `or` with 2^k sets the k-th bit of a cell and no other.
use Prim.Native.Nat.{ℕ, zero, suc, ◌+◌, ◌-◌, ◌*◌, ◌/◌, ◌%◌, ◌^◌, ◌<◌, max}
use native.Mathlib.Nat.{zero-add, zero-div, pow-suc}
use native.Mathlib.Omega.{arith}
use mathlib.Core.Path.{◌≡◌, refl, ap, ◌∙◌}
use mathlib.Core.Bool.{Bool, true, false, ◌||◌, or-true, or-false}
use mathlib.Core.List.{List}
use lib.Bits.{bit_or, or_shr, or_step}
use lib.Dec.{eqb, ltb}
use lib.ListN.{length, get_or, set, replicate, length-set}
use lib.Pow.{pow-add, pow-lt, shl-shr, shl_exact, shr_lt}
use lib.Seq.{get_or-set_same, get_or-set_other}
use borrow.Author.Tests.{ltb-true, ltb-false, eqb-true, eqb-false, eq-eqb, ne_eqb}
use Rattle.inputs.specs.Bitmap.{is_set, WithBit}

-- a digit of an `or` is 1 where one of the two is
digit-or : (x y j : ℕ) → bit_or x y / 2 ^ j % 2 ≡ max (x / 2 ^ j % 2) (y / 2 ^ j % 2)
digit-or x y j =
    let e = or_step (x / 2 ^ j) (y / 2 ^ j) in ap (λ (n : ℕ). n % 2) (or_shr x y j) ∙ omega (arith, e)

-- the digits of 2^k
digit-here : (k : ℕ) → 1 * 2 ^ k / 2 ^ k % 2 ≡ 1
digit-here k = ap (λ (n : ℕ). n % 2) (shl-shr 1 k)

digit-below : (j d : ℕ) → 1 * 2 ^ (suc d + j) / 2 ^ j % 2 ≡ 0
digit-below j d =
    let e : 1 * 2 ^ (suc d + j) ≡ 2 ^ suc d * 2 ^ j = rw pow-add (omega arith) in
    let f = pow-suc 2 d in
    ap (λ (n : ℕ). n / 2 ^ j % 2) e ∙ ap (λ (n : ℕ). n % 2) (shl-shr (2 ^ suc d) j) ∙ omega (arith, f)

digit-above : (j k : ℕ) → k < j → 1 * 2 ^ k / 2 ^ j % 2 ≡ 0
digit-above j k h =
    let p = pow-lt h in
    let q : 1 * 2 ^ k / 2 ^ j < 1 = shr_lt 0 j (rw zero-add (omega (arith, p))) in
    omega (arith, q)

digit-other : (j k : ℕ) → (j ≡ k → ⊥) → 1 * 2 ^ k / 2 ^ j % 2 ≡ 0
digit-other j k h = by (ltb j k) refl
  where
    by : (b : Bool) → ltb j k ≡ b → 1 * 2 ^ k / 2 ^ j % 2 ≡ 0
    by true e =
        let l = ltb-true j k e in
        let d : k ≡ suc (k - suc j) + j = omega arith in
        ap (λ (n : ℕ). 1 * 2 ^ n / 2 ^ j % 2) d ∙ digit-below j (k - suc j)
    by false e = let l = ltb-false j k e in digit-above j k (omega arith)

-- the k-th bit of a cell is set, and its other bits are as they were
one-set : (x k : ℕ) → eqb (bit_or x (1 * 2 ^ k) / 2 ^ k % 2) 1 ≡ true
one-set x k = let e = digit-here k in eq-eqb _ 1 (digit-or x (1 * 2 ^ k) k ∙ omega (arith, e))

others-kept : (x j k : ℕ) → (j ≡ k → ⊥) → eqb (bit_or x (1 * 2 ^ k) / 2 ^ j % 2) 1 ≡ eqb (x / 2 ^ j % 2) 1
others-kept x j k h =
    let e = digit-other j k h in
    let f : bit_or x (1 * 2 ^ k) / 2 ^ j % 2 ≡ x / 2 ^ j % 2 = digit-or x (1 * 2 ^ k) j ∙ omega (arith, e) in
    ap (λ (d : ℕ). eqb d 1) f

-- the cell of the bit n with this bit set
abbrev cell_with : List ℕ → ℕ → ℕ
cell_with cells n = bit_or (get_or cells (n / 64) 0) (1 * 2 ^ (n % 64))

module _ (cells : List ℕ) (n : ℕ) (h : n / 64 < length cells) where
  bit-of : (m : ℕ) → is_set (set cells (n / 64) (cell_with cells n)) m ≡ (is_set cells m || eqb m n)
  unfolding is_set
  bit-of m = by (eqb (m / 64) (n / 64)) (eqb (m % 64) (n % 64)) refl refl
    where
      by : (a b : Bool) → eqb (m / 64) (n / 64) ≡ a → eqb (m % 64) (n % 64) ≡ b →
          eqb (get_or (set cells (n / 64) (cell_with cells n)) (m / 64) 0 / 2 ^ (m % 64) % 2) 1
          ≡ (eqb (get_or cells (m / 64) 0 / 2 ^ (m % 64) % 2) 1 || eqb m n)
      by true true e f =
          let p = eqb-true (m / 64) (n / 64) e in
          let q = eqb-true (m % 64) (n % 64) f in
          rw (p, q, get_or-set_same cells (n / 64) (cell_with cells n) 0 h, one-set, eq-eqb m n (omega arith), or-true)
      by true false e f =
          let p = eqb-true (m / 64) (n / 64) e in
          let q = eqb-false (m % 64) (n % 64) f in
          rw (p, get_or-set_same cells (n / 64) (cell_with cells n) 0 h, others-kept _ _ _ q, ne_eqb m n (λ r. q (ap (λ (k : ℕ). k % 64) r)), or-false)
      by false b e f =
          let p = eqb-false (m / 64) (n / 64) e in
          rw (get_or-set_other cells (n / 64) (m / 64) (cell_with cells n) 0 p, ne_eqb m n (λ r. p (ap (λ (k : ℕ). k / 64) r)), or-false)

  -- as the code makes it: 2^(n % 64) is shifted, and loses no bit
  pub with-bit : WithBit cells n (set cells (n / 64) (bit_or (get_or cells (n / 64) 0) ((1 * 2 ^ (n % 64)) % 2 ^ 64)))
  with-bit =
      rw (shl_exact {a = 1} 1 (n % 64) 64 (omega arith) (omega arith))
      (record { size = length-set cells (n / 64) (cell_with cells n); bits = bit-of })

-- in zeros no bit is set
zeros : (n i : ℕ) → get_or {A = ℕ} (replicate n 0) i 0 ≡ 0
zeros zero i = refl
zeros (suc n) zero = refl
zeros (suc n) (suc i) = zeros n i

zero-digit : (j : ℕ) → 0 / 2 ^ j % 2 ≡ 0
zero-digit j = rw zero-div

pub none-set : (n m : ℕ) → is_set (replicate n 0) m ≡ false
unfolding is_set
none-set n m = rw (zeros n (m / 64), zero-digit (m % 64))
