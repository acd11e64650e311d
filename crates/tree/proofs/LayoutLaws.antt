-- Runs of bytes: equality byte by byte and as lists, and the numbers that they hold.
use Prim.Native.Nat.{ℕ, suc, ◌+◌, ◌*◌, ◌/◌, ◌%◌, ◌≤◌, ◌<◌}
use mathlib.Core.Path.{◌≡◌, refl, sym, ap, ap₂, ◌∙◌}
use mathlib.Core.Bool.{Bool, true, false, ◌&&◌}
use mathlib.Core.List.{List, [], ◌∷◌, ◌++◌}
use native.Mathlib.Omega.{arith}
use lib.Dec.{eqb}
use lib.ListN.{length, get_or}
use lib.Pointwise.{pointwise}
use lib.Seq.{slice, slice_empty, slice-cons}
use borrow.Author.Tests.{eq-eqb, eqb-true, eqb-false}
use Rattle.tree.specs.Layout.{Bytes, same, two, four, two_at, four_at, atom_at, context_at}
use Rattle.tree.proofs.Table.{both-true}
use Rattle.tree.proofs.SliceLaws.{slice-join}

-- the code's test of two runs
pub same-pointwise : (l m : List ℕ) → pointwise eqb l m ≡ same l m
unfolding same
same-pointwise [] [] = refl
same-pointwise [] (y ∷ m) = refl
same-pointwise (x ∷ l) [] = refl
same-pointwise (x ∷ l) (y ∷ m) = ap (λ (b : Bool). eqb x y && b) (same-pointwise l m)

-- runs that are the same are equal, and equal runs are the same
pub same-refl : (l : List ℕ) → same l l ≡ true
unfolding same
same-refl [] = refl
same-refl (x ∷ l) = rw (eq-eqb x x refl) (same-refl l)

pub same-equal : (l m : List ℕ) → same l m ≡ true → l ≡ m
unfolding same
same-equal [] [] e = refl
same-equal [] (y ∷ m) e = cc
same-equal (x ∷ l) [] e = cc
same-equal (x ∷ l) (y ∷ m) e = let h = both-true (eqb x y) (same l m) e in ap₂ ◌∷◌ (eqb-true x y h.0) (same-equal l m h.1)

-- ---- numbers and the bytes that hold them

two_bytes : (s : List ℕ) (at : ℕ) → at + 2 ≤ length s → atom_at s at ≡ get_or s at 0 ∷ get_or s (at + 1) 0 ∷ []
two_bytes s at h =
    let a : suc at ≡ at + 1 = omega arith in
    let b : suc (at + 1) ≡ at + 2 = omega arith in
    slice-cons at (at + 2) s 0 (omega arith) h ∙ ap (λ (l : List ℕ). get_or s at 0 ∷ l)
    (ap (λ (n : ℕ). slice n (at + 2) s) a ∙ slice-cons (at + 1) (at + 2) s 0 (omega arith) h
    ∙ ap (λ (l : List ℕ). get_or s (at + 1) 0 ∷ l) (ap (λ (n : ℕ). slice n (at + 2) s) b ∙ slice_empty (at + 2) s))

-- the atom at a place, from its number
pub two_at-is : (s : List ℕ) (at : ℕ) → Bytes s → at + 2 ≤ length s → two (two_at s at) ≡ atom_at s at
two_at-is s at bs h =
    let b₀ = bs at in
    let b₁ = bs (at + 1) in
    let hi : two_at s at / 256 % 256 ≡ get_or s at 0 = omega arith in
    let lo : two_at s at % 256 ≡ get_or s (at + 1) 0 = omega arith in
    ap₂ (λ (x y : ℕ). x ∷ y ∷ []) hi lo ∙ sym (two_bytes s at h)

-- the context at a place, from its number
pub four-at : (s : List ℕ) (at : ℕ) → Bytes s → at + 4 ≤ length s → four (four_at s at) ≡ context_at s at
four-at s at bs h =
    let b₀ = bs at in
    let b₁ = bs (at + 1) in
    let b₂ = bs (at + 2) in
    let b₃ = bs (at + 2 + 1) in
    let n = four_at s at in
    let e₀ : n / 16777216 % 256 ≡ get_or s at 0 = omega arith in
    let e₁ : n / 65536 % 256 ≡ get_or s (at + 1) 0 = omega arith in
    let e₂ : n / 256 % 256 ≡ get_or s (at + 2) 0 = omega arith in
    let e₃ : n % 256 ≡ get_or s (at + 2 + 1) 0 = omega arith in
    let z : at + 2 + 2 ≡ at + 4 = omega arith in
    ap₂ (λ (x y : ℕ). x ∷ y ∷ n / 256 % 256 ∷ n % 256 ∷ []) e₀ e₁ ∙ ap₂ (λ (x y : ℕ). get_or s at 0 ∷ get_or s (at + 1) 0 ∷ x ∷ y ∷ []) e₂ e₃
    ∙ ap₂ ◌++◌ (sym (two_bytes s at (omega arith))) (sym (two_bytes s (at + 2) (omega arith)))
    ∙ ap (λ (e : ℕ). slice at (at + 2) s ++ slice (at + 2) e s) z ∙ slice-join at (at + 2) (at + 4) s (omega arith) (omega arith) h

-- where numbers have one code each, codes are the same just where the numbers are equal
module _ (code : ℕ → List ℕ) (m n : ℕ) (one : code m ≡ code n → m ≡ n) where
  agree : (a b : Bool) → same (code m) (code n) ≡ a → eqb m n ≡ b → a ≡ b
  agree true true s e = refl
  agree false false s e = refl
  agree true false s e = absurd (eqb-false m n e (one (same-equal (code m) (code n) s)))
  agree false true s e =
      let h : true ≡ false = sym (same-refl (code m)) ∙ ap (λ (k : ℕ). same (code m) (code k)) (eqb-true m n e) ∙ s in
      cc

  pub same-code : same (code m) (code n) ≡ eqb m n
  same-code = agree (same (code m) (code n)) (eqb m n) refl refl

-- atoms, and contexts
pub same-two : (m n : ℕ) → m < 65536 → n < 65536 → same (two m) (two n) ≡ eqb m n
same-two m n a b =
    same-code two m n (λ e. let hi : m / 256 % 256 ≡ n / 256 % 256 = cc in let lo : m % 256 ≡ n % 256 = cc in omega arith)

four-whole : (n : ℕ) → n < 4294967296 → n ≡ n / 16777216 % 256 * 16777216 + n / 65536 % 256 * 65536 + n / 256 % 256 * 256 + n % 256
four-whole n h =
    let a : n / 65536 ≡ n / 256 / 256 = omega arith in
    let b : n / 16777216 ≡ n / 65536 / 256 = omega arith in
    let c : n / 16777216 % 256 ≡ n / 16777216 = omega arith in
    omega arith

pub same-four : (m n : ℕ) → m < 4294967296 → n < 4294967296 → same (four m) (four n) ≡ eqb m n
same-four m n a b =
    same-code four m n
    (λ e. four-whole m a
    ∙ ap₂ (λ (x y : ℕ). x * 16777216 + y * 65536 + m / 256 % 256 * 256 + m % 256) (cc) (cc)
    ∙ ap₂ (λ (x y : ℕ). n / 16777216 % 256 * 16777216 + n / 65536 % 256 * 65536 + x * 256 + y) (cc) (cc) ∙ sym (four-whole n b))
