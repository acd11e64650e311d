-- Ids are the same just where the numbers that stand for them are equal.
use Prim.Native.Nat.{ℕ, ◌/◌, ◌%◌, ◌<◌}
use native.Mathlib.Omega.{arith}
use mathlib.Core.Path.{◌≡◌, refl, sym, ap, ◌∙◌}
use mathlib.Core.Bool.{Bool, true, false, ◌&&◌}
use mathlib.Core.List.{List}
use lib.Dec.{leb, eqb}
use lib.ListN.{take, drop}
use borrow.Author.Tests.{eqb-true, eqb-false, leb-true, leb-false, eq-eqb, ne_eqb}
use Rattle.tree.specs.Layout.{two, four, same, name_of, context_of}
use Rattle.tree.proofs.LayoutLaws.{same-refl, same-two, same-four, same-code}
use Rattle.tables.specs.Rows.{between}
use Rattle.state.specs.Cells.{id_limit, id_of}

-- where codes are the same just where numbers are equal, a code has one number
from-code : (code : ℕ → List ℕ) (m n : ℕ) → same (code m) (code n) ≡ eqb m n → code m ≡ code n → m ≡ n
from-code code m n h e = eqb-true m n (sym h ∙ ap (same (code m)) (sym e) ∙ same-refl (code m))

pub id-name : (n : ℕ) → name_of (id_of n) ≡ two (n / 4294967296)
unfolding id_of
id-name n = refl

pub id-context : (n : ℕ) → context_of (id_of n) ≡ four (n % 4294967296)
unfolding id_of
id-context n = refl

pub same-id : (m n : ℕ) → m < id_limit → n < id_limit → same (id_of m) (id_of n) ≡ eqb m n
same-id m n a b =
    same-code id_of m n (λ e.
    let hi = from-code two (m / 4294967296) (n / 4294967296) (same-two _ _ (omega arith) (omega arith)) (sym (id-name m) ∙ ap (take 2) e ∙ id-name n) in
    let lo = from-code four (m % 4294967296) (n % 4294967296) (same-four _ _ (omega arith) (omega arith)) (sym (id-context m) ∙ ap (drop 2) e ∙ id-context n) in
    omega arith)

pub eqb-swap : (m n : ℕ) → eqb m n ≡ eqb n m
eqb-swap m n = by (eqb m n) refl
  where
    by : (b : Bool) → eqb m n ≡ b → b ≡ eqb n m
    by true e = sym (eq-eqb n m (sym (eqb-true m n e)))
    by false e = sym (ne_eqb n m (λ z. eqb-false m n e (sym z)))

-- from a number to itself stands that number alone
pub between-one : (k n : ℕ) → between k k n ≡ eqb n k
between-one k n = by (leb k n) (leb n k) refl refl
  where
    by : (a b : Bool) → leb k n ≡ a → leb n k ≡ b → (a && b) ≡ eqb n k
    by true true p q = sym (eq-eqb n k (let x = leb-true k n p in let y = leb-true n k q in omega arith))
    by true false p q = sym (ne_eqb n k (λ e. let y = leb-false n k q in omega arith))
    by false b p q = sym (ne_eqb n k (λ e. let x = leb-false k n p in omega arith))

pub same-key : (k n : ℕ) → k < id_limit → n < id_limit → same (id_of n) (id_of k) ≡ between k k n
same-key k n a b = same-id n k b a ∙ sym (between-one k n)
