-- Where the first of a list stands that meets a test: through functions, in rows, and what the search gives of it.
use Rattle.std.specs.Prelude.{Option, None, Some}
use Prim.Native.Nat.{ℕ, zero, ◌<◌}
use native.Mathlib.Omega.{arith}
use mathlib.Core.Path.{◌≡◌, refl, sym, ap, ◌∙◌}
use mathlib.Core.Bool.{Bool, true, false, cond}
use mathlib.Core.List.{List, [], ◌∷◌, ◌++◌, map}
use lib.ListN.{length, get_or, length-map}
use Rattle.tables.specs.Rows.{Row, next, between, flip, first_in}
use Rattle.inputs.specs.Lists.{find, mapped}
use Rattle.state.specs.Cells.{Below, index_of}
use Rattle.state.proofs.ListLaws.{first-below, here-below}
use Rattle.scope.proofs.Laws.{none-some}

pub index-map : {A B : Type 0} (q : B → Bool) (g : A → B) (l : List A) → index_of (λ a. q (g a)) l ≡ index_of q (map g l)
unfolding index_of
index-map q g [] = refl
index-map q g (a ∷ l) = ap (λ (o : Option ℕ). cond (q (g a)) (Some zero) (next o)) (index-map q g l)

pub index-same : {A : Type 0} (p q : A → Bool) → ((a : A) → p a ≡ q a) → (l : List A) → index_of p l ≡ index_of q l
unfolding index_of
index-same p q h [] = refl
index-same p q h (a ∷ l) =
    ap (λ (x : Bool). cond x (Some zero) (next (index_of p l))) (h a) ∙ ap (λ (o : Option ℕ). cond (q a) (Some zero) (next o)) (index-same p q h l)

-- a test that asks for a range of keys
pub index-row : (q : Row → Bool) (lo hi k v : ℕ) → ((r : Row) → r.0 < k → q r ≡ between lo hi r.0) → (l : List Row) → Below k v l → index_of q l ≡ first_in lo hi l
unfolding index_of first_in Below
index-row q lo hi k v h [] b = refl
index-row q lo hi k v h (r ∷ l) b =
    ap (λ (x : Bool). cond x (Some zero) (next (index_of q l))) (h r b.0) ∙ ap (λ (o : Option ℕ). cond (between lo hi r.0) (Some zero) (next o)) (index-row q lo hi k v h l b.2)

pub below-flip : (k v : ℕ) (l : List Row) → Below k v l → Below v k (map flip l)
unfolding Below
below-flip k v [] b = tt
below-flip k v (r ∷ l) b = (b.1, b.0, below-flip k v l b.2)

-- a test that asks for a range of values
pub index-value : (q : ℕ → Bool) (lo hi k v : ℕ) → ((n : ℕ) → n < v → q n ≡ between lo hi n) → (l : List Row) → Below k v l →
    index_of (λ (r : Row). q r.1) l ≡ first_in lo hi (map flip l)
index-value q lo hi k v h l b = index-map (λ (r : Row). q r.0) flip l ∙ index-row (λ (r : Row). q r.0) lo hi v k (λ r n. h r.0 n) (map flip l) (below-flip k v l b)

-- a row that is found by its value stands among the rows
pub first-value-below : (lo hi : ℕ) (l : List Row) (i : ℕ) → first_in lo hi (map flip l) ≡ Some i → i < length l
first-value-below lo hi l i e = let n = length-map l flip in let h = first-below lo hi (map flip l) i e in omega arith

next-at : {B : Type 0} (b : B) (d : B) (l : List B) (o : Option ℕ) → mapped (λ i. get_or (b ∷ l) i d) (next o) ≡ mapped (λ i. get_or l i d) o
next-at b d l None = refl
next-at b d l (Some i) = refl

-- what a function gives of the first that meets a test
pub find-index : {A B : Type 0} (p : A → Bool) (g : A → B) (d : B) (l : List A) → mapped g (find p l) ≡ mapped (λ i. get_or (map g l) i d) (index_of p l)
unfolding find index_of
find-index p g d [] = refl
find-index {A = A} {B = B} p g d (a ∷ l) = by (p a) (find-index p g d l)
  where
    by : (x : Bool) → mapped g (find p l) ≡ mapped (λ i. get_or (map g l) i d) (index_of p l) →
        mapped g (cond x (Some a) (find p l)) ≡ mapped (λ i. get_or (g a ∷ map g l) i d) (cond x (Some zero) (next (index_of p l)))
    by true e = refl
    by false e = e ∙ sym (next-at (g a) d (map g l) (index_of p l))

pub index-below : {A : Type 0} (p : A → Bool) (l : List A) (i : ℕ) → index_of p l ≡ Some i → i < length l
unfolding index_of
index-below p [] i e = none-some e
index-below p (a ∷ l) i e = here-below (p a) (index_of p l) (index-below p l) e

-- one more that does not meet the test
pub index-more : {A : Type 0} (p : A → Bool) (l : List A) (a : A) → p a ≡ false → index_of p (l ++ (a ∷ [])) ≡ index_of p l
unfolding index_of
index-more p [] a e = ap (λ (x : Bool). cond x (Some zero) None) e
index-more p (b ∷ l) a e = ap (λ (o : Option ℕ). cond (p b) (Some zero) (next o)) (index-more p l a e)
