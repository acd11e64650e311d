-- The searches and changes of the rules' lists, on lists that are read off rows.
use Rattle.std.specs.Prelude.{Option, None, Some, is_some}
use Prim.Native.Nat.{ℕ, zero, suc, ◌+◌, ◌≤◌, ◌<◌}
use native.Mathlib.Omega.{arith}
use mathlib.Core.Path.{◌≡◌, refl, sym, ap, ◌∙◌}
use mathlib.Core.Bool.{Bool, true, false, not, cond}
use mathlib.Core.List.{List, [], ◌∷◌, ◌++◌, map}
use lib.Dec.{eqb}
use lib.ListN.{length, get_or}
use Rattle.tables.specs.Rows.{Row, next, between, first_in, without, with_value}
use Rattle.inputs.specs.Lists.{find, filter, mapped}
use Rattle.state.specs.Cells.{Below}
use Rattle.state.specs.Does.{any}
use Rattle.scope.proofs.Laws.{none-some}

-- ---- Limits

pub below-append : (k v : ℕ) (l : List Row) (r : Row) → Below k v l → r.0 < k → r.1 < v → Below k v (l ++ (r ∷ []))
unfolding Below
below-append k v [] r b p q = (p, q, tt)
below-append k v (s ∷ l) r b p q = (b.0, b.1, below-append k v l r b.2 p q)

pub below-value : (k v : ℕ) (l : List Row) (i x : ℕ) → Below k v l → x < v → Below k v (with_value i x l)
unfolding Below with_value
below-value k v [] i x b p = tt
below-value k v (s ∷ l) zero x b p = (b.0, p, b.2)
below-value k v (s ∷ l) (suc i) x b p = (b.0, b.1, below-value k v l i x b.2 p)

pub below-without : (k v key : ℕ) (l : List Row) → Below k v l → Below k v (without key l)
unfolding Below without
below-without k v key [] b = tt
below-without k v key (s ∷ l) b = by (eqb s.0 key) (below-without k v key l b.2)
  where
    by : (x : Bool) → Below k v (without key l) → Below k v (cond x (without key l) (s ∷ without key l))
    by true c = c
    by false c = (b.0, b.1, c)

pub below-row : (k v : ℕ) (l : List Row) (i : ℕ) → Below k v l → i < length l → ((get_or l i (0, 0)).0 < k) × ((get_or l i (0, 0)).1 < v)
unfolding Below
below-row k v [] i b h = absurd (omega arith)
below-row k v (s ∷ l) zero b h = (b.0, b.1)
below-row k v (s ∷ l) (suc i) b h = below-row k v l i b.2 (omega arith)

-- ---- Lengths

pub length-value : (l : List Row) (i x : ℕ) → length (with_value i x l) ≡ length l
unfolding with_value
length-value [] i x = refl
length-value (s ∷ l) zero x = refl
length-value (s ∷ l) (suc i) x = ap suc (length-value l i x)

pub length-more : {A : Type 0} (l : List A) (r : A) → length (l ++ (r ∷ [])) ≡ length l + 1
length-more [] r = refl
length-more (s ∷ l) r = ap suc (length-more l r) ∙ omega arith

pub length-without : (key : ℕ) (l : List Row) → length (without key l) ≤ length l
unfolding without
length-without key [] = omega arith
length-without key (s ∷ l) = by (eqb s.0 key) (length-without key l)
  where
    by : (x : Bool) → length (without key l) ≤ length l → length (cond x (without key l) (s ∷ without key l)) ≤ suc (length l)
    by true h = omega arith
    by false h = omega arith

-- ---- Searches

abbrev pub row_of : List Row → ℕ → Row
row_of l i = get_or l i (0, 0)

next-row : {A : Type 0} (f : Row → A) (r : Row) (l : List Row) (o : Option ℕ) → mapped (λ i. f (row_of (r ∷ l) i)) (next o) ≡ mapped (λ i. f (row_of l i)) o
next-row f r l None = refl
next-row f r l (Some i) = refl

-- what is found stands among the rest, or first
pub here-below : {n i : ℕ} (x : Bool) (o : Option ℕ) → ((j : ℕ) → o ≡ Some j → j < n) → cond x (Some zero) (next o) ≡ Some i → i < suc n
here-below {i = i} true o h p = let z : zero ≡ i = cc in omega arith
here-below false None h p = none-some p
here-below {i = i} false (Some j) h p = let z : suc j ≡ i = cc in let w = h j refl in omega arith

-- a row that is found stands among the rows
pub first-below : (lo hi : ℕ) (l : List Row) (i : ℕ) → first_in lo hi l ≡ Some i → i < length l
unfolding first_in
first-below lo hi [] i e = none-some e
first-below lo hi (r ∷ l) i e = here-below (between lo hi r.0) (first_in lo hi l) (first-below lo hi l) e

module _ {A : Type 0} (p : A → Bool) (f : Row → A) (lo hi k v : ℕ) (h : (r : Row) → r.0 < k → p (f r) ≡ between lo hi r.0) where
  -- the first of a list that meets a test is the row that the search gives
  pub find-row : (l : List Row) → Below k v l → find p (map f l) ≡ mapped (λ i. f (row_of l i)) (first_in lo hi l)
  unfolding find first_in Below
  find-row [] b = refl
  find-row (r ∷ l) b = ap (λ (x : Bool). cond x (Some (f r)) (find p (map f l))) (h r b.0) ∙ by (between lo hi r.0) (find-row l b.2)
    where
      by : (x : Bool) → find p (map f l) ≡ mapped (λ i. f (row_of l i)) (first_in lo hi l) →
          cond x (Some (f r)) (find p (map f l)) ≡ mapped (λ i. f (row_of (r ∷ l) i)) (cond x (Some zero) (next (first_in lo hi l)))
      by true e = refl
      by false e = e ∙ sym (next-row f r l (first_in lo hi l))

  -- there is one just where the search finds one
  pub any-row : (l : List Row) → Below k v l → any (filter p (map f l)) ≡ is_some (first_in lo hi l)
  unfolding filter first_in Below
  any-row [] b = refl
  any-row (r ∷ l) b = ap (λ (x : Bool). any (cond x (f r ∷ filter p (map f l)) (filter p (map f l)))) (h r b.0) ∙ by (between lo hi r.0) (first_in lo hi l) (any-row l b.2)
    where
      by : (x : Bool) (o : Option ℕ) → any (filter p (map f l)) ≡ is_some o →
          any (cond x (f r ∷ filter p (map f l)) (filter p (map f l))) ≡ is_some (cond x (Some zero) (next o))
      by true o e = refl
      by false None e = e
      by false (Some i) e = e

-- the list without those that meet a test, as rows without a key
pub filter-rows : {A : Type 0} (p : A → Bool) (f : Row → A) (key k v : ℕ) → ((r : Row) → r.0 < k → p (f r) ≡ not (eqb r.0 key)) →
    (l : List Row) → Below k v l → filter p (map f l) ≡ map f (without key l)
unfolding filter without Below
filter-rows p f key k v h [] b = refl
filter-rows {A = A} p f key k v h (r ∷ l) b = ap (λ (x : Bool). cond x (f r ∷ filter p (map f l)) (filter p (map f l))) (h r b.0) ∙ by (eqb r.0 key) (filter-rows p f key k v h l b.2)
  where
    by : (x : Bool) → filter p (map f l) ≡ map f (without key l) →
        cond (not x) (f r ∷ filter p (map f l)) (filter p (map f l)) ≡ map f (cond x (without key l) (r ∷ without key l))
    by true e = e
    by false e = ap (λ (m : List A). f r ∷ m) e
