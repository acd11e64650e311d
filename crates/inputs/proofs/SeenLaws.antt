-- Which sources of a table were met. The code goes through the rows of each half of the sources (`names-by-halves`) and sets a bit for each
-- row, so a source is named twice in the rows that are left where one of them has a bit that is set (`hits`), or where they name one twice
-- among themselves (`repeats`): each row passed keeps that (`twice-on`, and `twice-past` for a row of the other half).
use Rattle.std.specs.Prelude.{Option, Some}
use Prim.Native.Nat.{ℕ, suc, ◌+◌, ◌*◌, ◌/◌, ◌%◌, ◌<◌}
use native.Mathlib.Omega.{arith}
use mathlib.Core.Path.{◌≡◌, refl, sym, ap, ◌∙◌}
use mathlib.Core.Bool.{Bool, true, false, cond, ◌||◌, or_assoc}
use mathlib.Core.List.{List, [], ◌∷◌, ◌++◌}
use lib.Dec.{eqb}
use lib.ListN.{length, get_or, replicate}
use borrow.Author.Tests.{eqb-true, eqb-false, eq-eqb, ne_eqb}
use Rattle.tree.specs.Layout.{two, two_at}
use Rattle.inputs.specs.Bitmap.{is_set, WithBit, half_of}
use Rattle.inputs.specs.Lists.{find, filter, is_some}
use Rattle.inputs.specs.Table.{Row, rows_in, row_of, repeats}
use Rattle.inputs.proofs.TableLaws.{bytes-two, small, atom-is, row_in, rows-cons, short-rows}
use Rattle.inputs.proofs.BitmapLaws.{none-set}

-- one of these rows has a source whose bit, in its half, is set
unfoldable pub hits : List ℕ → List Row → Bool
hits cells [] = false
hits cells (r ∷ rows) = is_set cells (two_at r.source 0 % 32768) || hits cells rows

-- one of them has, or two have the same source
abbrev pub twice_from : List ℕ → List Row → Bool
twice_from cells rows = hits cells rows || repeats rows

-- before the first row no bit is set
no-hit : (n : ℕ) (rows : List Row) → hits (replicate n 0) rows ≡ false
unfolding hits
no-hit n [] = refl
no-hit n (r ∷ rows) = rw (none-set n (two_at r.source 0 % 32768), no-hit n rows)

pub twice-first : (n : ℕ) (rows : List Row) → repeats rows ≡ twice_from (replicate n 0) rows
twice-first n rows = rw (no-hit n rows)

either : (p q x : Bool) (r : Row) (o : Option Row) → ((p || q) || (x || is_some o)) ≡ ((p || x) || is_some (cond q (Some r) o))
either true q x r o = refl
either false true true r o = refl
either false true false r o = refl
either false false x r o = refl

-- in one half the bit tells the source
same-bit : (n m half : ℕ) → n / 32768 ≡ half → m / 32768 ≡ half → eqb (n % 32768) (m % 32768) ≡ eqb n m
same-bit n m half p q = by (eqb n m) refl
  where
    by : (b : Bool) → eqb n m ≡ b → eqb (n % 32768) (m % 32768) ≡ b
    by true e = let d = eqb-true n m e in eq-eqb (n % 32768) (m % 32768) (omega arith)
    by false e = let d = eqb-false n m e in ne_eqb (n % 32768) (m % 32768) (λ r. d (omega arith))

-- with one more bit set, a row with that source is a hit too
module _ {cells cells' : List ℕ} {m half : ℕ} (w : WithBit cells (m % 32768) cells') (h : m < 65536) (p : m / 32768 ≡ half) where
  abbrev Told : List Row → Type 0
  Told rows = hits cells' rows ≡ (hits cells rows || is_some (row_of (two m) rows))

  told-row : (x y f : ℕ) (rows : List Row) → x < 256 → y < 256 → Told rows → (t : Bool) → eqb ((x * 256 + y) / 32768) half ≡ t →
      Told (cond t (record { source = x ∷ y ∷ []; file = f } ∷ rows) rows)
  unfolding hits row_of find
  told-row x y f rows a b ih true e =
      let n = x * 256 + y in
      let q = same-bit n m half (eqb-true (n / 32768) half e) p in
      rw (w.bits (n % 32768), q, ih, atom-is x y m a b h) (either (is_set cells (n % 32768)) (eqb n m) _ _ _)
  told-row x y f rows a b ih false e = ih

  hits-more : (l : List ℕ) → ((i : ℕ) → get_or l i 0 < 256) → Told (half_of half (rows_in l))
  unfolding hits half_of filter rows_in row_of find
  hits-more [] b = refl
  hits-more (x ∷ []) b = refl
  hits-more (x ∷ (y ∷ [])) b = refl
  hits-more (x ∷ (y ∷ (z ∷ []))) b = refl
  hits-more (x ∷ (y ∷ (z ∷ (v ∷ l)))) b =
      told-row x y (z * 256 + v) (half_of half (rows_in l)) (b 0) (b 1) (hits-more l (λ i. b (suc (suc (suc (suc i)))))) _ refl

-- the rows that are left of a table, four bytes each
pub record Left (size : ℕ) (rest : List ℕ) : Type 0 where
  pub by_four : size ≡ 4
  pub bytes : (i : ℕ) → get_or rest i 0 < 256

-- one row of them is taken
pub record Taken (size : ℕ) (x l : List ℕ) : Type 0 where
  pub whole : length x ≡ 4
  pub high : get_or x 0 0 < 256
  pub low : get_or x 1 0 < 256
  pub left : Left size l

pub taken : {size : ℕ} (x : List ℕ) {l rest : List ℕ} → Left size rest → rest ≡ x ++ l → length x ≡ size → Taken size x l
taken {size} x {l} w e h = by x (h ∙ w.by_four) (λ i. rw e at (w.bytes i))
  where
    by : (x : List ℕ) → length x ≡ 4 → ((i : ℕ) → get_or (x ++ l) i 0 < 256) → Taken size x l
    by [] h b = absurd (omega arith)
    by (a ∷ []) h b = absurd (omega arith)
    by (a ∷ (b ∷ [])) h w = absurd (omega arith)
    by (a ∷ (b ∷ (c ∷ []))) h w = absurd (omega arith)
    by (a ∷ (b ∷ (c ∷ (d ∷ [])))) h bs =
        record { whole = refl; high = bs 0; low = bs 1; left = record { by_four = w.by_four; bytes = λ i. bs (suc (suc (suc (suc i)))) } }
    by (a ∷ (b ∷ (c ∷ (d ∷ (e ∷ x))))) h w = absurd (omega arith)

-- the row that is taken has the source m
module _ {size : ℕ} {x l rest : List ℕ} (w : Taken size x l) (front : rest ≡ x ++ l) (m : ℕ) (s : m ≡ two_at x 0) (half : ℕ) (cells : List ℕ) where
  first-row : rows_in rest ≡ row_in x ∷ rows_in l
  first-row = ap rows_in front ∙ rows-cons x l w.whole

  pub twice-past : (m / 32768 ≡ half → ⊥) → half_of half (rows_in rest) ≡ half_of half (rows_in l)
  unfolding half_of filter
  twice-past d = rw (first-row, ne_eqb (two_at x 0 / 32768) half (λ e. d (rw s e)))

  module _ (p : m / 32768 ≡ half) where
    this-half : half_of half (rows_in rest) ≡ row_in x ∷ half_of half (rows_in l)
    unfolding half_of filter
    this-half = rw (first-row, eq-eqb (two_at x 0 / 32768) half (rw s at p))

    pub twice-here : is_set cells (m % 32768) ≡ true → twice_from cells (half_of half (rows_in rest)) ≡ true
    unfolding hits
    twice-here e = rw (this-half, rw s at e)

    pub twice-on : {cells' : List ℕ} → is_set cells (m % 32768) ≡ false → WithBit cells (m % 32768) cells' →
        twice_from cells (half_of half (rows_in rest)) ≡ twice_from cells' (half_of half (rows_in l))
    unfolding hits repeats
    twice-on e b =
        let others = half_of half (rows_in l) in
        let a = get_or x 0 0 in
        let z = get_or x 1 0 in
        let on = hits-more b (rw s (small a z w.high w.low)) p l w.left.bytes in
        rw (this-half, rw s at e, bytes-two a z w.high w.low, on, s)
        (sym (or_assoc (hits cells others) (is_some (row_of (two (two_at x 0)) others)) (repeats others)))

pub twice-end : (l : List ℕ) (half : ℕ) (cells : List ℕ) → length l < 4 → twice_from cells (half_of half (rows_in l)) ≡ false
unfolding hits half_of filter repeats
twice-end l half cells h = rw (short-rows l h)

-- ---- Both halves

-- a source's row is in the source's half
module _ (m : ℕ) (h : m < 65536) where
  kept-row : (x y f : ℕ) (rows all : List Row) → x < 256 → y < 256 → row_of (two m) rows ≡ row_of (two m) all →
      (t : Bool) → eqb ((x * 256 + y) / 32768) (m / 32768) ≡ t →
      row_of (two m) (cond t (record { source = x ∷ y ∷ []; file = f } ∷ rows) rows) ≡ row_of (two m) (record { source = x ∷ y ∷ []; file = f } ∷ all)
  unfolding row_of find
  kept-row x y f rows all a b ih true e = rw ih
  kept-row x y f rows all a b ih false e =
      let n = x * 256 + y in
      let d = eqb-false (n / 32768) (m / 32768) e in
      rw (atom-is x y m a b h, ne_eqb n m (λ r. d (ap (λ (k : ℕ). k / 32768) r))) ih

  row-half : (l : List ℕ) → ((i : ℕ) → get_or l i 0 < 256) → row_of (two m) (half_of (m / 32768) (rows_in l)) ≡ row_of (two m) (rows_in l)
  unfolding half_of filter rows_in
  row-half [] b = refl
  row-half (x ∷ []) b = refl
  row-half (x ∷ (y ∷ [])) b = refl
  row-half (x ∷ (y ∷ (z ∷ []))) b = refl
  row-half (x ∷ (y ∷ (z ∷ (v ∷ l)))) b =
      kept-row x y (z * 256 + v) (half_of (m / 32768) (rows_in l)) (rows_in l) (b 0) (b 1) (row-half l (λ i. b (suc (suc (suc (suc i)))))) _ refl

swap : (s a b : Bool) → (s || (a || b)) ≡ (a || (s || b))
swap true true b = refl
swap true false b = refl
swap false a b = refl

-- a source is named twice just where one of the lower half is, or one of the upper half
module _ (x y f : ℕ) (l : List ℕ) (b : (i : ℕ) → get_or l i 0 < 256) (p : x < 256) (q : y < 256) where
  row-of : (half : ℕ) → (x * 256 + y) / 32768 ≡ half → row_of (two (x * 256 + y)) (half_of half (rows_in l)) ≡ row_of (two (x * 256 + y)) (rows_in l)
  row-of half e = rw e at (row-half (x * 256 + y) (small x y p q) l b)

  again : Bool
  again = is_some (row_of (two (x * 256 + y)) (rows_in l))

  halves-row : repeats (rows_in l) ≡ (repeats (half_of 0 (rows_in l)) || repeats (half_of 1 (rows_in l))) →
      (t u : Bool) → eqb ((x * 256 + y) / 32768) 0 ≡ t → eqb ((x * 256 + y) / 32768) 1 ≡ u →
      repeats (record { source = x ∷ y ∷ []; file = f } ∷ rows_in l)
      ≡ (repeats (cond t (record { source = x ∷ y ∷ []; file = f } ∷ half_of 0 (rows_in l)) (half_of 0 (rows_in l)))
      || repeats (cond u (record { source = x ∷ y ∷ []; file = f } ∷ half_of 1 (rows_in l)) (half_of 1 (rows_in l))))
  unfolding repeats again
  halves-row ih true true d e = let g = eqb-true ((x * 256 + y) / 32768) 0 d in let h = eqb-true ((x * 256 + y) / 32768) 1 e in absurd (omega arith)
  halves-row ih true false d e =
      rw (bytes-two x y p q, row-of 0 (eqb-true _ 0 d), ih)
      (sym (or_assoc again (repeats (half_of 0 (rows_in l))) (repeats (half_of 1 (rows_in l)))))
  halves-row ih false true d e =
      rw (bytes-two x y p q, row-of 1 (eqb-true _ 1 e), ih) (swap again (repeats (half_of 0 (rows_in l))) (repeats (half_of 1 (rows_in l))))
  halves-row ih false false d e = let g = eqb-false ((x * 256 + y) / 32768) 0 d in let h = eqb-false ((x * 256 + y) / 32768) 1 e in absurd (omega arith)

pub names-by-halves : (l : List ℕ) → ((i : ℕ) → get_or l i 0 < 256) →
    repeats (rows_in l) ≡ (repeats (half_of 0 (rows_in l)) || repeats (half_of 1 (rows_in l)))
unfolding repeats half_of filter rows_in
names-by-halves [] b = refl
names-by-halves (x ∷ []) b = refl
names-by-halves (x ∷ (y ∷ [])) b = refl
names-by-halves (x ∷ (y ∷ (z ∷ []))) b = refl
names-by-halves (x ∷ (y ∷ (z ∷ (v ∷ l)))) b =
    let rest : (i : ℕ) → get_or l i 0 < 256 = λ i. b (suc (suc (suc (suc i)))) in
    halves-row x y (z * 256 + v) l rest (b 0) (b 1) (names-by-halves l rest) _ _ refl refl
