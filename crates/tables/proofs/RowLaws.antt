-- Rows and the cells that hold them: how many, which, one more, another value, and the search among them.
use Prim.Native.Nat.{ℕ, zero, suc, ◌+◌, ◌-◌, ◌*◌, ◌≤◌, ◌<◌}
use native.Mathlib.Numerals.{add-one}
use native.Mathlib.Omega.{arith}
use mathlib.Core.Path.{◌≡◌, refl, sym, ap, ◌∙◌}
use mathlib.Core.Bool.{Bool, true, false, cond}
use mathlib.Core.List.{List, [], ◌∷◌, ◌++◌, map, append-nil}
use Rattle.std.specs.Prelude.{Option, None, Some}
use lib.Dec.{ltb, eqb}
use lib.ListN.{length, length-map, get_or, set, length-set}
use lib.Seq.{get_or-set_same, get_or-set_other}
use borrow.Author.Tests.{le-leb, lt-leb, ltb-true, ltb-false, eq-eqb, ne_eqb}
use Rattle.tables.specs.declared.Table.{Table}
use Rattle.tables.specs.Rows.{Row, rows_from, RowPut, rows, next, between, flip, first_in, NoneBefore, lesser, least_of, without, without_row}

pub from-length : (k at : ℕ) (t : List ℕ) → length (rows_from k at t) ≡ k
unfolding rows_from
from-length zero at t = refl
from-length (suc k) at t = ap suc (from-length k (at + 2) t)

pub rows-length : (b : Table) (t : List ℕ) → length (rows b t) ≡ get_or t b.count 0
unfolding rows
rows-length b t = from-length (get_or t b.count 0) b.base t

-- arrays that agree on the cells of rows hold the same rows
pub from-agree : (k at : ℕ) (t t' : List ℕ) → ((i : ℕ) → at ≤ i → i < at + 2 * k → get_or t' i 0 ≡ get_or t i 0) → rows_from k at t' ≡ rows_from k at t
unfolding rows_from
from-agree zero at t t' h = refl
from-agree (suc k) at t t' h =
    let a = h at (omega arith) (omega arith) in
    let b = h (at + 1) (omega arith) (omega arith) in
    let r = from-agree k (at + 2) t t' (λ i p q. h i (omega arith) (omega arith)) in
    cc

pub from-more : (k at : ℕ) (t : List ℕ) → rows_from (suc k) at t ≡ rows_from k at t ++ ((get_or t (at + 2 * k) 0, get_or t (at + 2 * k + 1) 0) ∷ [])
unfolding rows_from
from-more zero at t = let e : at + 2 * 0 ≡ at = omega arith in rw e
from-more (suc k) at t =
    let r = from-more k (at + 2) t in
    let e : at + 2 + 2 * k ≡ at + 2 * suc k = omega arith in
    cc

pub from-next : (k at : ℕ) (t : List ℕ) → rows_from (k + 1) at t ≡ rows_from k at t ++ ((get_or t (at + 2 * k) 0, get_or t (at + 2 * k + 1) 0) ∷ [])
from-next k at t = ap (λ (n : ℕ). rows_from n at t) (add-one k) ∙ from-more k at t

-- the stores of a row's two cells
pub row-put : (base i x y : ℕ) (t : List ℕ) → base + 2 * i + 1 < length t → RowPut base i x y t (set (set t (base + 2 * i) x) (base + 2 * i + 1) y)
row-put base i x y t h =
    let one = set t (base + 2 * i) x in
    let t' = set one (base + 2 * i + 1) y in
    let s1 = length-set t (base + 2 * i) x in
    let s2 = length-set one (base + 2 * i + 1) y in
    let other : (j : ℕ) → (base + 2 * i ≤ j → j < base + 2 * (i + 1) → ⊥) → get_or t' j 0 ≡ get_or t j 0 =
    λ j f. get_or-set_other one (base + 2 * i + 1) j y 0 (λ z. f (omega arith) (omega arith)) ∙
    get_or-set_other t (base + 2 * i) j x 0 (λ z. f (omega arith) (omega arith)) in
    let old : rows_from i base t' ≡ rows_from i base t = from-agree i base t t' (λ j p q. other j (λ k l. omega arith)) in
    let a : get_or t' (base + 2 * i) 0 ≡ x =
    get_or-set_other one (base + 2 * i + 1) (base + 2 * i) y 0 (λ z. omega arith) ∙ get_or-set_same t (base + 2 * i) x 0 (omega arith) in
    let b : get_or t' (base + 2 * i + 1) 0 ≡ y = get_or-set_same one (base + 2 * i + 1) y 0 (omega arith) in
    record { put = from-next i base t' ∙ cc (old, a, b); same = other; size = s2 ∙ s1 }

pub from-row : (k at i : ℕ) (t : List ℕ) → i < k → get_or (rows_from k at t) i (0, 0) ≡ (get_or t (at + 2 * i) 0, get_or t (at + 2 * i + 1) 0)
unfolding rows_from
from-row zero at i t h = absurd (omega arith)
from-row (suc k) at zero t h = let e : at + 2 * 0 ≡ at = omega arith in rw e
from-row (suc k) at (suc i) t h =
    let r = from-row k (at + 2) i t (omega arith) in
    let e : at + 2 + 2 * i ≡ at + 2 * suc i = omega arith in
    cc

pub rows-row : (b : Table) (i : ℕ) (t : List ℕ) → i < length (rows b t) → get_or (rows b t) i (0, 0) ≡ (get_or t (b.base + 2 * i) 0, get_or t (b.base + 2 * i + 1) 0)
unfolding rows
rows-row b i t h = let l = from-length (get_or t b.count 0) b.base t in from-row (get_or t b.count 0) b.base i t (omega arith)

pub get_d_map : {A B : Type 0} (h : A → B) (l : List A) (i : ℕ) (d : A) → get_or (map h l) i (h d) ≡ h (get_or l i d)
get_d_map h [] i d = refl
get_d_map h (a ∷ l) zero d = refl
get_d_map h (a ∷ l) (suc i) d = get_d_map h l i d

-- ---- The search

abbrev pub shifted : ℕ → Option ℕ → Option ℕ
shifted i None = None
shifted i (Some n) = Some (i + n)

shifted-none : (o : Option ℕ) → shifted 0 o ≡ o
shifted-none None = refl
shifted-none (Some n) = ap Some (omega arith)

shifted-next : (i : ℕ) (o : Option ℕ) → shifted i (next o) ≡ shifted (i + 1) o
shifted-next i None = refl
shifted-next i (Some n) = ap Some (omega arith)

-- what is found from row i on
abbrev pub found_from : ℕ → ℕ → ℕ → ℕ → ℕ → List ℕ → Option ℕ
found_from lo hi n i base t = shifted i (first_in lo hi (rows_from (n - i) (base + 2 * i) t))

pub found-start : (lo hi : ℕ) (b : Table) (n : ℕ) (t : List ℕ) → n ≡ length (rows b t) → first_in lo hi (rows b t) ≡ found_from lo hi n 0 b.base t
unfolding rows
found-start lo hi b n t e =
    let l = from-length (get_or t b.count 0) b.base t in
    let c : get_or t b.count 0 ≡ n - 0 = omega arith in
    let z : b.base ≡ b.base + 2 * 0 = omega arith in
    sym (shifted-none (first_in lo hi (rows_from (get_or t b.count 0) b.base t)))
    ∙ ap (λ (x : ℕ). shifted 0 (first_in lo hi (rows_from x b.base t))) c ∙ ap (λ (x : ℕ). shifted 0 (first_in lo hi (rows_from (n - 0) x t))) z

pub rows-onward : (n i base : ℕ) (t : List ℕ) → i < n →
    rows_from (n - i) (base + 2 * i) t ≡ (get_or t (base + 2 * i) 0, get_or t (base + 2 * i + 1) 0) ∷ rows_from (n - (i + 1)) (base + 2 * (i + 1)) t
unfolding rows_from
rows-onward n i base t h =
    let e : n - i ≡ suc (n - (i + 1)) = omega arith in
    let z : base + 2 * i + 2 ≡ base + 2 * (i + 1) = omega arith in
    ap (λ (x : ℕ). rows_from x (base + 2 * i) t) e ∙ ap (λ (x : ℕ). (get_or t (base + 2 * i) 0, get_or t (base + 2 * i + 1) 0) ∷ rows_from (n - (i + 1)) x t) z

module _ (lo hi n i base : ℕ) (t : List ℕ) (h : i < n) where
  passed-by : between lo hi (get_or t (base + 2 * i) 0) ≡ false → found_from lo hi n i base t ≡ found_from lo hi n (i + 1) base t
  unfolding first_in
  passed-by e = rw (rows-onward n i base t h, e) (shifted-next i (first_in lo hi (rows_from (n - (i + 1)) (base + 2 * (i + 1)) t)))

  pub found-low : get_or t (base + 2 * i) 0 < lo → found_from lo hi n i base t ≡ found_from lo hi n (i + 1) base t
  found-low k = passed-by (rw (lt-leb lo (get_or t (base + 2 * i) 0) k))

  pub found-high : lo ≤ get_or t (base + 2 * i) 0 → hi < get_or t (base + 2 * i) 0 → found_from lo hi n i base t ≡ found_from lo hi n (i + 1) base t
  found-high j k = passed-by (rw (le-leb lo (get_or t (base + 2 * i) 0) j, lt-leb (get_or t (base + 2 * i) 0) hi k))

  pub found-here : lo ≤ get_or t (base + 2 * i) 0 → get_or t (base + 2 * i) 0 ≤ hi → found_from lo hi n i base t ≡ Some i
  unfolding first_in
  found-here j k = rw (rows-onward n i base t h, le-leb lo (get_or t (base + 2 * i) 0) j, le-leb (get_or t (base + 2 * i) 0) hi k) (ap Some (omega arith))

pub found-end : (lo hi n i base : ℕ) (t : List ℕ) → n ≤ i → found_from lo hi n i base t ≡ None
unfolding first_in rows_from
found-end lo hi n i base t h = let e : n - i ≡ 0 = omega arith in rw e

-- rows that have no such key are passed
found-past : (lo hi n from base : ℕ) (t : List ℕ) → ((i : ℕ) → i < from → i < n → between lo hi (get_or t (base + 2 * i) 0) ≡ false) →
    found_from lo hi n 0 base t ≡ found_from lo hi n from base t
found-past lo hi n zero base t h = refl
found-past lo hi n (suc j) base t h = found-past lo hi n j base t (λ i p q. h i (omega arith) q) ∙ by (ltb j n) refl
  where
    by : (b : Bool) → ltb j n ≡ b → found_from lo hi n j base t ≡ found_from lo hi n (suc j) base t
    by true e =
        passed-by lo hi n j base t (ltb-true j n e) (h j (omega arith) (ltb-true j n e)) ∙ ap (λ (x : ℕ). found_from lo hi n x base t) (add-one j)
    by false e =
        let l = ltb-false j n e in
        found-end lo hi n j base t l ∙ sym (found-end lo hi n (suc j) base t (omega arith))

pub found-begin : (lo hi from : ℕ) (b : Table) (n : ℕ) (t : List ℕ) → n ≡ length (rows b t) → NoneBefore from lo hi (rows b t) →
    found_from lo hi n 0 b.base t ≡ found_from lo hi n from b.base t
found-begin lo hi from b n t e h =
    found-past lo hi n from b.base t (λ i p q. ap (λ (r : Row). between lo hi r.0) (sym (rows-row b i t (omega arith))) ∙ h.passed i p (omega arith))

pub none-before-first : (lo hi : ℕ) (l : List Row) → NoneBefore 0 lo hi l
none-before-first lo hi l = record { passed = λ i p q. absurd (omega arith) }

-- one cell on, the values stand where the keys of a table stand
pub first-value : (lo hi k at : ℕ) (t : List ℕ) → first_in lo hi (rows_from k (at + 1) t) ≡ first_in lo hi (map flip (rows_from k at t))
unfolding first_in rows_from
first-value lo hi zero at t = refl
first-value lo hi (suc k) at t =
    let e : at + 1 + 2 ≡ at + 2 + 1 = omega arith in
    ap (λ (o : Option ℕ). cond (between lo hi (get_or t (at + 1) 0)) (Some zero) (next o)) (ap (λ (a : ℕ). first_in lo hi (rows_from k a t)) e ∙ first-value lo hi k (at + 2) t)

pub found-value : (lo hi : ℕ) (b c : Table) (t : List ℕ) → c.count ≡ b.count → c.base ≡ b.base + 1 → first_in lo hi (rows c t) ≡ first_in lo hi (map flip (rows b t))
unfolding rows
found-value lo hi b c t p q =
    ap (λ (n : ℕ). first_in lo hi (rows_from (get_or t n 0) c.base t)) p ∙ ap (λ (n : ℕ). first_in lo hi (rows_from (get_or t b.count 0) n t)) q
    ∙ first-value lo hi (get_or t b.count 0) b.base t

value-row : (b c : Table) (i : ℕ) (t : List ℕ) → c.count ≡ b.count → c.base ≡ b.base + 1 → i < length (rows c t) →
    (get_or (rows c t) i (0, 0)).0 ≡ (get_or (map flip (rows b t)) i (0, 0)).0
value-row b c i t p q h =
    let m : length (rows c t) ≡ length (rows b t) = rows-length c t ∙ ap (λ (n : ℕ). get_or t n 0) p ∙ sym (rows-length b t) in
    let e : c.base + 2 * i ≡ b.base + 2 * i + 1 = omega arith in
    ap (λ (r : Row). r.0) (rows-row c i t h) ∙ ap (λ (k : ℕ). get_or t k 0) e ∙ sym (ap (λ (r : Row). r.1) (rows-row b i t (omega arith)))
    ∙ sym (ap (λ (r : Row). r.0) (get_d_map flip (rows b t) i (0, 0)))

pub none-value : (lo hi from : ℕ) (b c : Table) (t : List ℕ) → c.count ≡ b.count → c.base ≡ b.base + 1 → NoneBefore from lo hi (map flip (rows b t)) →
    NoneBefore from lo hi (rows c t)
none-value lo hi from b c t p q h =
    record {
      passed = λ i j k.
          let m : length (rows c t) ≡ length (rows b t) = rows-length c t ∙ ap (λ (n : ℕ). get_or t n 0) p ∙ sym (rows-length b t) in
          let n = length-map (rows b t) flip in
          ap (between lo hi) (value-row b c i t p q k) ∙ h.passed i j (omega arith);
    }

-- ---- The least value

pub least-start : (key n base : ℕ) (t : List ℕ) → least_of key (rows_from (n - n) (base + 2 * n) t) ≡ None
unfolding least_of rows_from
least-start key n base t = let e : n - n ≡ 0 = omega arith in rw e

module _ (key n i base : ℕ) (t : List ℕ) (h : i < n) where
  pub least-here : get_or t (base + 2 * i) 0 ≡ key →
      least_of key (rows_from (n - i) (base + 2 * i) t) ≡ lesser (get_or t (base + 2 * i + 1) 0) (least_of key (rows_from (n - (i + 1)) (base + 2 * (i + 1)) t))
  unfolding least_of
  least-here e = rw (rows-onward n i base t h, eq-eqb (get_or t (base + 2 * i) 0) key e)

  pub least-other : (get_or t (base + 2 * i) 0 ≡ key → ⊥) →
      least_of key (rows_from (n - i) (base + 2 * i) t) ≡ least_of key (rows_from (n - (i + 1)) (base + 2 * (i + 1)) t)
  unfolding least_of
  least-other e = rw (rows-onward n i base t h, ne_eqb (get_or t (base + 2 * i) 0) key e)

-- from the row before one back to it
pub back : (key n i base : ℕ) (t : List ℕ) → 0 < i →
    least_of key (rows_from (n - i) (base + 2 * i) t) ≡ least_of key (rows_from (n - (i - 1 + 1)) (base + 2 * (i - 1 + 1)) t)
back key n i base t h = let e : i ≡ i - 1 + 1 = omega arith in ap (λ (x : ℕ). least_of key (rows_from (n - x) (base + 2 * x) t)) e

pub least-end : (key n i : ℕ) (b : Table) (t : List ℕ) → i ≤ 0 → n ≡ length (rows b t) → least_of key (rows_from (n - i) (b.base + 2 * i) t) ≡ least_of key (rows b t)
unfolding rows
least-end key n i b t h e =
    let l = from-length (get_or t b.count 0) b.base t in
    let c : n - i ≡ get_or t b.count 0 = omega arith in
    let z : b.base + 2 * i ≡ b.base = omega arith in
    ap (λ (x : ℕ). least_of key (rows_from x (b.base + 2 * i) t)) c ∙ ap (λ (x : ℕ). least_of key (rows_from (get_or t b.count 0) x t)) z

-- ---- Rows taken out

without-append : (k : ℕ) (l : List Row) (r : Row) → without k (l ++ (r ∷ [])) ≡ without k l ++ without k (r ∷ [])
unfolding without
without-append k [] r = refl
without-append k (q ∷ l) r = by (eqb q.0 k) (without-append k l r)
  where
    by : (b : Bool) → without k (l ++ (r ∷ [])) ≡ without k l ++ without k (r ∷ []) →
        cond b (without k (l ++ (r ∷ []))) (q ∷ without k (l ++ (r ∷ []))) ≡ cond b (without k l) (q ∷ without k l) ++ without k (r ∷ [])
    by true e = e
    by false e = ap (λ (x : List Row). q ∷ x) e

-- i rows are read and kept of them are written back, in place
pub record Dropping (key base n : ℕ) (t₀ : List ℕ) (i kept : ℕ) (t : List ℕ) : Type 0 where
  pub kept_rows : rows_from kept base t ≡ without key (rows_from i base t₀)
  pub less : kept ≤ i
  pub upto : i ≤ n
  pub same : (j : ℕ) → (base ≤ j → j < base + 2 * i → ⊥) → get_or t j 0 ≡ get_or t₀ j 0
  pub size : length t ≡ length t₀

pub drop-starts : (key base n : ℕ) (t : List ℕ) → Dropping key base n t 0 0 t
unfolding rows_from without
drop-starts key base n t = record { kept_rows = refl; less = omega arith; upto = omega arith; same = λ j h. refl; size = refl }

module _ (key base n : ℕ) (t₀ : List ℕ) (i kept : ℕ) (t : List ℕ) (d : Dropping key base n t₀ i kept t) (h : i < n) where
  first : get_or t (base + 2 * i) 0 ≡ get_or t₀ (base + 2 * i) 0
  first = d.same (base + 2 * i) (λ p q. omega arith)

  second : get_or t (base + 2 * i + 1) 0 ≡ get_or t₀ (base + 2 * i + 1) 0
  second = d.same (base + 2 * i + 1) (λ p q. omega arith)

  pub drop-skips : get_or t (base + 2 * i) 0 ≡ key → Dropping key base n t₀ (i + 1) kept t
  unfolding without
  drop-skips e =
      let k : get_or t₀ (base + 2 * i) 0 ≡ key = sym first ∙ e in
      let less = d.less in
      record {
        kept_rows = d.kept_rows
            ∙
            sym (ap (without key) (from-next i base t₀) ∙ without-append key (rows_from i base t₀) _
            ∙ rw (eq-eqb (get_or t₀ (base + 2 * i) 0) key k) (append-nil (without key (rows_from i base t₀))));
        less = omega arith;
        upto = omega arith;
        same = λ j f. d.same j (λ p q. f p (omega arith));
        size = d.size;
      }

  pub drop-keeps : (x y : ℕ) (t' : List ℕ) → x ≡ get_or t (base + 2 * i) 0 → y ≡ get_or t (base + 2 * i + 1) 0 → (x ≡ key → ⊥) →
      RowPut base kept x y t t' → Dropping key base n t₀ (i + 1) (kept + 1) t'
  unfolding without
  drop-keeps x y t' p q e w =
      let less = d.less in
      let a : x ≡ get_or t₀ (base + 2 * i) 0 = p ∙ first in
      let b : y ≡ get_or t₀ (base + 2 * i + 1) 0 = q ∙ second in
      let ne : eqb (get_or t₀ (base + 2 * i) 0) key ≡ false = ne_eqb (get_or t₀ (base + 2 * i) 0) key (λ z. e (a ∙ z)) in
      let kept-row : rows_from kept base t ++ ((x, y) ∷ []) ≡ without key (rows_from i base t₀) ++ ((get_or t₀ (base + 2 * i) 0, get_or t₀ (base + 2 * i + 1) 0) ∷ []) =
      cc (d.kept_rows, a, b) in
      record {
        kept_rows = w.put ∙ kept-row
            ∙ sym (ap (without key) (from-next i base t₀) ∙ without-append key (rows_from i base t₀) _ ∙ rw ne);
        less = omega arith;
        upto = omega arith;
        same = λ j f. w.same j (λ k l. f (omega arith) (omega arith)) ∙ d.same j (λ k l. f k (omega arith));
        size = w.size ∙ d.size;
      }

-- ---- One row taken out

out-last : (l : List Row) (r : Row) → without_row (length l) (l ++ (r ∷ [])) ≡ l
unfolding without_row
out-last [] r = refl
out-last (q ∷ l) r = ap (λ (m : List Row). q ∷ m) (out-last l r)

out-append : (i : ℕ) (l : List Row) (r : Row) → i < length l → without_row i (l ++ (r ∷ [])) ≡ without_row i l ++ (r ∷ [])
unfolding without_row
out-append i [] r h = absurd (omega arith)
out-append zero (q ∷ l) r h = refl
out-append (suc i) (q ∷ l) r h = ap (λ (m : List Row). q ∷ m) (out-append i l r (omega arith))

-- the rows behind row i, up to row k, stand one row before
pub record Closing (i base n : ℕ) (t₀ : List ℕ) (k : ℕ) (t : List ℕ) : Type 0 where
  pub closed : rows_from k base t ≡ without_row i (rows_from (k + 1) base t₀)
  pub from : i ≤ k
  pub upto : k + 1 ≤ n
  pub same : (j : ℕ) → (base ≤ j → j < base + 2 * k → ⊥) → get_or t j 0 ≡ get_or t₀ j 0
  pub size : length t ≡ length t₀

pub closing-starts : (i base n : ℕ) (t : List ℕ) → i < n → Closing i base n t i t
closing-starts i base n t h =
    record {
      closed =
          let e = from-length i base t in
          let l = rows_from i base t in
          let r : Row = (get_or t (base + 2 * i) 0, get_or t (base + 2 * i + 1) 0) in
          sym (ap (without_row i) (from-next i base t) ∙ ap (λ (j : ℕ). without_row j (l ++ (r ∷ []))) (sym e) ∙ out-last l r);
      from = omega arith;
      upto = omega arith;
      same = λ j f. refl;
      size = refl;
    }

pub closes-one : (i base n : ℕ) (t₀ : List ℕ) (k : ℕ) (t : List ℕ) → Closing i base n t₀ k t → k + 1 < n → (x y : ℕ) (t' : List ℕ) →
    x ≡ get_or t (base + 2 * (k + 1)) 0 → y ≡ get_or t (base + 2 * (k + 1) + 1) 0 → RowPut base k x y t t' → Closing i base n t₀ (k + 1) t'
closes-one i base n t₀ k t d h x y t' p q w =
    let from = d.from in
    let a : x ≡ get_or t₀ (base + 2 * (k + 1)) 0 = p ∙ d.same (base + 2 * (k + 1)) (λ j l. omega arith) in
    let b : y ≡ get_or t₀ (base + 2 * (k + 1) + 1) 0 = q ∙ d.same (base + 2 * (k + 1) + 1) (λ j l. omega arith) in
    let l = rows_from (k + 1) base t₀ in
    let r : Row = (get_or t₀ (base + 2 * (k + 1)) 0, get_or t₀ (base + 2 * (k + 1) + 1) 0) in
    let len = from-length (k + 1) base t₀ in
    let last : rows_from k base t ++ ((x, y) ∷ []) ≡ without_row i l ++ (r ∷ []) = cc (d.closed, a, b) in
    record {
      closed = w.put ∙ last ∙ sym (ap (without_row i) (from-next (k + 1) base t₀) ∙ out-append i l r (omega arith));
      from = omega arith;
      upto = omega arith;
      same = λ j f. w.same j (λ m o. f (omega arith) (omega arith)) ∙ d.same j (λ m o. f m (omega arith));
      size = w.size ∙ d.size;
    }
