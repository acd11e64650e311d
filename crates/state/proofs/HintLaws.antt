-- Hints: rows that change stay covered, distinct and named; a hint of 0 says that a search finds nothing; a row with the key that is searched for is
-- the one that the search gives.
use Rattle.std.specs.Prelude.{Option, None, Some}
use Prim.Native.Nat.{ℕ, zero, suc, ◌+◌, ◌-◌, ◌*◌, ◌/◌, ◌%◌, ◌≤◌, ◌<◌}
use native.Mathlib.Omega.{arith}
use mathlib.Core.Path.{◌≡◌, refl, sym, ap, ap₂, subst, ◌∙◌}
use mathlib.Core.Bool.{Bool, true, false, cond, ◌&&◌, ◌||◌}
use mathlib.Core.List.{List, [], ◌∷◌, ◌++◌, map}
use lib.Dec.{leb, eqb}
use lib.ListN.{length, length-map, get_or, set}
use lib.Seq.{get_or-set_same, get_or-set_other}
use borrow.Author.Tests.{leb-true, lt-leb, eqb-true, eqb-false, eq-eqb, ne_eqb}
use Rattle.tree.proofs.Table.{both-true}
use Rattle.scope.proofs.Laws.{none-some}
use Rattle.tables.specs.Rows.{Row, rows_from, next, between, flip, first_in, NoneBefore, least_of, lesser, without, without_row, with_value}
use Rattle.tables.proofs.RowLaws.{get_d_map}
use Rattle.std.specs.Prelude.{is_some}
use Rattle.state.specs.Cells.{Kind, imports, uses, records, namespaces, lazies, forces, modules, externals, table, hint_at, import_hint, namespace_hint, use_hint}
use Rattle.state.specs.Cells.{cell_at, tag_of, tagged, hint_in, named_in, source_in, name_cell, row_hint, module_hint, Covered, Distinct, Named, Reached, Hinted}
use Rattle.state.specs.Does.{Keeps, Grows, Finds, tag_for}
use Rattle.state.proofs.IdLaws.{between-one}
use Rattle.state.proofs.ListLaws.{row_of, first-below}

-- ---- The search for a key that is first, and for one that is not

-- behind a row with another key
first-other : (k : ℕ) (r : Row) (l : List Row) → (r.0 ≡ k → ⊥) → first_in k k (r ∷ l) ≡ next (first_in k k l)
unfolding first_in
first-other k r l h = ap (λ (b : Bool). cond b (Some zero) (next (first_in k k l))) (between-one k r.0 ∙ ne_eqb r.0 k h)

first-here : (k : ℕ) (r : Row) (l : List Row) → r.0 ≡ k → first_in k k (r ∷ l) ≡ Some zero
unfolding first_in
first-here k r l e = ap (λ (b : Bool). cond b (Some zero) (next (first_in k k l))) (between-one k r.0 ∙ eq-eqb r.0 k e)

next-none : (o : Option ℕ) → next o ≡ None → o ≡ None
next-none None e = refl
next-none (Some n) e = none-some (sym e)

-- where nothing is found, neither is it in the first row nor behind it
none-first : (k : ℕ) (r : Row) (l : List Row) → first_in k k (r ∷ l) ≡ None → r.0 ≡ k → ⊥
none-first k r l e h = none-some (sym e ∙ first-here k r l h)

none-rest : (k : ℕ) (r : Row) (l : List Row) → first_in k k (r ∷ l) ≡ None → first_in k k l ≡ None
none-rest k r l e = next-none (first_in k k l) (sym (first-other k r l (none-first k r l e)) ∙ e)

none-more : (k : ℕ) (r : Row) (l : List Row) → (r.0 ≡ k → ⊥) → first_in k k l ≡ None → first_in k k (r ∷ l) ≡ None
none-more k r l h e = first-other k r l h ∙ ap next e

none-append : (k : ℕ) (l : List Row) (r : Row) → first_in k k l ≡ None → (r.0 ≡ k → ⊥) → first_in k k (l ++ (r ∷ [])) ≡ None
unfolding first_in
none-append k [] r e h = none-more k r [] h refl
none-append k (q ∷ l) r e h = none-more k q (l ++ (r ∷ [])) (none-first k q l e) (none-append k l r (none-rest k q l e) h)

none-value : (k i x : ℕ) (l : List Row) → first_in k k l ≡ None → first_in k k (with_value i x l) ≡ None
unfolding with_value
none-value k i x [] e = e
none-value k zero x (r ∷ l) e = none-more k (r.0, x) l (none-first k r l e) (none-rest k r l e)
none-value k (suc i) x (r ∷ l) e = none-more k r (with_value i x l) (none-first k r l e) (none-value k i x l (none-rest k r l e))

none-without : (k a : ℕ) (l : List Row) → first_in k k l ≡ None → first_in k k (without a l) ≡ None
unfolding without
none-without k a [] e = e
none-without k a (r ∷ l) e = by (eqb r.0 a) (none-without k a l (none-rest k r l e))
  where
    by : (b : Bool) → first_in k k (without a l) ≡ None → first_in k k (cond b (without a l) (r ∷ without a l)) ≡ None
    by true f = f
    by false f = none-more k r (without a l) (none-first k r l e) f

-- a key that is not there has no least value, and its rows need not be taken out
pub none-least : (k : ℕ) (l : List Row) → first_in k k l ≡ None → least_of k l ≡ None
unfolding least_of
none-least k [] e = refl
none-least k (r ∷ l) e =
    ap (λ (b : Bool). cond b (lesser r.1 (least_of k l)) (least_of k l)) (ne_eqb r.0 k (none-first k r l e)) ∙ none-least k l (none-rest k r l e)

pub none-out : (k : ℕ) (l : List Row) → first_in k k l ≡ None → without k l ≡ l
unfolding without
none-out k [] e = refl
none-out k (r ∷ l) e =
    ap (λ (b : Bool). cond b (without k l) (r ∷ without k l)) (ne_eqb r.0 k (none-first k r l e)) ∙ ap (λ (m : List Row). r ∷ m) (none-out k l (none-rest k r l e))

-- ---- A row that a hint names

not-next : {A : Type 0} (o : Option ℕ) → next o ≡ Some zero → A
not-next None e = none-some e
not-next (Some n) e = absurd (let z : suc n ≡ zero = cc in omega arith)

next-some : (o : Option ℕ) (i : ℕ) → next o ≡ Some (suc i) → o ≡ Some i
next-some None i e = none-some e
next-some (Some n) i e = ap Some (let z : suc n ≡ suc i = cc in omega arith)

some-next : (o : Option ℕ) → is_some (next o) ≡ is_some o
some-next None = refl
some-next (Some n) = refl

pub some-at : (k : ℕ) (l : List Row) (i : ℕ) → i < length l → (row_of l i).0 ≡ k → is_some (first_in k k l) ≡ true
some-at k [] i h e = absurd (omega arith)
some-at k (r ∷ l) zero h e = ap (λ (o : Option ℕ). is_some o) (first-here k r l e)
some-at k (r ∷ l) (suc i) h e = by (eqb r.0 k) refl (some-at k l i (omega arith) e)
  where
    by : (b : Bool) → eqb r.0 k ≡ b → is_some (first_in k k l) ≡ true → is_some (first_in k k (r ∷ l)) ≡ true
    by true p f = ap (λ (o : Option ℕ). is_some o) (first-here k r l (eqb-true r.0 k p))
    by false p f = ap (λ (o : Option ℕ). is_some o) (first-other k r l (eqb-false r.0 k p)) ∙ some-next (first_in k k l) ∙ f

-- keys stand once: a row with the key is the first
pub distinct-at : (k : ℕ) (l : List Row) (i : ℕ) → Distinct l → i < length l → (row_of l i).0 ≡ k → first_in k k l ≡ Some i
unfolding Distinct
distinct-at k [] i d h e = absurd (omega arith)
distinct-at k (r ∷ l) zero d h e = first-here k r l e
distinct-at k (r ∷ l) (suc i) d h e =
    first-other k r l (λ z. none-some (sym d.0 ∙ distinct-at r.0 l i d.1 (omega arith) (e ∙ sym z)))
    ∙ ap next (distinct-at k l i d.1 (omega arith) e)

next-zero : (o : Option ℕ) → next o ≡ Some zero → ⊥
next-zero None e = none-some e
next-zero (Some n) e = let z : suc n ≡ zero = cc in omega arith

-- the first row of a key has it
first-key : (k : ℕ) (l : List Row) (i : ℕ) → first_in k k l ≡ Some i → (row_of l i).0 ≡ k
unfolding first_in
first-key k [] i e = none-some e
first-key k (r ∷ l) zero e = by (eqb r.0 k) refl
  where
    by : (b : Bool) → eqb r.0 k ≡ b → r.0 ≡ k
    by true p = eqb-true r.0 k p
    by false p = absurd (next-zero (first_in k k l) (sym (first-other k r l (eqb-false r.0 k p)) ∙ e))
first-key k (r ∷ l) (suc i) e = by (eqb r.0 k) refl (first-key k l i)
  where
    by : (b : Bool) → eqb r.0 k ≡ b → (first_in k k l ≡ Some i → (row_of l i).0 ≡ k) → (row_of l i).0 ≡ k
    by true p h = absurd (let z : ◌≡◌ {A = Option ℕ} (Some zero) (Some (suc i)) = sym (first-here k r l (eqb-true r.0 k p)) ∙ e in cc)
    by false p h = h (next-some (first_in k k l) i (sym (first-other k r l (eqb-false r.0 k p)) ∙ e))

-- a row that is found and is the first
pub found-first : {k : ℕ} {l : List Row} {o : Option ℕ} → o ≡ first_in k k l → Finds k l o
found-first {k} {l} e = record { found = λ i f. (first-below k k l i (sym e ∙ f), first-key k l i (sym e ∙ f)); missed = λ f. sym e ∙ f }

-- where keys stand once, the row that is found is the first
pub finds-row : {k : ℕ} {l : List Row} {o : Option ℕ} → Distinct l → Finds k l o → o ≡ first_in k k l
finds-row {o = None} d f = sym (f.missed refl)
finds-row {k} {l} {o = Some i} d f = let w = f.found i refl in sym (distinct-at k l i d w.0 w.1)

pub finds-some : {k : ℕ} {l : List Row} {o : Option ℕ} → Finds k l o → is_some o ≡ is_some (first_in k k l)
finds-some {o = None} f = ap (λ (o : Option ℕ). is_some o) (sym (f.missed refl))
finds-some {k} {l} {o = Some i} f = let w = f.found i refl in sym (some-at k l i w.0 w.1)

pub distinct-append : (l : List Row) (r : Row) → Distinct l → first_in r.0 r.0 l ≡ None → Distinct (l ++ (r ∷ []))
unfolding Distinct first_in
distinct-append [] r d e = (refl, tt)
distinct-append (q ∷ l) r d e =
    (none-append q.0 l r d.0 (λ z. none-first r.0 q l e (sym z)), distinct-append l r d.1 (none-rest r.0 q l e))

pub distinct-value : (l : List Row) (i x : ℕ) → Distinct l → Distinct (with_value i x l)
unfolding Distinct with_value
distinct-value [] i x d = tt
distinct-value (r ∷ l) zero x d = d
distinct-value (r ∷ l) (suc i) x d = (none-value r.0 i x l d.0, distinct-value l i x d.1)

pub distinct-without : (k : ℕ) (l : List Row) → Distinct l → Distinct (without k l)
unfolding Distinct without
distinct-without k [] d = tt
distinct-without k (r ∷ l) d = by (eqb r.0 k) (distinct-without k l d.1)
  where
    by : (b : Bool) → Distinct (without k l) → Distinct (cond b (without k l) (r ∷ without k l))
    by true f = f
    by false f = (none-without r.0 k l d.0, f)

-- keys stand once: taking out the row that the search gives takes out all of the key
pub row-out : (k : ℕ) (l : List Row) (i : ℕ) → Distinct l → first_in k k l ≡ Some i → without_row i l ≡ without k l
unfolding Distinct without without_row
row-out k [] i d e = refl
row-out k (r ∷ l) zero d e = by (eqb r.0 k) refl
  where
    by : (b : Bool) → eqb r.0 k ≡ b → l ≡ cond b (without k l) (r ∷ without k l)
    by true p = sym (none-out k l (subst (λ (x : ℕ). first_in x x l ≡ None) (eqb-true r.0 k p) d.0))
    by false p = not-next (first_in k k l) (sym (first-other k r l (eqb-false r.0 k p)) ∙ e)
row-out k (r ∷ l) (suc i) d e = by (eqb r.0 k) refl (row-out k l i d.1)
  where
    by : (b : Bool) → eqb r.0 k ≡ b → (first_in k k l ≡ Some i → without_row i l ≡ without k l) → r ∷ without_row i l ≡ cond b (without k l) (r ∷ without k l)
    by true p h = absurd (let z : zero ≡ suc i = cc (sym (first-here k r l (eqb-true r.0 k p)) ∙ e) in omega arith)
    by false p h = ap (λ (m : List Row). r ∷ m) (h (next-some (first_in k k l) i (sym (first-other k r l (eqb-false r.0 k p)) ∙ e)))

-- ---- Keys with hints

module _ (p : ℕ → ℕ) (t : List ℕ) where
  pub covered-append : (l : List Row) (r : Row) → Covered p t l → 0 < p (hint_at t r.0) → Covered p t (l ++ (r ∷ []))
  unfolding Covered
  covered-append [] r c h = (h, tt)
  covered-append (q ∷ l) r c h = (c.0, covered-append l r c.1 h)

  pub covered-value : (l : List Row) (i x : ℕ) → Covered p t l → Covered p t (with_value i x l)
  unfolding Covered with_value
  covered-value [] i x c = tt
  covered-value (r ∷ l) zero x c = c
  covered-value (r ∷ l) (suc i) x c = (c.0, covered-value l i x c.1)

  pub covered-without : (k : ℕ) (l : List Row) → Covered p t l → Covered p t (without k l)
  unfolding Covered without
  covered-without k [] c = tt
  covered-without k (r ∷ l) c = by (eqb r.0 k) (covered-without k l c.1)
    where
      by : (b : Bool) → Covered p t (without k l) → Covered p t (cond b (without k l) (r ∷ without k l))
      by true f = f
      by false f = (c.0, f)

  -- a hint of 0: the key is not there
  pub covered-none : (k : ℕ) (l : List Row) → Covered p t l → p (hint_at t k) ≡ 0 → first_in k k l ≡ None
  unfolding Covered first_in
  covered-none k [] c e = refl
  covered-none k (r ∷ l) c e =
      none-more k r l (λ z. let h = c.0 in let f : p (hint_at t r.0) ≡ 0 = ap (λ (n : ℕ). p (hint_at t n)) z ∙ e in omega arith) (covered-none k l c.1 e)

-- ---- Records with hints

pub named-append : (i : ℕ) (t : List ℕ) (l : List Row) (r : Row) → Named i t l → r.1 ≡ 0 → 256 ≤ i + length l + source_in (cell_at t (name_cell r.0)) →
    Named i t (l ++ (r ∷ []))
unfolding Named
named-append i t [] r n e h = (λ m f. absurd (omega arith), omega arith, tt)
named-append i t (q ∷ l) r n e h = (n.0, n.1, named-append (suc i) t l r n.2 e (omega arith))

pub named-value : (j i : ℕ) (t : List ℕ) (l : List Row) (k : ℕ) → Named j t l → 256 ≤ j + i + named_in (cell_at t (name_cell k)) → Named j t (with_value i (k + 1) l)
unfolding Named with_value
named-value j i t [] k n h = tt
named-value j zero t (r ∷ l) k n h =
    (λ m e. let z : k ≡ m = omega arith in let f = ap (λ (x : ℕ). named_in (cell_at t (name_cell x))) z in omega arith, n.1, n.2)
named-value j (suc i) t (r ∷ l) k n h = (n.0, n.1, named-value (suc j) i t l k n.2 (omega arith))

pub named-at : (j : ℕ) (t : List ℕ) (l : List Row) (i n : ℕ) → Named j t l → i < length l → (row_of l i).1 ≡ suc n → 256 ≤ j + i + named_in (cell_at t (name_cell n))
unfolding Named
named-at j t [] i n d h e = absurd (omega arith)
named-at j t (r ∷ l) zero n d h e = let a = d.0 n e in omega arith
named-at j t (r ∷ l) (suc i) n d h e = let a = named-at (suc j) t l i n d.2 (omega arith) e in omega arith

pub source-at : (j : ℕ) (t : List ℕ) (l : List Row) (i : ℕ) → Named j t l → i < length l → 256 ≤ j + i + source_in (cell_at t (name_cell (row_of l i).0))
unfolding Named
source-at j t [] i d h = absurd (omega arith)
source-at j t (r ∷ l) zero d h = let a = d.1 in omega arith
source-at j t (r ∷ l) (suc i) d h = let a = source-at (suc j) t l i d.2 (omega arith) in omega arith

-- ---- Keys with hints of places

module _ (n : ℕ) (p : ℕ → ℕ) where
  pub reached-append : (i : ℕ) (l : List Row) (r : Row) → Reached n p i l → n ≤ i + length l + p r.0 → Reached n p i (l ++ (r ∷ []))
  unfolding Reached
  reached-append i [] r c h = (omega arith, tt)
  reached-append i (q ∷ l) r c h = (c.0, reached-append (suc i) l r c.1 (omega arith))

  pub reached-value : (j i v : ℕ) (l : List Row) → Reached n p j l → Reached n p j (with_value i v l)
  unfolding Reached with_value
  reached-value j i v [] c = tt
  reached-value j zero v (r ∷ l) c = c
  reached-value j (suc i) v (r ∷ l) c = (c.0, reached-value (suc j) i v l c.1)

  reached-at : (j : ℕ) (l : List Row) (i : ℕ) → Reached n p j l → i < length l → n ≤ j + i + p (row_of l i).0
  unfolding Reached
  reached-at j [] i d h = absurd (omega arith)
  reached-at j (r ∷ l) zero d h = let a = d.0 in omega arith
  reached-at j (r ∷ l) (suc i) d h = let a = reached-at (suc j) l i d.1 (omega arith) in omega arith

  -- the first row of a key stands at its hint or behind
  pub reached-none : {from : ℕ} (a : ℕ) (l : List Row) → Reached n p 0 l → from ≤ n - p a → NoneBefore from a a l
  reached-none {from} a l c h = record { passed = λ i b d. between-one a (row_of l i).0 ∙ ne_eqb (row_of l i).0 a (λ e. other i b d e) }
    where
      other : (i : ℕ) → i < from → i < length l → (row_of l i).0 ≡ a → ⊥
      other i b d e = let m = reached-at 0 l i c d in let f = ap p e in omega arith

  pub reached-from : (k i at : ℕ) (t : List ℕ) → ((j : ℕ) → j < k → n ≤ i + j + p (get_or t (at + 2 * j) 0)) → Reached n p i (rows_from k at t)
  unfolding Reached rows_from
  reached-from zero i at t h = tt
  reached-from (suc k) i at t h =
      let z : at + 2 * 0 ≡ at = omega arith in
      let f : n ≤ i + 0 + p (get_or t at 0) = subst (λ (x : ℕ). n ≤ i + 0 + p (get_or t x 0)) z (h 0 (omega arith)) in (
        omega arith,
        reached-from k (suc i) (at + 2) t (λ j b.
            let e : at + 2 * suc j ≡ at + 2 + 2 * j = omega arith in
            let g : n ≤ i + suc j + p (get_or t (at + 2 + 2 * j) 0) = subst (λ (x : ℕ). n ≤ i + suc j + p (get_or t x 0)) e (h (suc j) (omega arith)) in
            omega arith),
      )

-- no first namespace before a place is from lo to hi, where those are of one name
pub none-from : (lo hi id from : ℕ) (l : List Row) →
    ((i n : ℕ) → i < from → i < length l → (row_of l i).1 ≡ suc n → n / 4294967296 ≡ id / 4294967296 → ⊥) →
    0 < lo → ((n : ℕ) → lo ≤ suc n → suc n ≤ hi → n / 4294967296 ≡ id / 4294967296) → NoneBefore from lo hi (map flip l)
none-from lo hi id from l none z name =
    record {
      passed = λ i p q. let m = length-map l flip in ap (λ (r : Row). between lo hi r.0) (get_d_map flip l i (0, 0)) ∙ by i p (omega arith) (row_of l i).1 refl;
    }
  where
    by : (i : ℕ) → i < from → i < length l → (v : ℕ) → (row_of l i).1 ≡ v → between lo hi v ≡ false
    by i p q zero e = ap (λ (b : Bool). b && leb 0 hi) (lt-leb lo 0 z)
    by i p q (suc n) e = test (between lo hi (suc n)) refl
      where
        test : (b : Bool) → between lo hi (suc n) ≡ b → b ≡ false
        test true f = let h = both-true _ _ f in absurd (none i n p q e (name n (leb-true lo (suc n) h.0) (leb-true (suc n) hi h.1)))
        test false f = refl

-- ---- Arrays with other hints

covered-agree : (p : ℕ → ℕ) (t t' : List ℕ) → ((n : ℕ) → 0 < p (hint_at t n) → 0 < p (hint_at t' n)) → (l : List Row) → Covered p t l → Covered p t' l
unfolding Covered
covered-agree p t t' h [] c = tt
covered-agree p t t' h (r ∷ l) c = (h r.0 c.0, covered-agree p t t' h l c.1)

named-agree : (t t' : List ℕ) → ((h : ℕ) → h < 2003 → Grows (cell_at t h) (cell_at t' h)) → (i : ℕ) (l : List Row) → Named i t l → Named i t' l
unfolding Named
named-agree t t' h i [] n = tt
named-agree t t' h i (r ∷ l) n = (
  λ m e. let a = n.0 m e in let b = (h (name_cell m) (omega arith)).named_kept in omega arith,
  let a = n.1 in let b = (h (name_cell r.0) (omega arith)).source_kept in omega arith,
  named-agree t t' h (suc i) l n.2,
)

reached-agree : (n : ℕ) (p q : ℕ → ℕ) → ((k : ℕ) → p k ≤ q k) → (i : ℕ) (l : List Row) → Reached n p i l → Reached n q i l
unfolding Reached
reached-agree n p q h i [] c = tt
reached-agree n p q h i (r ∷ l) c = (let a = c.0 in let b = h r.0 in omega arith, reached-agree n p q h (suc i) l c.1)

-- cells that leave out nothing
pub record Agrees (t t' : List ℕ) : Type 0 where
  pub grown : (h : ℕ) → h < 2003 → Grows (cell_at t h) (cell_at t' h)
  pub reaching : (h : ℕ) → h < 1280 → row_hint t h ≤ row_hint t' h

pub hinted-agree : (t t' : List ℕ) → Agrees t t' → (k : Kind) (l : List Row) → Hinted k t l → Hinted k t' l
hinted-agree t t' a imports l h = (covered-agree import_hint t t' (λ n. ((a.grown (n % 2003) (omega arith)).hints_kept n).import_kept) l h.0, h.1)
hinted-agree t t' a uses l h = covered-agree use_hint t t' (λ n. ((a.grown (n % 2003) (omega arith)).hints_kept n).use_kept) l h
hinted-agree t t' a records l h = named-agree t t' a.grown 0 l h
hinted-agree t t' a namespaces l h = covered-agree namespace_hint t t' (λ n. ((a.grown (n % 2003) (omega arith)).hints_kept n).namespace_kept) l h
hinted-agree t t' a lazies l h = tt
hinted-agree t t' a forces l h = tt
hinted-agree t t' a modules l h =
    reached-agree 256 (λ f. module_hint t (f % 256)) (λ f. module_hint t' (f % 256)) (λ k. a.reaching (1024 + k % 256) (omega arith)) 0 l h
hinted-agree t t' a externals l h = tt
hinted-agree t t' a table l h =
    reached-agree 1024 (λ k. row_hint t (k % 1024)) (λ k. row_hint t' (k % 1024)) (λ k. a.reaching (k % 1024) (omega arith)) 0 l h

keeps-same : {v w : ℕ} → w ≡ v → Keeps v w
keeps-same e =
    record {
      import_kept = subst (λ (x : ℕ). 0 < import_hint x) (sym e);
      namespace_kept = subst (λ (x : ℕ). 0 < namespace_hint x) (sym e);
      use_kept = subst (λ (x : ℕ). 0 < use_hint x) (sym e);
    }

-- a hint of 0 names nothing
keeps-none : (w : ℕ) → Keeps 0 w
keeps-none w = record { import_kept = λ h. absurd (omega arith); namespace_kept = λ h. absurd (omega arith); use_kept = λ h. absurd (omega arith) }

-- a cell with the same hint and tag
pub grows-same : {v w : ℕ} → w / 2199023255552 ≡ v / 2199023255552 → w % 8388608 ≡ v % 8388608 → named_in v ≤ named_in w → source_in v ≤ source_in w → Grows v w
unfolding hint_in
grows-same e f p q =
    record {
      hints_kept = λ n. keeps-same (ap₂ (λ (x y : ℕ). cond (eqb x 0 || eqb x (tag_of n)) y 0) e f);
      named_kept = p;
      source_kept = q;
    }

pub grows-stays : {v w : ℕ} → w ≡ v → Grows v w
grows-stays {v} {w} e =
    grows-same (ap (λ (x : ℕ). x / 2199023255552) e) (ap (λ (x : ℕ). x % 8388608) e) (let f = ap named_in e in omega arith) (let f = ap source_in e in omega arith)

-- a cell that is no hint is stored
pub agrees-set : (t : List ℕ) (i v : ℕ) → ((h : ℕ) → h < 2003 → 15994 + h ≡ i → ⊥) → ((h : ℕ) → h < 1280 → 21074 + h ≡ i → ⊥) → Agrees t (set t i v)
agrees-set t i v p q =
    record {
      grown = λ h b. grows-stays (get_or-set_other t i (15994 + h) v 0 (p h b));
      reaching = λ h b. let e = get_or-set_other t i (21074 + h) v 0 (q h b) in omega arith;
    }

-- a hint is stored
pub grows-set : (t : List ℕ) (h w : ℕ) → 15994 + h < length t → Grows (cell_at t h) w → (i : ℕ) → Grows (cell_at t i) (cell_at (set t (15994 + h) w) i)
grows-set t h w b g i = by (eqb i h) refl
  where
    by : (x : Bool) → eqb i h ≡ x → Grows (cell_at t i) (cell_at (set t (15994 + h) w) i)
    by true e =
        subst (λ (c : ℕ). Grows (cell_at t c) (cell_at (set t (15994 + h) w) c)) (sym (eqb-true i h e))
        (subst (Grows (cell_at t h)) (sym (get_or-set_same t (15994 + h) w 0 b)) g)
    by false e = let z = eqb-false i h e in grows-stays (get_or-set_other t (15994 + h) (15994 + i) w 0 (λ y. z (omega arith)))

-- ---- An id enters a cell

abbrev entered : ℕ → ℕ → ℕ → ℕ
entered v tag hint = tag * 2199023255552 + v / 8388608 % 262144 * 8388608 + hint

module _ (v tag hint : ℕ) (h : hint < 8388608) where
  entered-hint : entered v tag hint % 8388608 ≡ hint
  entered-hint = omega arith

  entered-tag : entered v tag hint / 2199023255552 ≡ tag
  entered-tag = omega arith

  entered-named : named_in (entered v tag hint) ≡ named_in v
  entered-named = let q : entered v tag hint / 8388608 ≡ tag * 262144 + v / 8388608 % 262144 = omega arith in rw q (omega arith)

  entered-source : source_in (entered v tag hint) ≡ source_in v
  entered-source = omega arith

either-true : (a b : Bool) → a ≡ true → (a || b) ≡ true
either-true true b e = refl
either-true false b e = absurd (cc)

or-second : (a b : Bool) → b ≡ true → (a || b) ≡ true
or-second true b e = refl
or-second false b e = e

cond-none : (b : Bool) → ◌≡◌ {A = ℕ} (cond b 0 0) 0
cond-none true = refl
cond-none false = refl

keeps-cond : (a b : Bool) {x y : ℕ} → (a ≡ true → b ≡ true) → Keeps x y → Keeps (cond a x 0) (cond b y 0)
keeps-cond true b {x} {y} h k = subst (λ (c : Bool). Keeps x (cond c y 0)) (sym (h refl)) k
keeps-cond false b {y = y} h k = keeps-none (cond b y 0)

module _ (v id hint : ℕ) (h : hint < 8388608) (k : Keeps (v % 8388608) hint) where
  abbrev new : ℕ → ℕ
  new tag = entered v tag hint

  -- the tag is none, or stays
  keeps-entered : (tag n : ℕ) → (tagged v n ≡ true → tagged (new tag) n ≡ true) → Keeps (hint_in v n) (hint_in (new tag) n)
  unfolding hint_in
  keeps-entered tag n f = keeps-cond (tagged v n) (tagged (new tag) n) f (subst (Keeps (v % 8388608)) (sym (entered-hint v tag hint h)) k)

  -- no id had entered
  keeps-fresh : (tag n : ℕ) → v % 8388608 ≡ 0 → Keeps (hint_in v n) (hint_in (new tag) n)
  unfolding hint_in
  keeps-fresh tag n e =
      subst (λ (x : ℕ). Keeps x (hint_in (new tag) n)) (sym (ap (λ (x : ℕ). cond (tagged v n) x 0) e ∙ cond-none (tagged v n))) (keeps-none (hint_in (new tag) n))

  tag-open : (n : ℕ) → tagged (new 0) n ≡ true
  tag-open n = either-true (eqb (new 0 / 2199023255552) 0) (eqb (new 0 / 2199023255552) (tag_of n)) (eq-eqb (new 0 / 2199023255552) 0 (entered-tag v 0 hint h))

  tag-stays : (n : ℕ) → v / 2199023255552 ≡ tag_of id → tagged v n ≡ true → tagged (new (tag_of id)) n ≡ true
  tag-stays n e f = ap (λ (x : ℕ). eqb x 0 || eqb x (tag_of n)) (entered-tag v (tag_of id) hint h ∙ sym e) ∙ f

  keeps-tagged : (x y : Bool) → eqb (v % 8388608) 0 ≡ x → eqb (v / 2199023255552) (tag_of id) ≡ y → (n : ℕ) →
      Keeps (hint_in v n) (hint_in (new (cond x (tag_of id) (cond y (tag_of id) 0))) n)
  keeps-tagged true y p q n = keeps-fresh (tag_of id) n (eqb-true (v % 8388608) 0 p)
  keeps-tagged false true p q n = keeps-entered (tag_of id) n (tag-stays n (eqb-true (v / 2199023255552) (tag_of id) q))
  keeps-tagged false false p q n = keeps-entered 0 n (λ f. tag-open n)

  grows-entered : Grows v (new (tag_for v id))
  grows-entered =
      record {
        hints_kept = keeps-tagged (eqb (v % 8388608) 0) (eqb (v / 2199023255552) (tag_of id)) refl refl;
        named_kept = let e = entered-named v (tag_for v id) hint h in omega arith;
        source_kept = let e = entered-source v (tag_for v id) hint h in omega arith;
      }

  -- the id itself has the hint
  own-tag : tagged (new (tag_of id)) id ≡ true
  own-tag =
      let tag = new (tag_of id) / 2199023255552 in
      or-second (eqb tag 0) (eqb tag (tag_of id)) (eq-eqb tag (tag_of id) (entered-tag v (tag_of id) hint h))

  hint-by : (x y : Bool) → tagged (new (cond x (tag_of id) (cond y (tag_of id) 0))) id ≡ true
  hint-by true y = own-tag
  hint-by false true = own-tag
  hint-by false false = tag-open id

  hint-entered : hint_in (new (tag_for v id)) id ≡ hint
  unfolding hint_in
  hint-entered =
      ap (λ (b : Bool). cond b (new (tag_for v id) % 8388608) 0) (hint-by (eqb (v % 8388608) 0) (eqb (v / 2199023255552) (tag_of id)))
      ∙ entered-hint v (tag_for v id) hint h

-- an id enters its cell
module _ (v c id tag hint : ℕ) (e : v ≡ c) (f : tag ≡ tag_for v id) (h : hint < 8388608) (k : Keeps (c % 8388608) hint) where
  keeps-here : Keeps (v % 8388608) hint
  keeps-here = subst (λ (x : ℕ). Keeps (x % 8388608) hint) (sym e) k

  pub cell-grows : Grows c (tag * 2199023255552 + v / 8388608 % 262144 * 8388608 + hint)
  cell-grows =
      subst (λ (x : ℕ). Grows x (tag * 2199023255552 + v / 8388608 % 262144 * 8388608 + hint)) e
      (subst (λ (x : ℕ). Grows v (x * 2199023255552 + v / 8388608 % 262144 * 8388608 + hint)) (sym f) (grows-entered v id hint h keeps-here))

  pub cell-hint : hint_in (tag * 2199023255552 + v / 8388608 % 262144 * 8388608 + hint) id ≡ hint
  cell-hint = ap (λ (x : ℕ). hint_in (x * 2199023255552 + v / 8388608 % 262144 * 8388608 + hint) id) f ∙ hint-entered v id hint h keeps-here
