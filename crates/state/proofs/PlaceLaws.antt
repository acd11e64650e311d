-- The lists of a shown state one by one: how long they are, and what stands at a place.
use Prim.Native.Nat.{ℕ, zero, suc, ◌+◌, ◌/◌, ◌%◌, ◌<◌}
use native.Mathlib.Omega.{arith}
use native.Mathlib.Numerals.{add-one}
use mathlib.Core.Path.{◌≡◌, refl, sym, ap, ◌∙◌}
use mathlib.Core.List.{List, [], ◌∷◌, map}
use lib.ListN.{length, drop}
use Rattle.tables.specs.Rows.{Row, rows}
use Rattle.tree.specs.Layout.{two, value_of}
use Rattle.extraction_rules.specs.State.{Record}
use Rattle.state.specs.Cells.{Env, records, lazies, forces, id_limit, place_limit, table_of, held, Good, literal_by, Brief, brief, brief_of, lazy_of, atom_of}
use Rattle.state.specs.declared.Literal.{Literal}
use Rattle.state.specs.Does.{Holds}
use Rattle.state.proofs.ListLaws.{below-row, row_of}

-- two lists that are told alike have alike entries
place-suc : {A B : Type 0} (h : Row → B) (g : A → B) (l : List Row) (m : List A) (i : ℕ) → map h l ≡ map g m → i < length l →
    (a : A) × (g a ≡ h (row_of l i)) × (drop i m ≡ a ∷ drop (suc i) m)
place-suc h g [] m i e n = absurd (omega arith)
place-suc h g (r ∷ l) [] i e n = absurd (cc)
place-suc h g (r ∷ l) (a ∷ m) zero e n = (a, (let q : g a ≡ h r = cc in q), refl)
place-suc h g (r ∷ l) (a ∷ m) (suc i) e n = place-suc h g l m i (let q : map h l ≡ map g m = cc in q) (omega arith)

place_in : {A B : Type 0} (h : Row → B) (g : A → B) (l : List Row) (m : List A) (i : ℕ) → map h l ≡ map g m → i < length l →
    (a : A) × (g a ≡ h (row_of l i)) × (drop i m ≡ a ∷ drop (i + 1) m)
place_in h g l m i e n =
    let w = place-suc h g l m i e n in
    (w.0, w.1, w.2 ∙ ap (λ (j : ℕ). w.0 ∷ drop j m) (sym (add-one i)))

map-same : {A : Type 0} (m : List A) → map (λ a. a) m ≡ m
map-same [] = refl
map-same (a ∷ m) = ap (λ (l : List _). a ∷ l) (map-same m)

-- ---- Collected records

pub record-small : {t : List ℕ} {i n : ℕ} → Good t → i < held records t → n ≡ (row_of (rows (table_of records) t) i).0 → n < id_limit
record-small {t} {i} g h e = let b = (below-row _ _ (rows (table_of records) t) i (g.below records) h).0 in omega arith

brief-literal : (x : Env) (q : Record) (r : Row) → brief q ≡ brief_of x r → q.literal ≡ x.literal (r.0 % 4294967296)
unfolding brief brief_of
brief-literal x q r e = ap (λ (b : Brief). b.literal) e

brief-value : (x : Env) (q : Record) (r : Row) → brief q ≡ brief_of x r → value_of q.literal ≡ two (r.0 / 4294967296)
unfolding brief brief_of
brief-value x q r e = ap (λ (b : Brief). b.value) e

-- the literal of a number
module _ {t : List ℕ} {i n : ℕ} {l : Literal} (v : l.value.0 ≡ n / 4294967296) (p : l.place ≡ n % 4294967296) where
  pub record-at : i < held records t → n ≡ (row_of (rows (table_of records) t) i).0 →
      Holds (λ s. s.collected) (λ q. q.literal) i t (λ x. literal_by x l) × Holds (λ s. s.collected) (λ q. value_of q.literal) i t (λ _. two l.value.0)
  record-at h e =
      let m = rows (table_of records) t in (
        record {
          is = λ {x} s w.
              let k = place_in (brief_of x) brief m s.collected i w.collected h in
              (k.0, brief-literal x k.0 (row_of m i) k.1 ∙ ap (λ (j : ℕ). x.literal (j % 4294967296)) (sym e) ∙ ap x.literal (sym p), k.2);
        },
        record {
          is = λ {x} s w.
              let k = place_in (brief_of x) brief m s.collected i w.collected h in
              (k.0, brief-value x k.0 (row_of m i) k.1 ∙ ap (λ (j : ℕ). two (j / 4294967296)) (sym e) ∙ ap two (sym v), k.2);
        },
      )

  pub lazy-literal-at : i < held lazies t → n ≡ (row_of (rows (table_of lazies) t) i).0 → Holds (λ s. s.lazy) (λ q. q.literal) i t (λ x. literal_by x l)
  lazy-literal-at h e =
      let m = rows (table_of lazies) t in
      record {
        is = λ {x} s w.
            let k = place_in (lazy_of x) (λ q. q) m s.lazy i (w.lazy ∙ sym (map-same s.lazy)) h in
            (k.0, ap (λ (q : Record). q.literal) k.1 ∙ ap (λ (j : ℕ). x.literal (j % 4294967296)) (sym e) ∙ ap x.literal (sym p), k.2);
      }

-- ---- Lazy records

-- numbers of its row
pub lazy-small : {t : List ℕ} {i : ℕ} → Good t → i < held lazies t → ((row_of (rows (table_of lazies) t) i).0 < id_limit) × ((row_of (rows (table_of lazies) t) i).1 < place_limit)
lazy-small {t} {i} g h = below-row _ _ (rows (table_of lazies) t) i (g.below lazies) h

pub lazy-place-at : {t : List ℕ} {i r : ℕ} → i < held lazies t → r ≡ (row_of (rows (table_of lazies) t) i).1 → Holds (λ s. s.lazy) (λ q. q.specifiers) i t (λ x. x.bound r)
lazy-place-at {t} {i} {r} h e =
    let m = rows (table_of lazies) t in
    record {
      is = λ {x} s w.
          let k = place_in (lazy_of x) (λ q. q) m s.lazy i (w.lazy ∙ sym (map-same s.lazy)) h in
          (k.0, ap (λ (q : Record). q.specifiers) k.1 ∙ ap x.bound (sym e), k.2);
    }

-- ---- Forced sources

-- a source's number fits two bytes
pub forced-small : {t : List ℕ} {i r : ℕ} → Good t → i < held forces t → r ≡ (row_of (rows (table_of forces) t) i).0 → r < 65536
forced-small {t} {i} g h e = let b = (below-row _ _ (rows (table_of forces) t) i (g.below forces) h).0 in omega arith

pub forced-source : {t : List ℕ} {i r : ℕ} → i < held forces t → r ≡ (row_of (rows (table_of forces) t) i).0 → Holds (λ s. s.forced) (λ a. a) i t (λ _. two r)
forced-source {t} {i} {r} h e =
    let l = rows (table_of forces) t in
    record { is = λ s w. let k = place_in atom_of (λ a. a) l s.forced i (w.forced ∙ sym (map-same s.forced)) h in (k.0, k.1 ∙ ap two (sym e), k.2) }
