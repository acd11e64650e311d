-- What the functions on hints do: a hint is stored aside of the tables; then a row enters a table; rows with a key are taken out where there are some;
-- a record gets its first namespace.
use Rattle.std.specs.Prelude.{Option, None, Some}
use Prim.Native.Nat.{ℕ, ◌+◌, ◌-◌, ◌*◌, ◌/◌, ◌%◌, ◌≤◌, ◌<◌}
use native.Mathlib.Omega.{arith}
use mathlib.Core.Path.{◌≡◌, refl, sym, ap, subst, ◌∙◌}
use mathlib.Core.Bool.{Bool, true, false}
use mathlib.Core.List.{List, [], ◌∷◌, ◌++◌}
use mathlib.Core.Logic.{◌⊎◌, inl, inr}
use lib.ListN.{set}
use lib.Seq.{get_or-set_same, get_or-set_other}
use lib.Dec.{eqb}
use borrow.Author.Tests.{leb-true, eqb-true, eqb-false}
use Rattle.tree.proofs.Table.{both-true}
use Rattle.tables.specs.Rows.{Row, rows, between, first_in, NoneBefore, without, without_row, with_value}
use Rattle.tables.specs.Only.{Only}
use Rattle.std.specs.Prelude.{is_some}
use Rattle.state.specs.Cells.{id_limit, Kind, imports, uses, records, namespaces, modules, table_of, top_cell, pass_cell, own_cell, require_cell, held, Good}
use Rattle.state.specs.Cells.{cell_at, hint_at, import_hint, namespace_hint, use_hint, named_in, source_in, name_cell, row_hint, module_hint, Covered, Hinted}
use Rattle.state.specs.Does.{CellsKept, Others, Changes, Aside, Behind, Grows, Starts}
use Rattle.state.proofs.ListLaws.{below-append, below-value, below-without, length-more, length-value, length-without, row_of}
use Rattle.state.proofs.HintLaws.{none-out, distinct-append, distinct-without, covered-append, covered-without, covered-none}
use Rattle.state.proofs.HintLaws.{row-out, named-append, named-value, named-at, source-at, reached-append, grows-same, grows-stays, grows-set}
use Rattle.state.proofs.FrameLaws.{cells-same, cells-then, beside-hint, beside-set, beside-rows, beside-good, good-kept, changed, room-for}

-- ---- A cell is stored

cells-beside : (t : List ℕ) (i v : ℕ) → (top_cell ≡ i → ⊥) → ((j : ℕ) → pass_cell ≤ j → j ≤ require_cell → j ≡ i → ⊥) → CellsKept t (set t i v)
cells-beside t i v n h =
    record {
      top_kept = get_or-set_other t i top_cell v 0 n;
      pass_kept = get_or-set_other t i pass_cell v 0 (h pass_cell (omega arith) (omega arith));
      own_kept = get_or-set_other t i own_cell v 0 (h own_cell (omega arith) (omega arith));
      require_kept = get_or-set_other t i require_cell v 0 (h require_cell (omega arith) (omega arith));
    }

module _ {t : List ℕ} (h v : ℕ) (g : Good t) (b : h < 2003) where
  hints-beside : CellsKept t (set t (15994 + h) v)
  hints-beside = cells-beside t (15994 + h) v (λ z. omega arith) (λ j p q z. omega arith)

  pub cell-set : Aside t (set t (15994 + h) v) × (cell_at (set t (15994 + h) v) h ≡ v)
  cell-set =
      let size = g.size in (
        record { same_rows = beside-rows (15994 + h) v g (beside-hint h b); same_cells = hints-beside },
        get_or-set_same t (15994 + h) v 0 (omega arith),
      )

  pub cell-good : Grows (cell_at t h) v → Good (set t (15994 + h) v)
  cell-good k =
      let size = g.size in
      beside-good (15994 + h) v g (beside-hint h b)
      (record {
        grown = λ i d. grows-set t h v (omega arith) k i;
        reaching = λ i d. let e = get_or-set_other t (15994 + h) (21074 + i) v 0 (λ z. omega arith) in omega arith;
      }) (let e = hints-beside.own_kept in let n = g.own_below in omega arith)

-- a hint behind the setting grows
module _ {t : List ℕ} (h v : ℕ) (g : Good t) (b : h < 1280) (k : row_hint t h ≤ v) where
  raised-same : row_hint (set t (21074 + h) v) h ≡ v
  raised-same = let size = g.size in get_or-set_same t (21074 + h) v 0 (omega arith)

  raised : (i : ℕ) → i < 1280 → row_hint t i ≤ row_hint (set t (21074 + h) v) i
  raised i d = by (eqb i h) refl
    where
      by : (x : Bool) → eqb i h ≡ x → row_hint t i ≤ row_hint (set t (21074 + h) v) i
      by true e = let s = raised-same in subst (λ (j : ℕ). row_hint t j ≤ row_hint (set t (21074 + h) v) j) (sym (eqb-true i h e)) (omega arith)
      by false e = let z = eqb-false i h e in let y = get_or-set_other t (21074 + h) (21074 + i) v 0 (λ q. z (omega arith)) in omega arith

  places-beside : CellsKept t (set t (21074 + h) v)
  places-beside = cells-beside t (21074 + h) v (λ z. omega arith) (λ j p q z. omega arith)

  pub raise-set : Aside t (set t (21074 + h) v) × Behind t (set t (21074 + h) v) × (v ≤ row_hint (set t (21074 + h) v) h)
  raise-set = (
    record { same_rows = beside-rows (21074 + h) v g (beside-set (21074 + h) (omega arith) (omega arith)); same_cells = places-beside },
    record { same = λ i d. get_or-set_other t (21074 + h) i v 0 (λ z. omega arith); grown = raised },
    let s = raised-same in omega arith,
  )

  pub raise-good : Good (set t (21074 + h) v)
  raise-good =
      beside-good (21074 + h) v g (beside-set (21074 + h) (omega arith) (omega arith))
      (record { grown = λ i d. grows-stays (get_or-set_other t (21074 + h) (15994 + i) v 0 (λ z. omega arith)); reaching = raised })
      (let e = places-beside.own_kept in let n = g.own_below in omega arith)

pub cell-stays : (t : List ℕ) → Aside t t
cell-stays t = record { same_rows = λ k. refl; same_cells = cells-same _ }

pub behind-stays : (t : List ℕ) → Behind t t
behind-stays t = record { same = λ i d. refl; grown = λ h d. omega arith }

-- the hint of a name grows; so does that of a literal's
module _ (v h : ℕ) (b : h < 512) where
  abbrev renamed : ℕ
  renamed = v / 4294967296 * 4294967296 + h * 8388608 + v % 8388608

  renamed-low : renamed % 8388608 ≡ v % 8388608
  renamed-low = omega arith

  renamed-tag : renamed / 2199023255552 ≡ v / 2199023255552
  renamed-tag = omega arith

  renamed-now : named_in renamed ≡ h
  renamed-now = omega arith

  renamed-high : renamed / 4294967296 ≡ v / 4294967296
  renamed-high = omega arith

  pub named-grows : (c : ℕ) → v ≡ c → named_in v ≤ h → Grows c renamed
  named-grows c e l =
      subst (λ (x : ℕ). Grows x renamed) e
      (grows-same renamed-tag renamed-low (let n = renamed-now in omega arith) (let q = ap (λ (x : ℕ). x % 512) renamed-high in omega arith))

  abbrev resourced : ℕ
  resourced = v / 2199023255552 * 2199023255552 + h * 4294967296 + v % 4294967296

  resourced-low : resourced % 8388608 ≡ v % 8388608
  resourced-low = omega arith

  resourced-tag : resourced / 2199023255552 ≡ v / 2199023255552
  resourced-tag = omega arith

  resourced-now : source_in resourced ≡ h
  resourced-now = omega arith

  resourced-name : named_in resourced ≡ named_in v
  resourced-name = omega arith

  pub source-grows : (c : ℕ) → v ≡ c → source_in v ≤ h → Grows c resourced
  source-grows c e l =
      subst (λ (x : ℕ). Grows x resourced) e
      (grows-same resourced-tag resourced-low (let n = resourced-name in omega arith) (let n = resourced-now in omega arith))

-- so does each of the two parts, by the number from which on it stands
pub part-grows : {part : ℕ} (v h : ℕ) → (part ≡ 8388608) ⊎ (part ≡ 4294967296) → h < 512 → (c : ℕ) → v ≡ c → v / part % 512 ≤ h →
    Grows c (v / (part * 512) * (part * 512) + h * part + v % part)
part-grows v h (inl e) b c f l =
    let l' = subst (λ (p : ℕ). v / p % 512 ≤ h) e l in
    subst (λ (p : ℕ). Grows c (v / (p * 512) * (p * 512) + h * p + v % p)) (sym e) (named-grows v h b c f l')
part-grows v h (inr e) b c f l =
    let l' = subst (λ (p : ℕ). v / p % 512 ≤ h) e l in
    subst (λ (p : ℕ). Grows c (v / (p * 512) * (p * 512) + h * p + v % p)) (sym e) (source-grows v h b c f l')

-- the first record whose first namespace has a name stands at the hint or behind; so does the first whose literal has it
pub starts : {t : List ℕ} {from id : ℕ} → Good t → from ≤ 256 - named_in (cell_at t (name_cell id)) → Starts from id t
starts {t} {from} {id} g h =
    record {
      none_named = λ i n p q e f.
          let a = named-at 0 t (rows (table_of records) t) i n (g.hinted records) q e in
          let b = ap (λ (x : ℕ). named_in (cell_at t (x % 1024))) f in
          omega arith;
    }

pub opens : {t : List ℕ} {from : ℕ} (id : ℕ) → Good t → from ≤ 256 - source_in (cell_at t (name_cell id)) →
    NoneBefore from (id - id % 4294967296) (id - id % 4294967296 + 4294967295) (rows (table_of records) t)
opens {t} {from} id g h = record { passed = λ i p q. by i p q (between (id - id % 4294967296) (id - id % 4294967296 + 4294967295) (row_of (rows (table_of records) t) i).0) refl }
  where
    by : (i : ℕ) → i < from → i < held records t → (b : Bool) →
        between (id - id % 4294967296) (id - id % 4294967296 + 4294967295) (row_of (rows (table_of records) t) i).0 ≡ b → b ≡ false
    by i p q true e =
        let n = (row_of (rows (table_of records) t) i).0 in
        let k = both-true _ _ e in
        let l = leb-true (id - id % 4294967296) n k.0 in
        let u = leb-true n (id - id % 4294967296 + 4294967295) k.1 in
        let z : n / 4294967296 ≡ id / 4294967296 = omega arith in
        let a = source-at 0 t (rows (table_of records) t) i (g.hinted records) q in
        let b = ap (λ (x : ℕ). source_in (cell_at t (x % 1024))) z in
        absurd (omega arith)
    by i p q false e = refl

-- ---- A row enters

others-after : {k : Kind} {t m t' : List ℕ} → Aside t m → Others k m t' → Others k t t'
others-after a o = record { rows_kept = λ m e. o.rows_kept m e ∙ a.same_rows m; cells_kept = cells-then a.same_cells o.cells_kept }

after : (k : Kind) {t m t' : List ℕ} {l : List Row} → Good m → Aside t m → Only (table_of k) m t' → rows (table_of k) t' ≡ l → Changes k l t t'
after k h a o e = record { now_rows = e; others = others-after a (changed k h o e).others }

-- one that enters a table, and one with another value
pub entered : (k : Kind) (r : Row) {t m t' : List ℕ} → Good m → Aside t m → rows (table_of k) t' ≡ rows (table_of k) m ++ (r ∷ []) → Only (table_of k) m t' →
    Changes k (rows (table_of k) t ++ (r ∷ [])) t t'
entered k r h a e o = after k h a o (e ∙ ap (λ (x : List Row). x ++ (r ∷ [])) (a.same_rows k))

pub valued : (k : Kind) (i v : ℕ) {t m t' : List ℕ} → Good m → Aside t m → rows (table_of k) t' ≡ with_value i v (rows (table_of k) m) → Only (table_of k) m t' →
    Changes k (with_value i v (rows (table_of k) t)) t t'
valued k i v h a e o = after k h a o (e ∙ ap (with_value i v) (a.same_rows k))

-- the array stays good
module _ {t m t' : List ℕ} (g : Good t) (w : Good m) (a : Aside t m) where
  pub import-added : {id c : ℕ} → id < id_limit → c < 4294967296 → held imports t < 512 → first_in id id (rows (table_of imports) t) ≡ None →
      0 < import_hint (hint_at m id) → rows (table_of imports) t' ≡ rows (table_of imports) m ++ ((id, c) ∷ []) → Only (table_of imports) m t' → Good t'
  import-added {id} {c} h b n f z e o =
      let l = rows (table_of imports) t in
      let k = length-more l (id, c) in
      good-kept imports w o (e ∙ ap (λ (x : List Row). x ++ ((id, c) ∷ [])) (a.same_rows imports)) (omega arith) (below-append _ _ l (id, c) (g.below imports) h b) (
        covered-append import_hint m l (id, c) (subst (Covered import_hint m) (a.same_rows imports) (w.hinted imports).0) z,
        distinct-append l (id, c) (g.hinted imports).1 f,
      )

  pub use-added : {id q : ℕ} → id < id_limit → q < id_limit → held uses t < 2048 → 0 < use_hint (hint_at m id) →
      rows (table_of uses) t' ≡ rows (table_of uses) m ++ ((id, q) ∷ []) → Only (table_of uses) m t' → Good t'
  use-added {id} {q} h b n z e o =
      let l = rows (table_of uses) t in
      let k = length-more l (id, q) in
      good-kept uses w o (e ∙ ap (λ (x : List Row). x ++ ((id, q) ∷ [])) (a.same_rows uses)) (omega arith) (below-append _ _ l (id, q) (g.below uses) h b)
      (covered-append use_hint m l (id, q) (subst (Covered use_hint m) (a.same_rows uses) (w.hinted uses)) z)

  pub held-added : {id i : ℕ} → id < id_limit → i < 256 → held namespaces t < 3641 → 0 < namespace_hint (hint_at m id) →
      rows (table_of namespaces) t' ≡ rows (table_of namespaces) m ++ ((id, i) ∷ []) → Only (table_of namespaces) m t' → Good t'
  held-added {id} {i} h b n z e o =
      let l = rows (table_of namespaces) t in
      let k = length-more l (id, i) in
      good-kept namespaces w o (e ∙ ap (λ (x : List Row). x ++ ((id, i) ∷ [])) (a.same_rows namespaces)) (omega arith) (below-append _ _ l (id, i) (g.below namespaces) h b)
      (covered-append namespace_hint m l (id, i) (subst (Covered namespace_hint m) (a.same_rows namespaces) (w.hinted namespaces)) z)

  pub record-added : {x : ℕ} → x < id_limit → held records t < 256 → 256 ≤ held records t + source_in (cell_at m (name_cell x)) →
      rows (table_of records) t' ≡ rows (table_of records) m ++ ((x, 0) ∷ []) → Only (table_of records) m t' → Good t'
  record-added {x} h n z e o =
      let l = rows (table_of records) t in
      let k = length-more l (x, 0) in
      good-kept records w o (e ∙ ap (λ (y : List Row). y ++ ((x, 0) ∷ [])) (a.same_rows records)) (omega arith) (below-append _ _ l (x, 0) (g.below records) h (omega arith))
      (named-append 0 m l (x, 0) (subst (λ (y : List Row). Hinted records m y) (a.same_rows records) (w.hinted records)) refl (omega arith))

  pub module-added : {f : ℕ} → f < 65536 → held modules t < 256 → 256 ≤ held modules t + module_hint m (f % 256) →
      rows (table_of modules) t' ≡ rows (table_of modules) m ++ ((f, 0) ∷ []) → Only (table_of modules) m t' → Good t'
  module-added {f} h n z e o =
      let l = rows (table_of modules) t in
      let k = length-more l (f, 0) in
      good-kept modules w o (e ∙ ap (λ (y : List Row). y ++ ((f, 0) ∷ [])) (a.same_rows modules)) (omega arith) (below-append _ _ l (f, 0) (g.below modules) h (omega arith))
      (reached-append 256 (λ c. module_hint m (c % 256)) 0 l (f, 0) (subst (λ (y : List Row). Hinted modules m y) (a.same_rows modules) (w.hinted modules)) (omega arith))

  -- a record's first namespace
  pub first-set : {id : ℕ} (i : ℕ) → id < id_limit → 256 ≤ i + named_in (cell_at m (name_cell id)) → rows (table_of records) t' ≡ with_value i (id + 1) (rows (table_of records) m) →
      Only (table_of records) m t' → Good t'
  first-set {id} i h n e o =
      let l = rows (table_of records) t in
      let k = length-value l i (id + 1) in
      let r = room-for records g in
      good-kept records w o (e ∙ ap (with_value i (id + 1)) (a.same_rows records)) (omega arith) (below-value _ _ l i (id + 1) (g.below records) (omega arith))
      (named-value 0 i m l id (subst (λ (x : List Row). Hinted records m x) (a.same_rows records) (w.hinted records)) (omega arith))

-- ---- Rows are taken out

pub row-dropped : (id : ℕ) {t : List ℕ} (t' : List ℕ) {i : ℕ} → Good t → Some i ≡ first_in id id (rows (table_of imports) t) →
    rows (table_of imports) t' ≡ without_row i (rows (table_of imports) t) → rows (table_of imports) t' ≡ without id (rows (table_of imports) t)
row-dropped id {t} t' {i} g f e = e ∙ row-out id (rows (table_of imports) t) i (g.hinted imports).1 (sym f)

module _ (id : ℕ) {t t' : List ℕ} (g : Good t) where
  pub imports-good : rows (table_of imports) t' ≡ without id (rows (table_of imports) t) → Only (table_of imports) t t' → Good t'
  imports-good e o =
      let l = rows (table_of imports) t in
      let n = length-without id l in
      let r = room-for imports g in
      good-kept imports g o e (omega arith) (below-without _ _ id l (g.below imports))
      (covered-without import_hint t id l (g.hinted imports).0, distinct-without id l (g.hinted imports).1)

  pub uses-good : rows (table_of uses) t' ≡ without id (rows (table_of uses) t) → Only (table_of uses) t t' → Good t'
  uses-good e o =
      let l = rows (table_of uses) t in
      let n = length-without id l in
      let r = room-for uses g in
      good-kept uses g o e (omega arith) (below-without _ _ id l (g.below uses)) (covered-without use_hint t id l (g.hinted uses))

-- none are there
pub absent : (k : Kind) (id : ℕ) {t : List ℕ} → first_in id id (rows (table_of k) t) ≡ None → Changes k (without id (rows (table_of k) t)) t t
absent k id {t} e = record { now_rows = sym (none-out id (rows (table_of k) t) e); others = record { rows_kept = λ m h. refl; cells_kept = cells-same _ } }

pub some-none : (o : Option ℕ) → is_some o ≡ false → o ≡ None
some-none None e = refl
some-none (Some n) e = absurd (cc)

-- a hint of 0
pub not-imported : {t : List ℕ} (id : ℕ) → Good t → import_hint (hint_at t id) ≡ 0 → first_in id id (rows (table_of imports) t) ≡ None
not-imported {t} id g e = covered-none import_hint t id (rows (table_of imports) t) (g.hinted imports).0 e

pub not-used : {t : List ℕ} (id : ℕ) → Good t → use_hint (hint_at t id) ≡ 0 → first_in id id (rows (table_of uses) t) ≡ None
not-used {t} id g e = covered-none use_hint t id (rows (table_of uses) t) (g.hinted uses) e

pub not_held : {t : List ℕ} (id : ℕ) → Good t → namespace_hint (hint_at t id) ≡ 0 → first_in id id (rows (table_of namespaces) t) ≡ None
not_held {t} id g e = covered-none namespace_hint t id (rows (table_of namespaces) t) (g.hinted namespaces) e
