-- A store into one table leaves the tables apart from it as they were.
use Prim.Native.Nat.{ℕ, zero, suc, ◌+◌, ◌*◌, ◌≤◌, ◌<◌}
use native.Mathlib.Omega.{arith}
use mathlib.Core.Path.{◌≡◌, refl, ap, subst, ◌∙◌}
use mathlib.Core.List.{List, [], ◌∷◌, ◌++◌}
use lib.ListN.{length, get_or, set, length-set}
use lib.Seq.{get_or-set_same, get_or-set_other}
use Rattle.tables.specs.declared.Table.{Table}
use Rattle.tables.specs.Rows.{rows_from, RowPut, rows, Lies, without, without_row, with_value}
use Rattle.tables.specs.Only.{Outside, Only, Apart}
use Rattle.tables.proofs.RowLaws.{from-agree, rows-length, Dropping, Closing}

pub only-then : {b : Table} {t m k : List ℕ} → Only b t m → Only b m k → Only b t k
only-then p q = record { size = q.size ∙ p.size; same = λ i o. q.same i o ∙ p.same i o }

-- the cells of a table are as they were
pub record SameCells (c : Table) (t t' : List ℕ) : Type 0 where
  pub size : length t' ≡ length t
  pub count : get_or t' c.count 0 ≡ get_or t c.count 0
  pub in_rows : (i : ℕ) → c.base ≤ i → i < c.base + 2 * c.room → get_or t' i 0 ≡ get_or t i 0

-- so it holds the same rows
pub same-rows : {c : Table} {t t' : List ℕ} → SameCells c t t' → Lies c t → rows c t' ≡ rows c t
unfolding rows
same-rows {c} {t} {t'} o l =
    let n = o.count in
    let held = l.held in
    ap (λ (k : ℕ). rows_from k c.base t') n ∙ from-agree (get_or t c.count 0) c.base t t' (λ i p q. o.in_rows i p (omega arith))

pub same-lies : {c : Table} {t t' : List ℕ} → SameCells c t t' → Lies c t → Lies c t'
same-lies {c} {t} {t'} o l =
    let n = o.count in
    let s = o.size in
    record { ends = let e = l.ends in omega arith; cell = l.cell; held = let h = l.held in omega arith }

-- a table apart from the one that changed
pub apart-same : {b c : Table} {t t' : List ℕ} → Apart b c → Only b t t' → SameCells c t t'
apart-same {b} {c} a o = record { size = o.size; count = o.same c.count a.cell; in_rows = λ i p q. o.same i (a.row i p q) }

pub apart-rows : {b c : Table} {t t' : List ℕ} → Apart b c → Only b t t' → Lies c t → rows c t' ≡ rows c t
apart-rows a o l = same-rows (apart-same a o) l

pub apart-lies : {b c : Table} {t t' : List ℕ} → Apart b c → Only b t t' → Lies c t → Lies c t'
apart-lies a o l = same-lies (apart-same a o) l

-- ---- One store

pub set-only : (b : Table) (t : List ℕ) (i v : ℕ) → (Outside b i → ⊥) → Only b t (set t i v)
set-only b t i v h = record { size = length-set t i v; same = λ j o. get_or-set_other t i j v 0 (λ e. h (subst (Outside b) e o)) }

cell-inside : (b : Table) → Outside b b.count → ⊥
cell-inside b o = o.cell refl

pub store-count : (b : Table) (t : List ℕ) (v : ℕ) → Only b t (set t b.count v)
store-count b t v = set-only b t b.count v (cell-inside b)

pub store-row : (b : Table) (t : List ℕ) (i v : ℕ) → b.base ≤ i → i < b.base + 2 * b.room → Only b t (set t i v)
store-row b t i v p q = set-only b t i v (λ o. o.row p q)

-- ---- One row more

pub row-pushed : (b : Table) (t : List ℕ) (n key value : ℕ) → Lies b t → n ≡ length (rows b t) → n < b.room → (two : List ℕ) →
    RowPut b.base n key value t two →
    (rows b (set two b.count (n + 1)) ≡ rows b t ++ ((key, value) ∷ [])) × Only b t (set two b.count (n + 1))
unfolding rows
row-pushed b t n key value l e h two w =
    let t' = set two b.count (n + 1) in
    let ends = l.ends in
    let cell = l.cell in
    let held = l.held in
    let c = rows-length b t in
    let s = w.size in
    let count = get_or-set_same two b.count (n + 1) 0 (omega arith) in
    let same = from-agree (n + 1) b.base two t' (λ j p q. get_or-set_other two b.count j (n + 1) 0 (λ z. omega arith)) in
    let size : n ≡ get_or t b.count 0 = omega arith in (
      ap (λ (k : ℕ). rows_from k b.base t') count ∙ same ∙ w.put
          ∙ ap (λ (k : ℕ). rows_from k b.base t ++ ((key, value) ∷ [])) size,
      only-then (record { size = w.size; same = λ j o. w.same j (λ p q. o.row (omega arith) (omega arith)) }) (store-count b two (n + 1)),
    )

-- ---- Another value in a row

value-set : (k at i : ℕ) (t : List ℕ) (v : ℕ) → i < k → at + 2 * k ≤ length t → rows_from k at (set t (at + 2 * i + 1) v) ≡ with_value i v (rows_from k at t)
unfolding rows_from with_value
value-set zero at i t v h l = absurd (omega arith)
value-set (suc k) at zero t v h l =
    let e : at + 2 * 0 + 1 ≡ at + 1 = omega arith in
    let a = get_or-set_other t (at + 1) at v 0 (λ z. omega arith) in
    let b = get_or-set_same t (at + 1) v 0 (omega arith) in
    let r = from-agree k (at + 2) t (set t (at + 1) v) (λ j p q. get_or-set_other t (at + 1) j v 0 (λ z. omega arith)) in
    rw e (cc)
value-set (suc k) at (suc i) t v h l =
    let e : at + 2 + 2 * i + 1 ≡ at + 2 * suc i + 1 = omega arith in
    let a = get_or-set_other t (at + 2 * suc i + 1) at v 0 (λ z. omega arith) in
    let b = get_or-set_other t (at + 2 * suc i + 1) (at + 1) v 0 (λ z. omega arith) in
    let r = value-set k (at + 2) i t v (omega arith) (omega arith) in
    cc

valued-rows : (b : Table) (t : List ℕ) (i v : ℕ) → Lies b t → i < get_or t b.count 0 → rows b (set t (b.base + 2 * i + 1) v) ≡ with_value i v (rows b t)
unfolding rows
valued-rows b t i v l h =
    let ends = l.ends in
    let cell = l.cell in
    let held = l.held in
    let c = get_or-set_other t (b.base + 2 * i + 1) b.count v 0 (λ z. omega arith) in
    ap (λ (k : ℕ). rows_from k b.base (set t (b.base + 2 * i + 1) v)) c ∙ value-set (get_or t b.count 0) b.base i t v h (omega arith)

pub row-valued : (b : Table) (t : List ℕ) (i v : ℕ) → Lies b t → i < length (rows b t) →
    (rows b (set t (b.base + 2 * i + 1) v) ≡ with_value i v (rows b t)) × Only b t (set t (b.base + 2 * i + 1) v)
row-valued b t i v l h =
    let c = rows-length b t in
    let held = l.held in
    (valued-rows b t i v l (omega arith), store-row b t (b.base + 2 * i + 1) v (omega arith) (omega arith))

-- ---- Rows taken out

dropped-rows : (b : Table) (key n kept : ℕ) (t₀ t : List ℕ) → Lies b t₀ → n ≡ length (rows b t₀) → Dropping key b.base n t₀ n kept t →
    rows b (set t b.count kept) ≡ without key (rows b t₀)
unfolding rows
dropped-rows b key n kept t₀ t l e d =
    let c = rows-length b t₀ in
    let ends = l.ends in
    let cell = l.cell in
    let size = d.size in
    let n' : n ≡ get_or t₀ b.count 0 = omega arith in
    let count = get_or-set_same t b.count kept 0 (omega arith) in
    let same = from-agree kept b.base t (set t b.count kept) (λ i p q. get_or-set_other t b.count i kept 0 (λ z. omega arith)) in
    ap (λ (k : ℕ). rows_from k b.base (set t b.count kept)) count ∙ same ∙ d.kept_rows ∙ ap (λ (k : ℕ). without key (rows_from k b.base t₀)) n'

pub rows-dropped : (b : Table) (key n kept : ℕ) (t₀ t : List ℕ) → Lies b t₀ → n ≡ length (rows b t₀) → Dropping key b.base n t₀ n kept t →
    (rows b (set t b.count kept) ≡ without key (rows b t₀)) × Only b t₀ (set t b.count kept)
rows-dropped b key n kept t₀ t l e d =
    let c = rows-length b t₀ in
    let held = l.held in (
      dropped-rows b key n kept t₀ t l e d,
      only-then (record { size = d.size; same = λ i o. d.same i (λ p q. o.row p (omega arith)) }) (store-count b t kept),
    )

closed-rows : (b : Table) (i n k : ℕ) (t₀ t : List ℕ) → Lies b t₀ → n ≡ length (rows b t₀) → n ≤ k + 1 → Closing i b.base n t₀ k t →
    rows b (set t b.count k) ≡ without_row i (rows b t₀)
unfolding rows
closed-rows b i n k t₀ t l e h d =
    let c = rows-length b t₀ in
    let ends = l.ends in
    let cell = l.cell in
    let size = d.size in
    let upto = d.upto in
    let n' : k + 1 ≡ get_or t₀ b.count 0 = omega arith in
    let count = get_or-set_same t b.count k 0 (omega arith) in
    let same = from-agree k b.base t (set t b.count k) (λ j p q. get_or-set_other t b.count j k 0 (λ z. omega arith)) in
    ap (λ (m : ℕ). rows_from m b.base (set t b.count k)) count ∙ same ∙ d.closed ∙ ap (λ (m : ℕ). without_row i (rows_from m b.base t₀)) n'

pub row-dropped : (b : Table) (i n k : ℕ) (t₀ t : List ℕ) → Lies b t₀ → n ≡ length (rows b t₀) → n ≤ k + 1 → Closing i b.base n t₀ k t →
    (rows b (set t b.count k) ≡ without_row i (rows b t₀)) × Only b t₀ (set t b.count k)
row-dropped b i n k t₀ t l e h d =
    let c = rows-length b t₀ in
    let held = l.held in
    let upto = d.upto in (
      closed-rows b i n k t₀ t l e h d,
      only-then (record { size = d.size; same = λ j o. d.same j (λ p q. o.row p (omega arith)) }) (store-count b t k),
    )
