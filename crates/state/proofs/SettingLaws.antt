-- What a pass is set to: what is read off its cells and tables, the array after a cell of them is set, and after a lent list is put into its table.
use Rattle.std.specs.Prelude.{Option, Some, is_some}
use Prim.Native.Nat.{ℕ, suc, ◌+◌, ◌%◌, ◌≤◌, ◌<◌}
use native.Mathlib.Omega.{arith}
use mathlib.Core.Path.{◌≡◌, refl, sym, ap, ap₂, ◌∙◌}
use mathlib.Core.Bool.{Bool, true, false}
use mathlib.Core.List.{List, [], ◌∷◌, ◌++◌, map, map-append, append_assoc, append-nil}
use lib.ListN.{length, get_or, set, drop, length-drop}
use lib.Seq.{get_or-set_same, get_or-set_other, drop-cons}
use Rattle.tables.specs.Rows.{Row, rows, first_in}
use Rattle.tables.specs.Only.{Only}
use Rattle.tree.specs.Layout.{Bytes, two, two_at, same}
use Rattle.tree.proofs.LayoutLaws.{same-two}
use Rattle.inputs.specs.Lists.{mapped, among}
use Rattle.inputs.specs.Table.{Row as LentRow, atoms_in, rows_in, row_of as row_for, file_of}
use Rattle.inputs.proofs.TableLaws.{bytes-two, rows-step, rows-end}
use Rattle.extraction_rules.specs.State.{Pass, first, second, Setting}
use Rattle.state.specs.Cells.{Kind, pass_flag, externals, table, table_of, Below, held, Good, row_hint, atom_of, lent_of, flag, Sets}
use Rattle.state.specs.Cells.{top_cell, pass_cell, own_cell, require_cell}
use Rattle.modes.specs.declared.Modes.{Modes}
use Rattle.state.specs.Does.{Aside, Others, Says, Resets, is_second, place_in, with_setting, with_second, with_own, with_modes, with_externals, with_table}
use Rattle.state.proofs.IdLaws.{between-one}
use Rattle.state.proofs.ListLaws.{length-more, below-append, find-row, row_of, below-row, first-below}
use Rattle.state.proofs.HintLaws.{agrees-set, reached-append}
use Rattle.state.proofs.FrameLaws.{cells-same, cells-then, Beside, beside-set, beside-rows, beside-good, others-kept, good-kept, shows-set}
use Rattle.state.proofs.ImportedLaws.{mapped-mapped}
use Rattle.state.proofs.ForcedLaws.{among-rows}

-- ---- What is read

pub external-told : {t : List ℕ} {a : ℕ} {o : Option ℕ} {b : Bool} → Good t → a < 65536 → b ≡ is_some o → o ≡ first_in a a (rows (table_of externals) t) →
    Says (λ e. among (two a) e.externals) t b
external-told {t} {a} {o} g h f e =
    record {
      is = λ s w.
          f ∙ ap (λ (x : Option ℕ). is_some x) e ∙ sym (among-rows a _ (rows (table_of externals) t) h (g.below externals)) ∙ ap (among (two a)) w.sets.externals;
    }

file-found : (a v : ℕ) (l : List Row) → a < 65536 → Below 65536 v l → file_of (two a) (map lent_of l) ≡ mapped (λ i. (row_of l i).1) (first_in a a l)
unfolding file_of row_for
file-found a v l h b =
    ap (mapped (λ (r : LentRow). r.file))
    (find-row (λ (r : LentRow). same r.source (two a)) lent_of a a 65536 v (λ r k. same-two r.0 a k h ∙ sym (between-one a r.0)) l b)
    ∙ mapped-mapped (λ (r : LentRow). r.file) (λ i. lent_of (row_of l i)) (first_in a a l)

pub file-told : {t : List ℕ} {a : ℕ} {o : Option ℕ} → Good t → a < 65536 → o ≡ first_in a a (rows (table_of table) t) →
    Says (λ e. file_of (two a) e.table) t (mapped (λ i. (row_of (rows (table_of table) t) i).1) o)
file-told {t} {a} {o} g h e =
    record {
      is = λ s w.
          ap (mapped (λ i. (row_of (rows (table_of table) t) i).1)) e ∙ sym (file-found a _ (rows (table_of table) t) h (g.below table))
          ∙ ap (file_of (two a)) w.sets.table;
    }

-- a file's number fits two bytes
pub file-small : (a : ℕ) {t : List ℕ} {i n : ℕ} → Good t → first_in a a (rows (table_of table) t) ≡ Some i → n ≡ (row_of (rows (table_of table) t) i).1 → n < 65536
file-small a {t} {i} g f e = let b = (below-row _ _ (rows (table_of table) t) i (g.below table) (first-below a a (rows (table_of table) t) i f)).1 in omega arith

-- the place in the tree that the pass walks
pub place-second : {t : List ℕ} (at : ℕ) → Says (λ e. is_second e.pass) t true → Says (λ e. place_in e.pass at) t (65536 + at % 65536)
place-second at h = record { is = λ {x} s w. by x.setting.pass (h.is s w) }
  where
    by : (p : Pass) → true ≡ is_second p → 65536 + at % 65536 ≡ place_in p at
    by first e = absurd (cc)
    by second e = refl

pub place-first : {t : List ℕ} (at : ℕ) → Says (λ e. is_second e.pass) t false → Says (λ e. place_in e.pass at) t (at % 65536)
place-first at h = record { is = λ {x} s w. by x.setting.pass (h.is s w) }
  where
    by : (p : Pass) → false ≡ is_second p → at % 65536 ≡ place_in p at
    by first e = refl
    by second e = absurd (cc)

-- ---- A cell is set

abbrev to_second : Setting → Setting
to_second e = record { pass = second; own = e.own; config = e.config; externals = e.externals; table = e.table }

abbrev to_own : ℕ → Setting → Setting
to_own n e = record { pass = e.pass; own = n; config = e.config; externals = e.externals; table = e.table }

abbrev to_modes : Modes → Setting → Setting
to_modes m e = record { pass = e.pass; own = e.own; config = m; externals = e.externals; table = e.table }

abbrev to_externals : List (List ℕ) → Setting → Setting
to_externals l e = record { pass = e.pass; own = e.own; config = e.config; externals = l; table = e.table }

abbrev to_table : List LentRow → Setting → Setting
to_table l e = record { pass = e.pass; own = e.own; config = e.config; externals = e.externals; table = l }

module _ {t : List ℕ} (i v : ℕ) (g : Good t) (p : pass_cell ≤ i) (q : i < 21074) where
  beside : Beside i
  beside = beside-set i p (omega arith)

  set-rows : (k : Kind) → rows (table_of k) (set t i v) ≡ rows (table_of k) t
  set-rows = beside-rows i v g beside

  -- the lists are kept
  cells-set : {e : Setting} (m : Pass) (o : ℕ) (c : Modes) → Sets e t → get_or (set t i v) pass_cell 0 ≡ pass_flag m → get_or (set t i v) own_cell 0 ≡ o →
      get_or (set t i v) require_cell 0 ≡ flag c.require → Sets (record { pass = m; own = o; config = c; externals = e.externals; table = e.table }) (set t i v)
  cells-set m o c w x y z =
      record {
        externals = ap (map atom_of) (set-rows externals) ∙ w.externals;
        table = ap (map lent_of) (set-rows table) ∙ w.table;
        pass = x;
        own = y;
        require = z;
      }

  pub set-good : get_or (set t i v) own_cell 0 < 65536 → Good (set t i v)
  set-good = beside-good i v g beside (agrees-set t i v (λ h b e. omega arith) (λ h b e. omega arith))

  set-resets : (f : Setting → Setting) → ((e : Setting) → Sets e t → Sets (f e) (set t i v)) → Resets (with_setting f) t (set t i v)
  set-resets f k =
      record {
        shows = λ {x} s w. shows-set w f (λ m a b. set-rows m) (get_or-set_other t i top_cell v 0 (λ e. omega arith)) (k x.setting w.sets);
      }

pub second-set : {t : List ℕ} → Good t → Resets with_second t (set t pass_cell 1)
second-set {t} g =
    let size = g.size in
    let c = get_or-set_other t pass_cell own_cell 1 0 (λ e. omega arith) in
    set-resets pass_cell 1 g (omega arith) (omega arith) to_second (λ e w.
    cells-set pass_cell 1 g (omega arith) (omega arith) second e.own e.config w (get_or-set_same t pass_cell 1 0 (omega arith)) (c ∙ w.own)
    (get_or-set_other t pass_cell require_cell 1 0 (λ z. omega arith) ∙ w.require))

pub second-good : {t : List ℕ} → Good t → Good (set t pass_cell 1)
second-good {t} g =
    let c = get_or-set_other t pass_cell own_cell 1 0 (λ e. omega arith) in
    set-good pass_cell 1 g (omega arith) (omega arith) (let n = g.own_below in omega arith)

pub own-good : {t : List ℕ} (n : ℕ) → n < 65536 → Good t → Good (set t own_cell n)
own-good {t} n h g =
    let size = g.size in
    let c = get_or-set_same t own_cell n 0 (omega arith) in
    set-good own_cell n g (omega arith) (omega arith) (omega arith)

pub modes-good : {t : List ℕ} (m : Modes) → Good t → Good (set t require_cell (flag m.require))
modes-good {t} m g =
    let c = get_or-set_other t require_cell own_cell (flag m.require) 0 (λ e. omega arith) in
    set-good require_cell (flag m.require) g (omega arith) (omega arith) (let n = g.own_below in omega arith)

pub own-set : {t : List ℕ} (n : ℕ) → Good t → Resets (with_own n) t (set t own_cell n)
own-set {t} n g =
    let size = g.size in
    let c = get_or-set_same t own_cell n 0 (omega arith) in
    set-resets own_cell n g (omega arith) (omega arith) (to_own n) (λ e w.
    cells-set own_cell n g (omega arith) (omega arith) e.pass n e.config w (get_or-set_other t own_cell pass_cell n 0 (λ z. omega arith) ∙ w.pass) c
    (get_or-set_other t own_cell require_cell n 0 (λ z. omega arith) ∙ w.require))

pub modes-set : {t : List ℕ} (m : Modes) → Good t → Resets (with_modes m) t (set t require_cell (flag m.require))
modes-set {t} m g =
    let size = g.size in
    let v = flag m.require in
    let c = get_or-set_other t require_cell own_cell v 0 (λ e. omega arith) in
    set-resets require_cell v g (omega arith) (omega arith) (to_modes m) (λ e w.
    cells-set require_cell v g (omega arith) (omega arith) e.pass e.own m w (get_or-set_other t require_cell pass_cell v 0 (λ z. omega arith) ∙ w.pass)
    (c ∙ w.own) (get_or-set_same t require_cell v 0 (omega arith)))

-- ---- A lent list is put into its table

-- what the table k shows by f, with what is left of the list s from i on, is what the list says
pub record Lending {A : Type 0} (k : Kind) (f : Row → A) (said : List ℕ → List A) (s : List ℕ) (i : ℕ) (t₀ t : List ℕ) : Type 0 where
  pub size : length t ≡ length t₀
  pub lent : map f (rows (table_of k) t) ++ said (drop i s) ≡ said s
  pub others : Others k t₀ t

pub lend-start : {A : Type 0} {k : Kind} {f : Row → A} {said : List ℕ → List A} {s t : List ℕ} → rows (table_of k) t ≡ [] → Lending k f said s 0 t t
lend-start {f = f} {said} {s} e =
    record {
      size = refl;
      lent = ap (λ (l : List Row). map f l ++ said s) e;
      others = record { rows_kept = λ m h. refl; cells_kept = cells-same _ };
    }

module _ {A : Type 0} {k : Kind} {f : Row → A} {said : List ℕ → List A} {s t₀ t : List ℕ} {i : ℕ} (l : Lending k f said s i t₀ t) where
  lend-more : {j : ℕ} {t' : List ℕ} (r : Row) → Good t →
      said (drop i s) ≡ f r ∷ said (drop j s) → rows (table_of k) t' ≡ rows (table_of k) t ++ (r ∷ []) → Only (table_of k) t t' → Lending k f said s j t₀ t'
  lend-more {j} {t'} r g d e o =
      let c = others-kept k g o in
      record {
        size = o.size ∙ l.size;
        lent =
            ap (λ (x : List Row). map f x ++ said (drop j s)) e ∙ ap (λ (x : List A). x ++ said (drop j s)) (map-append f (rows (table_of k) t) (r ∷ []))
            ∙ append_assoc (map f (rows (table_of k) t)) (f r ∷ []) (said (drop j s)) ∙ ap (λ (x : List A). map f (rows (table_of k) t) ++ x) (sym d) ∙ l.lent;
        others =
            record {
              rows_kept = λ m h. c.rows_kept m h ∙ l.others.rows_kept m h;
              cells_kept = cells-then l.others.cells_kept c.cells_kept;
            };
      }

  -- hints alone changed
  lend-aside : {m : List ℕ} → Aside t m → length m ≡ length t → Lending k f said s i t₀ m
  lend-aside a e =
      record {
        size = e ∙ l.size;
        lent = ap (λ (x : List Row). map f x ++ said (drop i s)) (a.same_rows k) ∙ l.lent;
        others =
            record {
              rows_kept = λ m h. a.same_rows m ∙ l.others.rows_kept m h;
              cells_kept = cells-then l.others.cells_kept a.same_cells;
            };
      }

  lend-end : said (drop i s) ≡ [] → map f (rows (table_of k) t) ≡ said s
  lend-end e = sym (append-nil (map f (rows (table_of k) t))) ∙ ap (λ (x : List A). map f (rows (table_of k) t) ++ x) (sym e) ∙ l.lent

-- the array stays good
pub external-good : {t t' : List ℕ} {n : ℕ} → Good t → held externals t < 512 → n < 65536 → rows (table_of externals) t' ≡ rows (table_of externals) t ++ ((n, 0) ∷ []) →
    Only (table_of externals) t t' → Good t'
external-good {t} {n = n} g h k e o =
    let l = rows (table_of externals) t in
    let m = length-more l (n, 0) in
    good-kept externals g o e (omega arith) (below-append _ _ l (n, 0) (g.below externals) k (omega arith)) tt

pub row-good : {t t' : List ℕ} {n v : ℕ} → Good t → held table t < 1024 → n < 65536 → v < 65536 → 1024 ≤ held table t + row_hint t (n % 1024) →
    rows (table_of table) t' ≡ rows (table_of table) t ++ ((n, v) ∷ []) → Only (table_of table) t t' → Good t'
row-good {t} {n = n} {v} g h k j b e o =
    let l = rows (table_of table) t in
    let m = length-more l (n, v) in
    good-kept table g o e (omega arith) (below-append _ _ l (n, v) (g.below table) k j)
    (reached-append 1024 (λ y. row_hint t (y % 1024)) 0 l (n, v) (g.hinted table) (omega arith))

-- ---- Externals, two bytes each

atoms-step : (s : List ℕ) (i : ℕ) → Bytes s → i + 2 ≤ length s → atoms_in (drop i s) ≡ two (two_at s i) ∷ atoms_in (drop (i + 2) s)
unfolding atoms_in
atoms-step s i b h =
    let one = drop-cons s i 0 (omega arith) in
    let next = drop-cons s (suc i) 0 (omega arith) in
    let p : suc i ≡ i + 1 = omega arith in
    let q : suc (suc i) ≡ i + 2 = omega arith in
    let e : drop i s ≡ get_or s i 0 ∷ get_or s (i + 1) 0 ∷ drop (i + 2) s = cc in
    ap atoms_in e ∙ ap (λ (a : List ℕ). a ∷ atoms_in (drop (i + 2) s)) (bytes-two (get_or s i 0) (get_or s (i + 1) 0) (b i) (b (i + 1)))

atoms-end : (l : List ℕ) → length l < 2 → atoms_in l ≡ []
unfolding atoms_in
atoms-end [] h = refl
atoms-end (a ∷ []) h = refl
atoms-end (a ∷ (b ∷ l)) h = absurd (omega arith)

module _ {s t₀ t : List ℕ} {i : ℕ} (l : Lending externals atom_of atoms_in s i t₀ t) where
  pub external-more : {j n : ℕ} {t' : List ℕ} → j ≡ i + 2 → Bytes s → i + 2 ≤ length s → Good t → n ≡ two_at s i →
      rows (table_of externals) t' ≡ rows (table_of externals) t ++ ((n, 0) ∷ []) → Only (table_of externals) t t' → Lending externals atom_of atoms_in s j t₀ t'
  external-more {n = n} q b h g e =
      lend-more l (n, 0) g
      (atoms-step s i b h ∙ ap₂ (λ (m x : ℕ). two m ∷ atoms_in (drop x s)) (sym e) (sym q))

  pub externals-lent : length s < i + 2 → Resets (with_externals (atoms_in s)) t₀ t
  externals-lent h =
      let c = l.others.cells_kept in
      record {
        shows = λ q w.
            shows-set w (to_externals (atoms_in s)) (λ m a b. l.others.rows_kept m a) c.top_kept
            (record {
              externals = lend-end l (atoms-end (drop i s) (simp length-drop (omega arith)));
              table = ap (map lent_of) (l.others.rows_kept table refl) ∙ w.sets.table;
              pass = c.pass_kept ∙ w.sets.pass;
              own = c.own_kept ∙ w.sets.own;
              require = c.require_kept ∙ w.sets.require;
            });
      }

-- ---- The table, four bytes to a row

module _ {s t₀ t : List ℕ} {i : ℕ} (l : Lending table lent_of rows_in s i t₀ t) where
  pub row-more : {j n v : ℕ} {m t' : List ℕ} → j ≡ i + 4 → Bytes s → i + 4 ≤ length s → n ≡ two_at s i → v ≡ two_at s (i + 2) →
      Good m → Aside t m → length m ≡ length t →
      rows (table_of table) t' ≡ rows (table_of table) m ++ ((n, v) ∷ []) → Only (table_of table) m t' → Lending table lent_of rows_in s j t₀ t'
  row-more {n = n} {v} {m} p b h e f g a z =
      lend-more (lend-aside l a z) (n, v) g
      (rows-step s i h
      ∙ ap₂ (λ (y : List ℕ) (d : ℕ). record { source = y; file = d } ∷ rows_in (drop (i + 4) s))
      (bytes-two (get_or s i 0) (get_or s (i + 1) 0) (b i) (b (i + 1)) ∙ ap two (sym e)) (sym f)
      ∙ ap (λ (x : ℕ). lent_of (n, v) ∷ rows_in (drop x s)) (sym p))

  pub table-lent : length s < i + 4 → Resets (with_table (rows_in s)) t₀ t
  table-lent h =
      let c = l.others.cells_kept in
      record {
        shows = λ q w.
            shows-set w (to_table (rows_in s)) (λ m a b. l.others.rows_kept m b) c.top_kept
            (record {
              externals = ap (map atom_of) (l.others.rows_kept externals refl) ∙ w.sets.externals;
              table = lend-end l (rows-end s i h);
              pass = c.pass_kept ∙ w.sets.pass;
              own = c.own_kept ∙ w.sets.own;
              require = c.require_kept ∙ w.sets.require;
            });
      }
