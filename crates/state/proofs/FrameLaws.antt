-- A change of one table keeps the others, and so all of what the array shows but what that table shows. A cell beside the tables keeps them all.
use Prim.Native.Nat.{ℕ, ◌+◌, ◌*◌, ◌≤◌, ◌<◌}
use native.Mathlib.Omega.{arith}
use mathlib.Core.Path.{◌≡◌, refl, sym, ap, subst, ◌∙◌}
use mathlib.Core.Bool.{Bool, true, false, cond, ◌&&◌, ◌||◌}
use mathlib.Core.List.{List, map}
use lib.Dec.{leb, ltb, eqb}
use lib.ListN.{length, get_or, set}
use borrow.Author.Tests.{leb-true, ltb-true, eqb-true}
use Rattle.tree.proofs.Table.{both-true}
use Rattle.scope.specs.Modules.{Modules}
use Rattle.tables.specs.declared.Table.{Table}
use Rattle.tables.specs.Rows.{Row, rows, Lies, least_of}
use Rattle.tables.specs.Only.{Outside, Only, Apart}
use Rattle.tables.proofs.RowLaws.{rows-length}
use Rattle.tables.proofs.OnlyLaws.{SameCells, same-rows, same-lies, apart-same, apart-rows, apart-lies, store-count}
use Rattle.extraction_rules.specs.State.{Record, Imported, Usage, State, Setting, set_imported, set_usages, set_collected, set_lazy, set_forced, set_modules, set_top}
use Rattle.inputs.specs.Lists.{among}
use Rattle.extraction_rules.specs.First.{holds_namespace}
use Rattle.state.specs.Cells.{Kind, imports, uses, records, namespaces, lazies, forces, modules, externals, table, table_of, InLimits, Good, Env}
use Rattle.state.specs.Cells.{top_cell, pass_cell, own_cell, require_cell, cells}
use Rattle.state.specs.Cells.{Sourced, Sets, Shows, id_of, imported_of, usage_of, brief, brief_of, index_of, namespaces_in, sources_in, lazy_of, atom_of, lent_of}
use Rattle.state.specs.Cells.{module_of, flag, Hinted}
use Rattle.state.specs.Does.{one?, CellsKept, Others, Changes, with_setting}
use Rattle.state.proofs.HintLaws.{Agrees, hinted-agree, grows-stays}

-- ---- Tables apart

-- no cell from lo to hi is one of the table
unfoldable pub clear? : Table → ℕ → ℕ → Bool
clear? b lo hi = (ltb b.count lo || leb hi b.count) && (leb (b.base + 2 * b.room) lo || leb hi b.base)

either : {A : Type 0} (x y : Bool) → (x || y) ≡ true → (x ≡ true → A) → (y ≡ true → A) → A
either true y e f g = f refl
either false y e f g = g e

clear : (b : Table) (lo hi : ℕ) → clear? b lo hi ≡ true → (i : ℕ) → lo ≤ i → i < hi → Outside b i
unfolding clear?
clear b lo hi e i p q =
    let h = both-true _ _ e in
    record {
      cell = λ z. either (ltb b.count lo) (leb hi b.count) h.0 (λ u. let w = ltb-true b.count lo u in omega arith) (λ u. let w = leb-true hi b.count u in omega arith);
      row = λ m n.
          either (leb (b.base + 2 * b.room) lo) (leb hi b.base) h.1 (λ u. let w = leb-true (b.base + 2 * b.room) lo u in omega arith)
          (λ u. let w = leb-true hi b.base u in omega arith);
    }

unfoldable pub apart? : Table → Table → Bool
apart? b c = clear? b c.count (c.count + 1) && clear? b c.base (c.base + 2 * c.room)

pub apart-by : (b c : Table) → apart? b c ≡ true → Apart b c
unfolding apart?
apart-by b c e =
    let h = both-true _ _ e in
    record { cell = clear b c.count (c.count + 1) h.0 c.count (omega arith) (omega arith); row = clear b c.base (c.base + 2 * c.room) h.1 }

-- ---- The layout: two kinds are one, or their tables are apart

pub each : (P : Kind → Type 0) → P imports → P uses → P records → P namespaces → P lazies → P forces → P modules → P externals → P table → (k : Kind) → P k
each P a b c d e f g h i imports = a
each P a b c d e f g h i uses = b
each P a b c d e f g h i records = c
each P a b c d e f g h i namespaces = d
each P a b c d e f g h i lazies = e
each P a b c d e f g h i forces = f
each P a b c d e f g h i modules = g
each P a b c d e f g h i externals = h
each P a b c d e f g h i table = i

laid-out : (k m : Kind) → (one? k m || apart? (table_of k) (table_of m)) ≡ true
unfolding apart? clear?
laid-out imports = each _ refl refl refl refl refl refl refl refl refl
laid-out uses = each _ refl refl refl refl refl refl refl refl refl
laid-out records = each _ refl refl refl refl refl refl refl refl refl
laid-out namespaces = each _ refl refl refl refl refl refl refl refl refl
laid-out lazies = each _ refl refl refl refl refl refl refl refl refl
laid-out forces = each _ refl refl refl refl refl refl refl refl refl
laid-out modules = each _ refl refl refl refl refl refl refl refl refl
laid-out externals = each _ refl refl refl refl refl refl refl refl refl
laid-out table = each _ refl refl refl refl refl refl refl refl refl

or-true : (x y : Bool) → (x || y) ≡ true → x ≡ false → y ≡ true
or-true true y e f = absurd (cc)
or-true false y e f = e

pub kinds-apart : (k m : Kind) → one? k m ≡ false → Apart (table_of k) (table_of m)
kinds-apart k m e = apart-by (table_of k) (table_of m) (or-true _ _ (laid-out k m) e)

kind_at : ℕ → Kind
kind_at n =
    cond (eqb n 0) imports (cond (eqb n 1) uses (cond (eqb n 2) records (cond (eqb n 3) namespaces (cond (eqb n 4) lazies (cond (eqb n 5) forces
    (cond (eqb n 6) modules (cond (eqb n 17997) externals table)))))))

kind-at : (k : Kind) → kind_at (table_of k).count ≡ k
unfolding kind_at
kind-at = each _ refl refl refl refl refl refl refl refl refl

kinds-one : (k m : Kind) → one? k m ≡ true → k ≡ m
kinds-one k m e = sym (kind-at k) ∙ ap kind_at (eqb-true _ _ e) ∙ kind-at m

-- ---- Beside the tables stand *top*, the hints, what a pass is set to, and the hints of the lent table

abbrev pub Beside : ℕ → Type 0
Beside i = (k : Kind) → Outside (table_of k) i

top-clear : (k : Kind) → clear? (table_of k) top_cell 8 ≡ true
unfolding clear?
top-clear = each _ refl refl refl refl refl refl refl refl refl

pub beside-top : Beside top_cell
beside-top k = clear (table_of k) top_cell 8 (top-clear k) top_cell (omega arith) (omega arith)

hints-clear : (k : Kind) → clear? (table_of k) 15994 17997 ≡ true
unfolding clear?
hints-clear = each _ refl refl refl refl refl refl refl refl refl

pub beside-hint : (h : ℕ) → h < 2003 → Beside (15994 + h)
beside-hint h b k = clear (table_of k) 15994 17997 (hints-clear k) (15994 + h) (omega arith) (omega arith)

set-clear : (k : Kind) → clear? (table_of k) pass_cell cells ≡ true
unfolding clear?
set-clear = each _ refl refl refl refl refl refl refl refl refl

pub beside-set : (i : ℕ) → pass_cell ≤ i → i < cells → Beside i
beside-set i p q k = clear (table_of k) pass_cell cells (set-clear k) i p q

cells-only : (k : Kind) {t t' : List ℕ} → Only (table_of k) t t' → CellsKept t t'
cells-only k o =
    record {
      top_kept = o.same top_cell (beside-top k);
      pass_kept = o.same pass_cell (beside-set pass_cell (omega arith) (omega arith) k);
      own_kept = o.same own_cell (beside-set own_cell (omega arith) (omega arith) k);
      require_kept = o.same require_cell (beside-set require_cell (omega arith) (omega arith) k);
    }

pub cells-same : (t : List ℕ) → CellsKept t t
cells-same t = record { top_kept = refl; pass_kept = refl; own_kept = refl; require_kept = refl }

pub cells-then : {t m t' : List ℕ} → CellsKept t m → CellsKept m t' → CellsKept t t'
cells-then a b =
    record {
      top_kept = b.top_kept ∙ a.top_kept;
      pass_kept = b.pass_kept ∙ a.pass_kept;
      own_kept = b.own_kept ∙ a.own_kept;
      require_kept = b.require_kept ∙ a.require_kept;
    }

hints_kept : (k : Kind) {t t' : List ℕ} → Only (table_of k) t t' → (m : Kind) (l : List Row) → Hinted m t l → Hinted m t' l
hints_kept k {t} {t'} o =
    hinted-agree t t'
    (record {
      grown = λ h b. grows-stays (o.same (15994 + h) (beside-hint h b k));
      reaching = λ h b. let e = o.same (21074 + h) (beside-set (21074 + h) (omega arith) (omega arith) k) in omega arith;
    })

-- ---- The others

pub others-kept : (k : Kind) {t t' : List ℕ} → Good t → Only (table_of k) t t' → Others k t t'
others-kept k g o =
    record {
      rows_kept = λ m e. apart-rows (kinds-apart k m e) o (g.lies m);
      cells_kept = cells-only k o;
    }

lies-kept : {b : Table} {t t' : List ℕ} → Lies b t → Only b t t' → length (rows b t') ≤ b.room → Lies b t'
lies-kept {b} {t} {t'} l o h =
    let n = rows-length b t' in
    let s = o.size in
    record { ends = let e = l.ends in omega arith; cell = l.cell; held = omega arith }

-- the array stays good where the rows of the table stay inside its room and its limits, and have hints
pub good-kept : (k : Kind) {t t' : List ℕ} {l : List Row} → Good t → Only (table_of k) t t' → rows (table_of k) t' ≡ l → length l ≤ (table_of k).room →
    InLimits k l → Hinted k t l → Good t'
good-kept k {t} {t'} {l} g o e n b f =
    record {
      size = let z = g.size in let s = o.size in omega arith;
      lies = λ m. lies m (one? k m) refl;
      below = λ m. limits m (one? k m) refl;
      hinted = λ m. hints m (one? k m) refl;
      own_below = let b = g.own_below in let e = (cells-only k o).own_kept in omega arith;
    }
  where
    lies : (m : Kind) (x : Bool) → one? k m ≡ x → Lies (table_of m) t'
    lies m true h = subst (λ (x : Kind). Lies (table_of x) t') (kinds-one k m h) (lies-kept (g.lies k) o (rw e n))
    lies m false h = apart-lies (kinds-apart k m h) o (g.lies m)

    limits : (m : Kind) (x : Bool) → one? k m ≡ x → InLimits m (rows (table_of m) t')
    limits m true h = subst (λ (x : Kind). InLimits x (rows (table_of x) t')) (kinds-one k m h) (subst (InLimits k) (sym e) b)
    limits m false h = subst (InLimits m) (sym ((others-kept k g o).rows_kept m h)) (g.below m)

    hints : (m : Kind) (x : Bool) → one? k m ≡ x → Hinted m t' (rows (table_of m) t')
    hints m true h = subst (λ (x : Kind). Hinted x t' (rows (table_of x) t')) (kinds-one k m h) (subst (Hinted k t') (sym e) (hints_kept k o k l f))
    hints m false h = subst (Hinted m t') (sym ((others-kept k g o).rows_kept m h)) (hints_kept k o m (rows (table_of m) t) (g.hinted m))

pub changed : (k : Kind) {t t' : List ℕ} {l : List Row} → Good t → Only (table_of k) t t' → rows (table_of k) t' ≡ l → Changes k l t t'
changed k g o e = record { now_rows = e; others = others-kept k g o }

-- how many rows a good array holds
pub room-for : (k : Kind) {t : List ℕ} → Good t → length (rows (table_of k) t) ≤ (table_of k).room
room-for k {t} g = let n = rows-length (table_of k) t in let h = (g.lies k).held in omega arith

-- ---- A cell beside the tables is stored

abbrev lone : ℕ → Table
lone i = record { count = i; base = 0; room = 0 }

lone-apart : (c : Table) (i : ℕ) → Outside c i → Apart (lone i) c
lone-apart c i o =
    record {
      cell = record { cell = λ e. o.cell (sym e); row = λ p q. omega arith };
      row = λ j p q. record { cell = λ e. o.row (omega arith) (omega arith); row = λ m n. omega arith };
    }

-- only cells beside the tables changed
abbrev pub TablesKept : List ℕ → List ℕ → Type 0
TablesKept t t' = (k : Kind) → SameCells (table_of k) t t'

module _ {t t' : List ℕ} (g : Good t) (o : TablesKept t t') where
  pub aside-rows : (k : Kind) → rows (table_of k) t' ≡ rows (table_of k) t
  aside-rows k = same-rows (o k) (g.lies k)

  pub aside-good : Agrees t t' → get_or t' own_cell 0 < 65536 → Good t'
  aside-good a b =
      record {
        size = let z = g.size in let s = (o imports).size in omega arith;
        lies = λ k. same-lies (o k) (g.lies k);
        below = λ k. subst (InLimits k) (sym (aside-rows k)) (g.below k);
        hinted = λ k. subst (Hinted k t') (sym (aside-rows k)) (hinted-agree t t' a k (rows (table_of k) t) (g.hinted k));
        own_below = b;
      }

module _ {t : List ℕ} (i v : ℕ) (g : Good t) (f : Beside i) where
  stored : TablesKept t (set t i v)
  stored k = apart-same (lone-apart (table_of k) i (f k)) (store-count (lone i) t v)

  pub beside-rows : (k : Kind) → rows (table_of k) (set t i v) ≡ rows (table_of k) t
  beside-rows = aside-rows g stored

  pub beside-good : Agrees t (set t i v) → get_or (set t i v) own_cell 0 < 65536 → Good (set t i v)
  beside-good = aside-good g stored

-- ---- What is shown

pub sets-kept : {e : Setting} {t t' : List ℕ} → rows (table_of externals) t' ≡ rows (table_of externals) t → rows (table_of table) t' ≡ rows (table_of table) t →
    CellsKept t t' → Sets e t → Sets e t'
sets-kept a b c w =
    record {
      externals = ap (map atom_of) a ∙ w.externals;
      table = ap (map lent_of) b ∙ w.table;
      pass = c.pass_kept ∙ w.pass;
      own = c.own_kept ∙ w.own;
      require = c.require_kept ∙ w.require;
    }

module _ {x : Env} {t t' : List ℕ} {s : State} (w : Shows x t s) where
  pub shows-imported : {y : List Imported} → Others imports t t' → map imported_of (rows (table_of imports) t') ≡ y → Shows x t' (set_imported y s)
  shows-imported o e =
      record {
        imported = e;
        usages = ap (map usage_of) (o.rows_kept uses refl) ∙ w.usages;
        collected = ap (map (brief_of x)) (o.rows_kept records refl) ∙ w.collected;
        holders = λ n h. ap (least_of n) (o.rows_kept namespaces refl) ∙ w.holders n h;
        met = ap length (o.rows_kept namespaces refl) ∙ w.met;
        lazy = ap (map (lazy_of x)) (o.rows_kept lazies refl) ∙ w.lazy;
        forced = ap (map atom_of) (o.rows_kept forces refl) ∙ w.forced;
        top = o.cells_kept.top_kept ∙ w.top;
        modules = ap (map module_of) (o.rows_kept modules refl) ∙ w.modules;
        sourced = record { once = w.sourced.once; from = w.sourced.from };
        sets = sets-kept (o.rows_kept externals refl) (o.rows_kept table refl) o.cells_kept w.sets;
      }

  pub shows-usages : {y : List Usage} → Others uses t t' → map usage_of (rows (table_of uses) t') ≡ y → Shows x t' (set_usages y s)
  shows-usages o e =
      record {
        imported = ap (map imported_of) (o.rows_kept imports refl) ∙ w.imported;
        usages = e;
        collected = ap (map (brief_of x)) (o.rows_kept records refl) ∙ w.collected;
        holders = λ n h. ap (least_of n) (o.rows_kept namespaces refl) ∙ w.holders n h;
        met = ap length (o.rows_kept namespaces refl) ∙ w.met;
        lazy = ap (map (lazy_of x)) (o.rows_kept lazies refl) ∙ w.lazy;
        forced = ap (map atom_of) (o.rows_kept forces refl) ∙ w.forced;
        top = o.cells_kept.top_kept ∙ w.top;
        modules = ap (map module_of) (o.rows_kept modules refl) ∙ w.modules;
        sourced = record { once = w.sourced.once; from = w.sourced.from };
        sets = sets-kept (o.rows_kept externals refl) (o.rows_kept table refl) o.cells_kept w.sets;
      }

  pub shows-collected : {y : List Record} → Others records t t' → map (brief_of x) (rows (table_of records) t') ≡ map brief y →
      ((n : ℕ) → index_of (holds_namespace (id_of n)) y ≡ index_of (holds_namespace (id_of n)) s.collected) → namespaces_in y ≡ namespaces_in s.collected →
      ((a : List ℕ) → among a (sources_in s.collected) ≡ true → among a (sources_in y) ≡ true) → Shows x t' (set_collected y s)
  shows-collected o e f n h =
      record {
        imported = ap (map imported_of) (o.rows_kept imports refl) ∙ w.imported;
        usages = ap (map usage_of) (o.rows_kept uses refl) ∙ w.usages;
        collected = e;
        holders = λ i h. ap (least_of i) (o.rows_kept namespaces refl) ∙ w.holders i h ∙ sym (f i);
        met = ap length (o.rows_kept namespaces refl) ∙ w.met ∙ sym n;
        lazy = ap (map (lazy_of x)) (o.rows_kept lazies refl) ∙ w.lazy;
        forced = ap (map atom_of) (o.rows_kept forces refl) ∙ w.forced;
        top = o.cells_kept.top_kept ∙ w.top;
        modules = ap (map module_of) (o.rows_kept modules refl) ∙ w.modules;
        sourced = record { once = w.sourced.once; from = λ a k. h a (w.sourced.from a k) };
        sets = sets-kept (o.rows_kept externals refl) (o.rows_kept table refl) o.cells_kept w.sets;
      }

  pub shows-forced : {y : List (List ℕ)} → Others forces t t' → map atom_of (rows (table_of forces) t') ≡ y → Sourced (set_forced y s) → Shows x t' (set_forced y s)
  shows-forced o e h =
      record {
        imported = ap (map imported_of) (o.rows_kept imports refl) ∙ w.imported;
        usages = ap (map usage_of) (o.rows_kept uses refl) ∙ w.usages;
        collected = ap (map (brief_of x)) (o.rows_kept records refl) ∙ w.collected;
        holders = λ n h. ap (least_of n) (o.rows_kept namespaces refl) ∙ w.holders n h;
        met = ap length (o.rows_kept namespaces refl) ∙ w.met;
        lazy = ap (map (lazy_of x)) (o.rows_kept lazies refl) ∙ w.lazy;
        forced = e;
        top = o.cells_kept.top_kept ∙ w.top;
        modules = ap (map module_of) (o.rows_kept modules refl) ∙ w.modules;
        sourced = h;
        sets = sets-kept (o.rows_kept externals refl) (o.rows_kept table refl) o.cells_kept w.sets;
      }

  pub shows-lazy : {y : List Record} → Others lazies t t' → map (lazy_of x) (rows (table_of lazies) t') ≡ y → Shows x t' (set_lazy y s)
  shows-lazy o e =
      record {
        imported = ap (map imported_of) (o.rows_kept imports refl) ∙ w.imported;
        usages = ap (map usage_of) (o.rows_kept uses refl) ∙ w.usages;
        collected = ap (map (brief_of x)) (o.rows_kept records refl) ∙ w.collected;
        holders = λ n h. ap (least_of n) (o.rows_kept namespaces refl) ∙ w.holders n h;
        met = ap length (o.rows_kept namespaces refl) ∙ w.met;
        lazy = e;
        forced = ap (map atom_of) (o.rows_kept forces refl) ∙ w.forced;
        top = o.cells_kept.top_kept ∙ w.top;
        modules = ap (map module_of) (o.rows_kept modules refl) ∙ w.modules;
        sourced = record { once = w.sourced.once; from = w.sourced.from };
        sets = sets-kept (o.rows_kept externals refl) (o.rows_kept table refl) o.cells_kept w.sets;
      }

  pub shows-modules : {y : Modules} → Others modules t t' → map module_of (rows (table_of modules) t') ≡ y → Shows x t' (set_modules y s)
  shows-modules o e =
      record {
        imported = ap (map imported_of) (o.rows_kept imports refl) ∙ w.imported;
        usages = ap (map usage_of) (o.rows_kept uses refl) ∙ w.usages;
        collected = ap (map (brief_of x)) (o.rows_kept records refl) ∙ w.collected;
        holders = λ n h. ap (least_of n) (o.rows_kept namespaces refl) ∙ w.holders n h;
        met = ap length (o.rows_kept namespaces refl) ∙ w.met;
        lazy = ap (map (lazy_of x)) (o.rows_kept lazies refl) ∙ w.lazy;
        forced = ap (map atom_of) (o.rows_kept forces refl) ∙ w.forced;
        top = o.cells_kept.top_kept ∙ w.top;
        modules = e;
        sourced = record { once = w.sourced.once; from = w.sourced.from };
        sets = sets-kept (o.rows_kept externals refl) (o.rows_kept table refl) o.cells_kept w.sets;
      }

  -- with other settings: the tables of the state are kept
  pub shows-set : (f : Setting → Setting) → ((m : Kind) → one? externals m ≡ false → one? table m ≡ false → rows (table_of m) t' ≡ rows (table_of m) t) →
      get_or t' top_cell 0 ≡ get_or t top_cell 0 → Sets (f x.setting) t' → Shows (with_setting f x) t' s
  unfolding brief_of
  shows-set f o c e =
      record {
        imported = ap (map imported_of) (o imports refl refl) ∙ w.imported;
        usages = ap (map usage_of) (o uses refl refl) ∙ w.usages;
        collected = ap (map (brief_of x)) (o records refl refl) ∙ w.collected;
        holders = λ n h. ap (least_of n) (o namespaces refl refl) ∙ w.holders n h;
        met = ap length (o namespaces refl refl) ∙ w.met;
        lazy = ap (map (lazy_of x)) (o lazies refl refl) ∙ w.lazy;
        forced = ap (map atom_of) (o forces refl refl) ∙ w.forced;
        top = c ∙ w.top;
        modules = ap (map module_of) (o modules refl refl) ∙ w.modules;
        sourced = record { once = w.sourced.once; from = w.sourced.from };
        sets = e;
      }

  pub shows-top : {b : Bool} → ((m : Kind) → rows (table_of m) t' ≡ rows (table_of m) t) → get_or t' top_cell 0 ≡ flag b → Sets x.setting t' → Shows x t' (set_top b s)
  shows-top o c e =
      record {
        imported = ap (map imported_of) (o imports) ∙ w.imported;
        usages = ap (map usage_of) (o uses) ∙ w.usages;
        collected = ap (map (brief_of x)) (o records) ∙ w.collected;
        holders = λ n h. ap (least_of n) (o namespaces) ∙ w.holders n h;
        met = ap length (o namespaces) ∙ w.met;
        lazy = ap (map (lazy_of x)) (o lazies) ∙ w.lazy;
        forced = ap (map atom_of) (o forces) ∙ w.forced;
        top = c;
        modules = ap (map module_of) (o modules) ∙ w.modules;
        sourced = record { once = w.sourced.once; from = w.sourced.from };
        sets = e;
      }
