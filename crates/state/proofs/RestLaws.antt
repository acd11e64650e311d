-- The array after a lazy record is appended and after top is set, and an array of zeros.
use Rattle.std.specs.Prelude.{Ok, Err}
use Prim.Native.Nat.{ℕ, zero, suc, ◌+◌, ◌*◌, ◌%◌, ◌≤◌, ◌<◌}
use native.Mathlib.Omega.{arith}
use mathlib.Core.Path.{◌≡◌, refl, sym, ap, subst, ◌∙◌}
use mathlib.Core.Bool.{Bool, true, false}
use mathlib.Core.List.{List, [], ◌∷◌, ◌++◌, map, map-append}
use lib.ListN.{length, get_or, set, length-map, replicate, length-replicate}
use lib.Seq.{get_or-set_same, get_or-set_other}
use lib.Dec.{eqb}
use Rattle.tables.specs.declared.Table.{Table}
use Rattle.tables.specs.Rows.{rows_from, rows, Lies, least_of}
use Rattle.tables.specs.Only.{Only}
use Rattle.tree.specs.Tree.{Fields}
use Rattle.inputs.specs.Outcome.{refused}
use Rattle.extraction_rules.specs.State.{Record, State, first, Act, start, set_lazy, set_top}
use Rattle.extraction_rules.specs.First.{add_lazy}
use Rattle.state.specs.Cells.{Env, id_limit, place_limit, Kind, imports, uses, records, namespaces, lazies, forces, modules, externals, table, table_of}
use Rattle.state.specs.Cells.{top_cell, pass_cell, own_cell, require_cell}
use Rattle.state.specs.Cells.{cells, InLimits, Below, held, Good, literal_by, imported_of, usage_of, brief_of, lazy_of, atom_of, lent_of, module_of, index_of, flag}
use Rattle.state.specs.Cells.{namespaces_in, Shows, Covered, Distinct, Named, Reached, Hinted}
use Rattle.state.specs.Does.{Turns, Did, Anyhow, Acts}
use Rattle.state.specs.declared.Literal.{Literal}
use Rattle.state.specs.declared.TableFull.{TableFull}
use Rattle.state.proofs.ListLaws.{below-append, length-more}
use Rattle.state.proofs.HintLaws.{agrees-set}
use Rattle.state.proofs.FrameLaws.{each, beside-top, beside-rows, beside-good, others-kept, good-kept, shows-lazy, shows-top}
use Rattle.state.proofs.ImportedLaws.{room-made, room-full}
use Rattle.state.proofs.SourcedLaws.{sourced-start}

-- ---- Lazy records

abbrev lazily : Literal → ℕ → Env → ℕ → Act (Unit {0})
lazily a q y = add_lazy (record { literal = literal_by y a; specifiers = y.bound q })

lazy-length : {y : Env} {t : List ℕ} (s : State) → Shows y t s → length s.lazy ≡ held lazies t
lazy-length {y} {t} s w = sym (ap length w.lazy) ∙ length-map (rows (table_of lazies) t) (lazy_of y)

-- x is the number of a literal
module _ (x : ℕ) (a : Literal) (q : ℕ) (v : x % 4294967296 ≡ a.place) {t : List ℕ} (g : Good t) where
  one-lazy : (y : Env) → lazy_of y (x, q) ≡ record { literal = literal_by y a; specifiers = y.bound q }
  one-lazy y = ap (λ (n : ℕ). record { literal = y.literal n; specifiers = y.bound q }) v

  lazy-done : {t' : List ℕ} → rows (table_of lazies) t' ≡ rows (table_of lazies) t ++ ((x, q) ∷ []) → held lazies t < 1024 → Only (table_of lazies) t t' →
      {y : Env} (s : State) (p : ℕ) → Shows y t s → Did y (add_lazy (lazy_of y (x, q)) p s) t'
  unfolding add_lazy
  lazy-done {t'} e n o {y} s p w =
      let r : Record = lazy_of y (x, q) in
      let l = s.lazy ++ (r ∷ []) in
      let size = length-more s.lazy r in
      let k = lazy-length s w in
      record {
        state = set_lazy l s;
        is = room-made (length l) 1024 p (set_lazy l) s (omega arith);
        shows =
            shows-lazy w (others-kept lazies g o)
            (ap (map (lazy_of y)) e ∙ map-append (lazy_of y) (rows (table_of lazies) t) ((x, q) ∷ []) ∙ ap (λ (m : List Record). m ++ (r ∷ [])) w.lazy);
      }

  pub lazy-good : {t' : List ℕ} → x < id_limit → q < place_limit → rows (table_of lazies) t' ≡ rows (table_of lazies) t ++ ((x, q) ∷ []) →
      held lazies t < 1024 → Only (table_of lazies) t t' → Good t'
  lazy-good h b e n o =
      let m = length-more (rows (table_of lazies) t) (x, q) in
      good-kept lazies g o e (omega arith) (below-append _ _ (rows (table_of lazies) t) (x, q) (g.below lazies) h b) tt

  pub lazy-made : {t' : List ℕ} → rows (table_of lazies) t' ≡ rows (table_of lazies) t ++ ((x, q) ∷ []) →
      held lazies t < 1024 → Only (table_of lazies) t t' → Acts Anyhow (lazily a q) t t' (Ok tt)
  lazy-made {t'} e n o =
      record {
        made = λ r {x = y} s p w u. subst (λ (c : Record). Did y (add_lazy c p s) t') (one-lazy y) (lazy-done e n o s p w);
        full = λ e r s p w u. absurd (cc);
      }

lazy-refused : (r : Record) {y : Env} {t : List ℕ} (s : State) (p : ℕ) → Shows y t s → 1024 ≤ held lazies t → add_lazy r p s ≡ refused 8 p
unfolding add_lazy
lazy-refused r s p w n =
    let l = s.lazy ++ (r ∷ []) in
    let size = length-more s.lazy r in
    let k = lazy-length s w in
    room-full (length l) 1024 p (set_lazy l) s (omega arith)

pub lazy-full : (a : Literal) (q : ℕ) {t : List ℕ} {e : TableFull} → 1024 ≤ held lazies t → Acts Anyhow (lazily a q) t t (Err e)
lazy-full a q n =
    record { made = λ r s p w u. absurd (cc); full = λ e r s p w u. lazy-refused _ s p w n }

-- ---- Top

pub flag-told : (b : Bool) → eqb (flag b) 1 ≡ b
flag-told true = refl
flag-told false = refl

pub top-set : {t : List ℕ} (b : Bool) → Good t → Turns (set_top b) t (set t top_cell (flag b))
top-set {t} b g =
    let f = beside-rows top_cell (flag b) g beside-top in
    let size = g.size in
    let c = get_or-set_other t top_cell own_cell (flag b) 0 (λ e. omega arith) in
    record {
      shows = λ s w.
          shows-top w f (get_or-set_same t top_cell (flag b) 0 (omega arith))
          (record {
            externals = ap (map atom_of) (f externals) ∙ w.sets.externals;
            table = ap (map lent_of) (f table) ∙ w.sets.table;
            pass = get_or-set_other t top_cell pass_cell (flag b) 0 (λ e. omega arith) ∙ w.sets.pass;
            own = c ∙ w.sets.own;
            require = get_or-set_other t top_cell require_cell (flag b) 0 (λ e. omega arith) ∙ w.sets.require;
          });
    }

pub top-good : {t : List ℕ} (b : Bool) → Good t → Good (set t top_cell (flag b))
top-good {t} b g =
    let c = get_or-set_other t top_cell own_cell (flag b) 0 (λ e. omega arith) in
    beside-good top_cell (flag b) g beside-top (agrees-set t top_cell (flag b) (λ h k e. omega arith) (λ h k e. omega arith))
    (let n = g.own_below in omega arith)

-- ---- An array of zeros shows the state at the start of a scope without modules, but for top

abbrev pub unset : (ℕ → List ℕ) → (ℕ → Fields) → Env
unset literal bound =
    record { setting = record { pass = first; own = 0; config = record { require = false }; externals = []; table = [] }; literal = literal; bound = bound }

module _ (t : List ℕ) (n : length t ≡ cells) (z : (i : ℕ) → get_or t i 0 ≡ 0) where
  zero-rows : (k : Kind) → rows (table_of k) t ≡ []
  unfolding rows rows_from
  zero-rows k = ap (λ (c : ℕ). rows_from c (table_of k).base t) (z (table_of k).count)

  zero-lies : (b : Table) → b.base + 2 * b.room ≤ cells → b.count < b.base → Lies b t
  zero-lies b e c = record { ends = omega arith; cell = c; held = let h = z b.count in omega arith }

  nothing-over : (k : Kind) → InLimits k []
  unfolding Below
  nothing-over = each _ tt tt tt tt tt tt tt tt tt

  nothing-hinted : (k : Kind) → Hinted k t []
  unfolding Covered Distinct Named Reached
  nothing-hinted = each _ (tt, tt) tt tt tt tt tt tt tt tt

  zero-good : Good t
  unfolding Below
  zero-good =
      record {
        lies =
            each _ (zero-lies _ (omega arith) (omega arith)) (zero-lies _ (omega arith) (omega arith)) (zero-lies _ (omega arith) (omega arith))
            (zero-lies _ (omega arith) (omega arith)) (zero-lies _ (omega arith) (omega arith)) (zero-lies _ (omega arith) (omega arith))
            (zero-lies _ (omega arith) (omega arith)) (zero-lies _ (omega arith) (omega arith)) (zero-lies _ (omega arith) (omega arith));
        below = λ k. subst (InLimits k) (sym (zero-rows k)) (nothing-over k);
        size = omega arith;
        hinted = λ k. subst (Hinted k t) (sym (zero-rows k)) (nothing-hinted k);
        own_below = let e = z own_cell in omega arith;
      }

  -- what it is set to: the first pass, module 0, no mode, no lent list
  zero-shows : (literal : ℕ → List ℕ) (bound : ℕ → Fields) → Shows (unset literal bound) t (set_top false (start []))
  unfolding least_of index_of namespaces_in
  zero-shows literal bound =
      record {
        imported = ap (map imported_of) (zero-rows imports);
        usages = ap (map usage_of) (zero-rows uses);
        collected = ap (map (brief_of (unset literal bound))) (zero-rows records);
        holders = λ i h. ap (least_of i) (zero-rows namespaces);
        met = ap length (zero-rows namespaces);
        lazy = ap (map (lazy_of (unset literal bound))) (zero-rows lazies);
        forced = ap (map atom_of) (zero-rows forces);
        top = z top_cell;
        modules = ap (map module_of) (zero-rows modules);
        sourced = record { once = (sourced-start []).once; from = (sourced-start []).from };
        sets =
            record {
              externals = ap (map atom_of) (zero-rows externals);
              table = ap (map lent_of) (zero-rows table);
              pass = z pass_cell;
              own = z own_cell;
              require = z require_cell;
            };
      }

zero-at : (n i : ℕ) → ◌≡◌ {A = ℕ} (get_or (replicate n 0) i 0) 0
zero-at zero i = refl
zero-at (suc n) zero = refl
zero-at (suc n) (suc i) = zero-at n i

pub zeros-good : {t : List ℕ} → t ≡ replicate cells 0 → Good t
zeros-good e = subst Good (sym e) (zero-good (replicate cells 0) (length-replicate {A = ℕ} cells 0) (zero-at cells))

pub zeros-show : {t : List ℕ} → t ≡ replicate cells 0 → (literal : ℕ → List ℕ) (bound : ℕ → Fields) → Shows (unset literal bound) t (set_top false (start []))
zeros-show z literal bound =
    subst (λ (t : List ℕ). Shows (unset literal bound) t (set_top false (start []))) (sym z)
    (zero-shows (replicate cells 0) (length-replicate {A = ℕ} cells 0) (zero-at cells) literal bound)
