-- The scope's modules: the rows of their table are a scope's cells; the array after a scope is loaded, a file is requested, a module is marked.
use Rattle.std.specs.Prelude.{Option, None, Some, Result, Ok, Err}
use Prim.Native.Nat.{ℕ, zero, suc, ◌+◌, ◌*◌, ◌/◌, ◌%◌, ◌≤◌, ◌<◌}
use native.Mathlib.Omega.{arith}
use mathlib.Core.Path.{◌≡◌, refl, sym, ap, ap₂, subst, ◌∙◌}
use mathlib.Core.Bool.{Bool, true, false, cond}
use mathlib.Core.List.{List, [], ◌∷◌, ◌++◌, map, map-append}
use lib.Dec.{leb, ltb, eqb}
use lib.ListN.{length, length-map, get_or, set}
use lib.Seq.{get_or-set_same, get_or-set_other}
use borrow.Author.Tests.{leb-true, leb-false, ltb-true, ltb-false, lt-ltb, le-ltb}
use Rattle.scope.specs.Modules.{Module, Modules, next as following, unmarked, place_of, number_of, request_by, request, with_mark, set_mark}
use Rattle.scope.specs.ScopeValue.{module_by, modules_in, Rewrites}
use Rattle.scope.specs.declared.id.ModuleId.{ModuleId}
use Rattle.scope.specs.declared.TooManyFiles.{TooManyFiles}
use Rattle.scope.specs.declared.Mark.{Mark}
use Rattle.scope.specs.declared.Mark.TheVariants.{Loaded, Stored, Cjs, Wrapping}
use Rattle.tables.specs.Rows.{Row, rows_from, rows, next, between, first_in, with_value}
use Rattle.tables.specs.Only.{Outside, Only}
use Rattle.tables.proofs.RowLaws.{from-agree, rows-length}
use Rattle.tables.proofs.OnlyLaws.{only-then, store-count}
use Rattle.inputs.specs.Lists.{mapped}
use Rattle.inputs.specs.Outcome.{Outcome, done}
use Rattle.inputs.specs.Table.{file_of}
use Rattle.extraction_rules.specs.State.{State, set_modules}
use Rattle.extraction_rules.specs.First.{requested, module_of as resolved_by, module_for}
use Rattle.state.specs.Cells.{Env, modules, table_of, Below, held, Good, Reached, module_hint, Shows, module_of}
use Rattle.state.specs.Does.{Changes, HintsModules, Tells, Says, Turns, Gave, Resolves, bit_of}
use Rattle.state.proofs.IdLaws.{between-one, eqb-swap}
use Rattle.state.proofs.ListLaws.{below-value, below-row, length-value, row_of}
use Rattle.state.proofs.HintLaws.{reached-value, reached-from}
use Rattle.state.proofs.FrameLaws.{cells-then, others-kept, good-kept, room-for, shows-modules}

-- ---- The rows are a scope's cells

cells-rows : (k at : ℕ) (t : List ℕ) → map module_of (rows_from k at t) ≡ modules_in k at t
unfolding rows_from modules_in
cells-rows zero at t = refl
cells-rows (suc k) at t = ap (λ (l : Modules). module_of (get_or t at 0, get_or t (at + 1) 0) ∷ l) (cells-rows k (at + 2) t)

pub modules-told : {t : List ℕ} {n : ℕ} {ms : Modules} → n ≡ length (rows (table_of modules) t) → ms ≡ modules_in n 15482 t → Tells (λ s. s.modules) t ms
unfolding rows
modules-told {t} {n} {ms} e f =
    record { is = λ s w. f ∙ ap (λ (k : ℕ). modules_in k 15482 t) (e ∙ rows-length (table_of modules) t) ∙ sym (cells-rows (get_or t 6 0) 15482 t) ∙ w.modules }

-- ---- A scope is loaded

only-cells : {t m : List ℕ} → Rewrites 15482 (15482 + 512) t m → Only (table_of modules) t m
only-cells {t} {m} r = record { size = r.size; same = λ i o. by i o (ltb i 15482) refl (leb 15994 i) refl }
  where
    by : (i : ℕ) → Outside (table_of modules) i → (b : Bool) → ltb i 15482 ≡ b → (c : Bool) → leb 15994 i ≡ c → get_or m i 0 ≡ get_or t i 0
    by i o true p c q = r.below i (ltb-true i 15482 p)
    by i o false p true q = r.above i (leb-true 15994 i q)
    by i o false p false q = absurd (o.row (ltb-false i 15482 p) (leb-false 15994 i q))

rows-loaded : (t : List ℕ) (n : ℕ) → 6 < length t → rows (table_of modules) (set t 6 n) ≡ rows_from n 15482 t
unfolding rows
rows-loaded t n h =
    ap (λ (k : ℕ). rows_from k 15482 (set t 6 n)) (get_or-set_same t 6 n 0 h) ∙ from-agree n 15482 t (set t 6 n) (λ i p q. get_or-set_other t 6 i n 0 (λ z. omega arith))

-- files of two bytes, marks of four bits
cells-below : (k at : ℕ) (t : List ℕ) → ((i : ℕ) → i < k → (get_or t (at + 2 * i) 0 < 65536) × (get_or t (at + 2 * i + 1) 0 < 16)) → Below 65536 16 (rows_from k at t)
unfolding Below rows_from
cells-below zero at t h = tt
cells-below (suc k) at t h =
    let z : at + 2 * 0 ≡ at = omega arith in
    let f : (get_or t at 0 < 65536) × (get_or t (at + 1) 0 < 16) = rw z at (h 0 (omega arith)) in
    (f.0, f.1, cells-below k (at + 2) t (λ i b. let e : at + 2 + 2 * i ≡ at + 2 * suc i = omega arith in rw e (h (suc i) (omega arith))))

module _ {t m : List ℕ} (g : Good t) (r : Rewrites 15482 (15482 + 512) (set t 6 0) m) where
  loading-only : Only (table_of modules) t m
  loading-only = only-then (store-count (table_of modules) t 0) (only-cells r)

  -- before the count is set there is no module
  loading-rows : rows (table_of modules) m ≡ []
  unfolding rows rows_from
  loading-rows = let size = g.size in ap (λ (c : ℕ). rows_from c 15482 m) (r.below 6 (omega arith) ∙ get_or-set_same t 6 0 0 (omega arith))

  pub loading-good : Good m
  unfolding Below Reached
  loading-good = good-kept modules g loading-only loading-rows (omega arith) tt tt

  module _ {k : List ℕ} {n : ℕ} (a : Good k) (h : n ≤ 256) (w : HintsModules n m k) where
    now-loaded : rows (table_of modules) (set k 6 n) ≡ rows_from n 15482 m
    now-loaded = let size = a.size in rows-loaded k n (omega arith) ∙ from-agree n 15482 m k (λ i p q. w.behind.same i (omega arith))

    pub loaded-good : ((i : ℕ) → i < n → (get_or m (15482 + 2 * i) 0 < 65536) × (get_or m (15482 + 2 * i + 1) 0 < 16)) → Good (set k 6 n)
    loaded-good b =
        let size = a.size in
        let c = rows-length (table_of modules) (set k 6 n) in
        let d = get_or-set_same k 6 n 0 (omega arith) in
        let z = ap length now-loaded in
        good-kept modules a (store-count (table_of modules) k n) now-loaded (omega arith) (cells-below n 15482 m b)
        (reached-from 256 (λ y. module_hint k (y % 256)) n 0 15482 m (λ i q. let x = w.hinted i q in omega arith))

    pub modules-loaded : {ms : Modules} → modules_in n 15482 m ≡ ms → Turns (set_modules ms) t (set k 6 n)
    modules-loaded e =
        let o = others-kept modules g loading-only in
        let p = others-kept modules a (store-count (table_of modules) k n) in
        record {
          shows = λ s v.
              shows-modules v
              (record {
                rows_kept = λ y q. p.rows_kept y q ∙ w.aside.same_rows y ∙ o.rows_kept y q;
                cells_kept = cells-then (cells-then o.cells_kept w.aside.same_cells) p.cells_kept;
              }) (ap (map module_of) now-loaded ∙ cells-rows n 15482 m ∙ e);
        }

-- ---- A file is requested

next-same : (o : Option ℕ) → following o ≡ next o
next-same None = refl
next-same (Some n) = refl

same-file : (f n : ℕ) → n < 65536 → eqb f (n % 65536) ≡ between f f n
same-file f n h = let e : n % 65536 ≡ n = omega arith in ap (eqb f) e ∙ eqb-swap f n ∙ sym (between-one f n)

-- the number of a file is the row that the search gives
number-found : (f v : ℕ) (l : List Row) → Below 65536 v l → number_of f (map module_of l) ≡ first_in f f l
unfolding number_of place_of first_in Below
number-found f v [] b = refl
number-found f v (r ∷ l) b =
    ap₂ (λ (x : Bool) (o : Option ℕ). cond x (Some zero) o) (same-file f r.0 b.0)
    (next-same (number_of f (map module_of l)) ∙ ap next (number-found f v l b.2))

given : {x : Env} {o : Outcome (Option ℕ × State)} {k : Option ModuleId} {t : List ℕ} (m : Option ModuleId) → k ≡ m →
    Gave x o (mapped (λ n. n.0) k) t → Gave x o (mapped (λ n. n.0) m) t
given {x = x} {o} {t = t} m e g = subst (λ (k : Option ModuleId). Gave x o (mapped (λ n. n.0) k) t) e g

module _ (f : ℕ) {t : List ℕ} (g : Good t) where
  number-shown : {x : Env} (s : State) → Shows x t s → number_of f s.modules ≡ first_in f f (rows (table_of modules) t)
  number-shown s w = ap (number_of f) (sym w.modules) ∙ number-found f _ (rows (table_of modules) t) (g.below modules)

  modules-held : {x : Env} (s : State) → Shows x t s → length s.modules ≡ held modules t
  modules-held s w = sym (ap length w.modules) ∙ length-map (rows (table_of modules) t) module_of

  -- a file that has a number
  pub request-known : {i : ℕ} (n : ModuleId) → n.0 ≡ i → Some i ≡ first_in f f (rows (table_of modules) t) → Resolves (λ _. resolved_by (Some f)) t t (Ok (Some n))
  unfolding request
  request-known {i} n j e =
      record {
        resolved = λ m q s p w. given m (let z : Some n ≡ m = cc in z) (record {
          state = s;
          is = ap (λ (o : Option ℕ). requested (request_by o f s.modules) p s) (number-shown s w ∙ sym e) ∙ ap (λ (k : ℕ). done (Some k, s)) (sym j);
          shows = w;
        });
        full = λ q r s p w. absurd (cc);
      }

  -- a new file
  pub request-new : {t' : List ℕ} (n : ModuleId) → n.0 ≡ held modules t → f < 65536 → None ≡ first_in f f (rows (table_of modules) t) → held modules t < 256 →
      Changes modules (rows (table_of modules) t ++ ((f, 0) ∷ [])) t t' → Resolves (λ _. resolved_by (Some f)) t t' (Ok (Some n))
  unfolding request
  request-new {t'} n j h e r d =
      let l = rows (table_of modules) t in
      record {
        resolved = λ m q s p w.
            let c = modules-held s w in
            let u : f % 65536 ≡ f = omega arith in
            let ms = s.modules ++ (unmarked f ∷ []) in
            given m (let z : Some n ≡ m = cc in z) (record {
              state = set_modules ms s;
              is =
                  ap (λ (o : Option ℕ). requested (request_by o f s.modules) p s) (number-shown s w ∙ sym e)
                  ∙ ap (λ (b : Bool). requested (cond b (Some (length s.modules, ms)) None) p s) (lt-ltb (length s.modules) 256 (omega arith))
                  ∙ ap (λ (k : ℕ). done (Some k, set_modules ms s)) (c ∙ sym j);
              shows =
                  shows-modules w d.others
                  (ap (map module_of) d.now_rows ∙ map-append module_of l ((f, 0) ∷ []) ∙ ap (λ (x : Modules). x ++ (module_of (f, 0) ∷ [])) w.modules
                  ∙ ap (λ (x : ℕ). s.modules ++ (unmarked x ∷ [])) u);
            });
        full = λ q r s p w. absurd (cc);
      }

  -- a 257th file
  pub request-full : {z : TooManyFiles} → None ≡ first_in f f (rows (table_of modules) t) → 256 ≤ held modules t → Resolves (λ _. resolved_by (Some f)) t t (Err z)
  unfolding request
  request-full e r =
      record {
        resolved = λ m q s p w. absurd (cc);
        full = λ z q s p w.
            let c = modules-held s w in
            ap (λ (o : Option ℕ). requested (request_by o f s.modules) p s) (number-shown s w ∙ sym e)
            ∙
            ap (λ (b : Bool). requested (cond b (Some (length s.modules, s.modules ++ (unmarked f ∷ []))) None) p s)
            (le-ltb (length s.modules) 256 (omega arith));
      }

-- a source for which the table names a file, and one for which it names none
module _ (a : List ℕ) {t : List ℕ} where
  named : (o : Option ℕ) {x : Env} (s : State) (p : ℕ) → Says (λ e. file_of a e.table) t o → Shows x t s → resolved_by o p s ≡ module_for x.setting a p s
  unfolding module_for
  named o s p n w = ap (λ (f : Option ℕ). resolved_by f p s) (n.is s w)

  pub source-resolved : {f : ℕ} {t' : List ℕ} {r : Result (Option ModuleId) TooManyFiles} → Says (λ e. file_of a e.table) t (Some f) → Resolves (λ _. resolved_by (Some f)) t t' r →
      Resolves (λ e. module_for e a) t t' r
  source-resolved {f} n u =
      record {
        resolved = λ m q s p w. let k = u.resolved m q s p w in record { state = k.state; is = sym (named (Some f) s p n w) ∙ k.is; shows = k.shows };
        full = λ z q s p w. sym (named (Some f) s p n w) ∙ u.full z q s p w;
      }

  pub source-unresolved : Says (λ e. file_of a e.table) t None → Resolves (λ e. module_for e a) t t (Ok None)
  source-unresolved n =
      record {
        resolved = λ m q s p w. given m (let z : None ≡ m = cc in z) (record { state = s; is = sym (named None s p n w); shows = w });
        full = λ z q s p w. absurd (cc);
      }

-- ---- A module is marked

-- a number that was not given changes nothing
mark-past : (k : Mark) (i : ℕ) (ms : Modules) → length ms ≤ i → set_mark k i ms ≡ ms
unfolding set_mark
mark-past k i [] h = refl
mark-past k zero (m ∷ ms) h = absurd (omega arith)
mark-past k (suc i) (m ∷ ms) h = ap (λ (l : Modules). m ∷ l) (mark-past k i ms (omega arith))

mark-rows : (k : Mark) (i v : ℕ) (l : List Row) → module_by (row_of l i).0 v ≡ with_mark k (module_of (row_of l i)) →
    map module_of (with_value i v l) ≡ set_mark k i (map module_of l)
unfolding with_value set_mark
mark-rows k i v [] e = refl
mark-rows k zero v (r ∷ l) e = ap (λ (m : Module). m ∷ map module_of l) e
mark-rows k (suc i) v (r ∷ l) e = ap (λ (ms : Modules). module_of r ∷ ms) (mark-rows k i v l e)

mark-kept : (k : Mark) (i : ℕ) (l : List Row) → module_of (row_of l i) ≡ with_mark k (module_of (row_of l i)) → set_mark k i (map module_of l) ≡ map module_of l
unfolding set_mark
mark-kept k i [] e = refl
mark-kept k zero (r ∷ l) e = ap (λ (m : Module). m ∷ map module_of l) (sym e)
mark-kept k (suc i) (r ∷ l) e = ap (λ (ms : Modules). module_of r ∷ ms) (mark-kept k i l e)

module _ (k : Mark) (i : ℕ) {t : List ℕ} (g : Good t) where
  unchanged : set_mark k i (map module_of (rows (table_of modules) t)) ≡ map module_of (rows (table_of modules) t) →
      Turns (λ s. set_modules (set_mark k i s.modules) s) t t
  unchanged e =
      record {
        shows = λ {x = y} s w. subst (λ (ms : Modules). Shows y t (set_modules ms s)) (sym w.modules ∙ sym e ∙ ap (set_mark k i) w.modules) w;
      }

  -- a number that was not given
  pub marked-none : held modules t ≤ i → Turns (λ s. set_modules (set_mark k i s.modules) s) t t
  marked-none h = let n = length-map (rows (table_of modules) t) module_of in unchanged (mark-past k i (map module_of (rows (table_of modules) t)) (omega arith))

  -- a module that has the mark
  pub marked-again : module_of (row_of (rows (table_of modules) t) i) ≡ with_mark k (module_of (row_of (rows (table_of modules) t) i)) →
      Turns (λ s. set_modules (set_mark k i s.modules) s) t t
  marked-again e = unchanged (mark-kept k i (rows (table_of modules) t) e)

  pub marked-new : (v : ℕ) {t' : List ℕ} → rows (table_of modules) t' ≡ with_value i v (rows (table_of modules) t) → Only (table_of modules) t t' →
      module_by (row_of (rows (table_of modules) t) i).0 v ≡ with_mark k (module_of (row_of (rows (table_of modules) t) i)) →
      Turns (λ s. set_modules (set_mark k i s.modules) s) t t'
  marked-new v f o e =
      record {
        shows = λ s w.
            shows-modules w (others-kept modules g o) (ap (map module_of) f ∙ mark-rows k i v (rows (table_of modules) t) e ∙ ap (set_mark k i) w.modules);
      }

pub marked-good : (i v : ℕ) {t t' : List ℕ} → Good t → rows (table_of modules) t' ≡ with_value i v (rows (table_of modules) t) → Only (table_of modules) t t' →
    v < 16 → Good t'
marked-good i v {t} g f o h =
    let l = rows (table_of modules) t in
    let n = length-value l i v in
    let r = room-for modules g in
    good-kept modules g o f (omega arith) (below-value _ _ l i v (g.below modules) h) (reached-value 256 (λ y. module_hint t (y % 256)) 0 i v l (g.hinted modules))

-- a bit that is added changes no other
other-bit : (a b k : ℕ) → a ≡ b + 2 * k → a % 2 ≡ b % 2
other-bit a b k e = rw e (omega arith)

added-bit : (a b : ℕ) → a ≡ b + 1 → b % 2 ≡ 0 → a % 2 ≡ 1
added-bit a b e h = rw e (omega arith)

next-half : (n : ℕ) → n % 2 ≡ 0 → (n + 1) / 2 ≡ n / 2
next-half n h = omega arith

halves : (n : ℕ) → n / 4 ≡ n / 2 / 2
halves n = omega arith

quarters : (n : ℕ) → n / 8 ≡ n / 4 / 2
quarters n = omega arith

bit-added : (k : Mark) (f v : ℕ) → v / bit_of k % 2 ≡ 0 → module_by f (v + bit_of k) ≡ with_mark k (module_by f v)
bit-added Loaded f v h =
    let z : v % 2 ≡ 0 = let y : v / 1 ≡ v = omega arith in omega arith in
    let a = added-bit (v + 1) v refl z in
    let b = next-half v z in
    let c = halves (v + 1) ∙ ap (λ (x : ℕ). x / 2) b ∙ sym (halves v) in
    let d = quarters (v + 1) ∙ ap (λ (x : ℕ). x / 2) c ∙ sym (quarters v) in
    rw (a, b, c, d)
bit-added Stored f v h =
    let a = other-bit (v + 2) v 1 (omega arith) in
    let b = added-bit ((v + 2) / 2) (v / 2) (omega arith) h in
    let e : (v + 2) / 2 ≡ v / 2 + 1 = omega arith in
    let c = halves (v + 2) ∙ ap (λ (x : ℕ). x / 2) e ∙ next-half (v / 2) h ∙ sym (halves v) in
    let d = quarters (v + 2) ∙ ap (λ (x : ℕ). x / 2) c ∙ sym (quarters v) in
    rw (a, b, c, d)
bit-added Cjs f v h =
    let a = other-bit (v + 4) v 2 (omega arith) in
    let b = other-bit ((v + 4) / 2) (v / 2) 1 (omega arith) in
    let c = added-bit ((v + 4) / 4) (v / 4) (omega arith) h in
    let e : (v + 4) / 4 ≡ v / 4 + 1 = omega arith in
    let d = quarters (v + 4) ∙ ap (λ (x : ℕ). x / 2) e ∙ next-half (v / 4) h ∙ sym (quarters v) in
    rw (a, b, c, d)
bit-added Wrapping f v h =
    let a = other-bit (v + 8) v 4 (omega arith) in
    let b = other-bit ((v + 8) / 2) (v / 2) 2 (omega arith) in
    let c = other-bit ((v + 8) / 4) (v / 4) 1 (omega arith) in
    let d = added-bit ((v + 8) / 8) (v / 8) (omega arith) h in
    rw (a, b, c, d)

bit-there : (k : Mark) (f v : ℕ) → (v / bit_of k % 2 ≡ 0 → ⊥) → module_by f v ≡ with_mark k (module_by f v)
bit-there Loaded f v h = let c : v % 2 ≡ 1 = let z : v / 1 ≡ v = omega arith in omega arith in rw c
bit-there Stored f v h = let c : v / 2 % 2 ≡ 1 = omega arith in rw c
bit-there Cjs f v h = let c : v / 4 % 2 ≡ 1 = omega arith in rw c
bit-there Wrapping f v h = let c : v / 8 % 2 ≡ 1 = omega arith in rw c

pub bit-small : (k : Mark) {b : ℕ} → b ≡ bit_of k → (0 < b) × (b ≤ 8)
bit-small Loaded e = (omega arith, omega arith)
bit-small Stored e = (omega arith, omega arith)
bit-small Cjs e = (omega arith, omega arith)
bit-small Wrapping e = (omega arith, omega arith)

-- marks with a bit more are still four bits
bit-fits : (k : Mark) (v : ℕ) → v < 16 → v / bit_of k % 2 ≡ 0 → v + bit_of k < 16
bit-fits Loaded v h e = let z : v / 1 ≡ v = omega arith in omega arith
bit-fits Stored v h e = omega arith
bit-fits Cjs v h e = omega arith
bit-fits Wrapping v h e = omega arith

module _ (k : Mark) (i : ℕ) {t : List ℕ} {b v : ℕ} (g : Good t) (n : i < held modules t) (c : b ≡ bit_of k) (e : v ≡ (row_of (rows (table_of modules) t) i).1) where
  pub mark-there : (v / b % 2 ≡ 0 → ⊥) → Turns (λ s. set_modules (set_mark k i s.modules) s) t t
  mark-there h =
      let r = row_of (rows (table_of modules) t) i in
      marked-again k i g (bit-there k r.0 r.1 (λ z. h (ap₂ (λ (x y : ℕ). x / y % 2) e c ∙ z)))

  module _ {t' : List ℕ} (h : v / b % 2 ≡ 0) (f : rows (table_of modules) t' ≡ with_value i (v + b) (rows (table_of modules) t)) (o : Only (table_of modules) t t') where
    bit-free : (row_of (rows (table_of modules) t) i).1 / bit_of k % 2 ≡ 0
    bit-free = sym (ap₂ (λ (x y : ℕ). x / y % 2) e c) ∙ h

    bit-stored : rows (table_of modules) t' ≡ with_value i ((row_of (rows (table_of modules) t) i).1 + bit_of k) (rows (table_of modules) t)
    bit-stored = f ∙ ap₂ (λ (x y : ℕ). with_value i (x + y) (rows (table_of modules) t)) e c

    pub mark-set : Turns (λ s. set_modules (set_mark k i s.modules) s) t t'
    mark-set = let r = row_of (rows (table_of modules) t) i in marked-new k i g _ bit-stored o (bit-added k r.0 r.1 bit-free)

    pub mark-good : Good t'
    mark-good =
        let r = row_of (rows (table_of modules) t) i in
        marked-good i _ g bit-stored o (bit-fits k r.1 (below-row _ _ (rows (table_of modules) t) i (g.below modules) n).1 bit-free)
