-- Usages: whether an id has some, the array after one is appended, and after an id is forgotten.
use Rattle.std.specs.Prelude.{None, Some, Ok, Err, is_some}
use Prim.Native.Nat.{ℕ, ◌+◌, ◌≤◌, ◌<◌}
use native.Mathlib.Omega.{arith}
use mathlib.Core.Path.{◌≡◌, refl, sym, ap, ap₂, subst, ◌∙◌}
use mathlib.Core.Bool.{Bool, true, false, not, cond}
use mathlib.Core.List.{List, [], ◌∷◌, ◌++◌, map, map-append}
use lib.Dec.{eqb}
use lib.ListN.{length, length-map, get_or, drop}
use lib.Seq.{drop-cons}
use borrow.Author.Tests.{eq-eqb, ne_eqb}
use native.Mathlib.Numerals.{add-one}
use Rattle.scope.specs.declared.id.Id.{Id}
use Rattle.tables.specs.Rows.{Row, rows, first_in, without}
use Rattle.tree.specs.Layout.{same}
use Rattle.inputs.specs.Lists.{filter}
use Rattle.inputs.specs.Outcome.{refused}
use Rattle.extraction_rules.specs.State.{Imported, Usage, State, set_usages}
use Rattle.extraction_rules.specs.First.{forget, add_usage}
use Rattle.extraction_rules.specs.Second.{usages_of}
use Rattle.state.specs.Cells.{Env, id_limit, imports, uses, table_of, Below, held, Good, Shows, id_of, id_by, imported_of, usage_of}
use Rattle.state.specs.Does.{Changes, Tells, Turns, Did, Anyhow, Acts, Lists, any}
use Rattle.state.specs.declared.TableFull.{TableFull}
use Rattle.state.proofs.IdLaws.{same-id, same-key}
use Rattle.state.proofs.ListLaws.{length-more, any-row, filter-rows, below-row, row_of}
use Rattle.tables.proofs.RowLaws.{get_d_map}
use Rattle.state.proofs.FrameLaws.{shows-imported, shows-usages}
use Rattle.state.proofs.ImportedLaws.{room-made, room-full}

-- ---- Whether there are some

any-found : (id v : ℕ) (l : List Row) → id < id_limit → Below id_limit v l → any (usages_of (id_of id) (map usage_of l)) ≡ is_some (first_in id id l)
unfolding usages_of
any-found id v l h b = any-row (λ (u : Usage). same u.id (id_of id)) usage_of id id id_limit v (λ r k. same-key id r.0 h k) l b

pub usages-told : {t x : List ℕ} {id : ℕ} {b : Bool} → Good t → id_of id ≡ x → id < id_limit → b ≡ is_some (first_in id id (rows (table_of uses) t)) →
    Tells (λ s. any (usages_of x s.usages)) t b
usages-told {t} {x} {id} g n h e =
    record {
      is = λ s w.
          e ∙ sym (any-found id _ (rows (table_of uses) t) h (g.below uses))
          ∙ ap (λ (l : List Usage). any (usages_of (id_of id) l)) w.usages ∙ ap (λ (y : List ℕ). any (usages_of y s.usages)) n;
    }

-- ---- One more

module _ (k q : ℕ) {t x v : List ℕ} (g : Good t) (i : id_of k ≡ x) (j : id_of q ≡ v) where
  one-usage : usage_of (k, q) ≡ record { id = x; property = v }
  one-usage = ap₂ (λ (a b : List ℕ). record { id = a; property = b }) i j

  usage-done : {t' : List ℕ} → length (rows (table_of uses) t) < 2048 → Changes uses (rows (table_of uses) t ++ ((k, q) ∷ [])) t t' →
      {y : Env} (s : State) (p : ℕ) → Shows y t s → Did y (add_usage (usage_of (k, q)) p s) t'
  unfolding add_usage
  usage-done {t'} n d s p w =
      let l = rows (table_of uses) t in
      let x = s.usages ++ (usage_of (k, q) ∷ []) in
      let shown : map usage_of (rows (table_of uses) t') ≡ x =
      ap (map usage_of) d.now_rows ∙ map-append usage_of l ((k, q) ∷ []) ∙ ap (λ (m : List Usage). m ++ (usage_of (k, q) ∷ [])) w.usages in
      let size = length-more s.usages (usage_of (k, q)) in
      let held : length s.usages ≡ length l = sym (ap length w.usages) ∙ length-map l usage_of in
      record {
        state = set_usages x s;
        is = room-made (length x) 2048 p (set_usages x) s (omega arith);
        shows = shows-usages w d.others shown;
      }

  pub usage-made : {t' : List ℕ} → length (rows (table_of uses) t) < 2048 → Changes uses (rows (table_of uses) t ++ ((k, q) ∷ [])) t t' →
      Acts Anyhow (λ _. add_usage (record { id = x; property = v })) t t' (Ok tt)
  usage-made {t'} n d =
      record {
        made = λ r {x = y} s p w u. subst (λ (a : Usage). Did y (add_usage a p s) t') one-usage (usage-done n d s p w);
        full = λ e r s p w u. absurd (cc);
      }

usage-refused : (u : Usage) {y : Env} {t : List ℕ} (s : State) (p : ℕ) → Shows y t s → 2048 ≤ held uses t → add_usage u p s ≡ refused 8 p
unfolding add_usage
usage-refused u {t = t} s p w n =
    let l = rows (table_of uses) t in
    let x = s.usages ++ (u ∷ []) in
    let size = length-more s.usages u in
    let held : length s.usages ≡ length l = sym (ap length w.usages) ∙ length-map l usage_of in
    room-full (length x) 2048 p (set_usages x) s (omega arith)

pub usage-full : (u : Usage) {t : List ℕ} {e : TableFull} → 2048 ≤ held uses t → Acts Anyhow (λ _. add_usage u) t t (Err e)
usage-full u n =
    record { made = λ r s p w a. absurd (cc); full = λ e r s p w a. usage-refused u s p w n }

-- ---- An id is forgotten

pub forgotten : {t m t' x : List ℕ} {id : ℕ} → Good t → id_of id ≡ x → id < id_limit → Changes uses (without id (rows (table_of uses) t)) t m →
    Changes imports (without id (rows (table_of imports) m)) m t' → Turns (forget x) t t'
unfolding forget
forgotten {t} {m} {t'} {x} {id} g n h d f =
    subst (λ (y : List ℕ). Turns (forget y) t t') n (record {
      shows = λ s w.
          shows-imported (shows-usages w d.others
          (ap (map usage_of) d.now_rows
          ∙
          sym (filter-rows (λ (u : Usage). not (same u.id (id_of id))) usage_of id id_limit _ (λ r k. ap not (same-id r.0 id k h))
          (rows (table_of uses) t) (g.below uses))
          ∙ ap (filter (λ (u : Usage). not (same u.id (id_of id)))) w.usages)) f.others
          (ap (map imported_of) (f.now_rows ∙ ap (without id) (d.others.rows_kept imports refl))
          ∙ sym (filter-rows (λ (u : Imported). not (same u.id (id_of id))) imported_of id id_limit _ (λ r k. ap not (same-id r.0 id k h)) (rows (table_of imports) t) (g.below imports))
          ∙ ap (filter (λ (u : Imported). not (same u.id (id_of id)))) w.imported);
    })

-- ---- The usages one by one

-- the number of a property
pub property-small : {t : List ℕ} {i n : ℕ} → Good t → i < held uses t → n ≡ (row_of (rows (table_of uses) t) i).1 → n < id_limit
property-small {t} {i} g b e = let k = (below-row _ _ (rows (table_of uses) t) i (g.below uses) b).1 in omega arith

module _ {id i : ℕ} {t x : List ℕ} (g : Good t) (a : id_of id ≡ x) (h : id < id_limit) (b : i < held uses t) where
  usages-onward : {y : Env} (s : State) → Shows y t s → drop i s.usages ≡ usage_of (row_of (rows (table_of uses) t) i) ∷ drop (i + 1) s.usages
  usages-onward s w =
      let l = rows (table_of uses) t in
      let n : length s.usages ≡ length l = sym (ap length w.usages) ∙ length-map l usage_of in
      drop-cons s.usages i (usage_of (0, 0)) (omega arith)
      ∙ ap₂ (λ (u : Usage) (j : ℕ). u ∷ drop j s.usages) (ap (λ (m : List Usage). get_or m i (usage_of (0, 0))) (sym w.usages) ∙ get_d_map usage_of l i (0, 0)) (sym (add-one i))

  usage-step : (x : Bool) → same (id_of (row_of (rows (table_of uses) t) i).0) (id_of id) ≡ x → {y : Env} (s : State) → Shows y t s →
      usages_of (id_of id) (drop i s.usages) ≡
      cond x (usage_of (row_of (rows (table_of uses) t) i) ∷ usages_of (id_of id) (drop (i + 1) s.usages)) (usages_of (id_of id) (drop (i + 1) s.usages))
  unfolding usages_of filter
  usage-step x e s w =
      ap (usages_of (id_of id)) (usages-onward s w)
      ∙ ap (λ (y : Bool). cond y (usage_of (row_of (rows (table_of uses) t) i) ∷ usages_of (id_of id) (drop (i + 1) s.usages)) (usages_of (id_of id) (drop (i + 1) s.usages))) e

  key-test : (x : Bool) → eqb (row_of (rows (table_of uses) t) i).0 id ≡ x → same (id_of (row_of (rows (table_of uses) t) i).0) (id_of id) ≡ x
  key-test x e = same-id _ id (below-row _ _ (rows (table_of uses) t) i (g.below uses) b).0 h ∙ e

  pub listed-is : {q : Id} → (row_of (rows (table_of uses) t) i).0 ≡ id → id_by q ≡ id_of (row_of (rows (table_of uses) t) i).1 → Lists x i t (Some q)
  listed-is {q} e f =
      subst (λ (y : List ℕ). Lists y i t (Some q)) a (record {
        is = λ s w.
            usage-step true (key-test true (eq-eqb _ _ e)) s w
            ∙ ap₂ (λ (n : ℕ) (v : List ℕ). record { id = id_of n; property = v } ∷ usages_of (id_of id) (drop (i + 1) s.usages)) e (sym f);
      })

  pub listed-other : ((row_of (rows (table_of uses) t) i).0 ≡ id → ⊥) → Lists x i t None
  listed-other e =
      subst (λ (y : List ℕ). Lists y i t None) a (record { is = λ s w. usage-step false (key-test false (ne_eqb _ _ e)) s w })
