-- Imported ids: the context of one, and the array after one is noted.
use Rattle.std.specs.Prelude.{Option, None, Some, Result, Ok, Err}
use Prim.Native.Nat.{ℕ, zero, ◌≤◌, ◌<◌}
use native.Mathlib.Omega.{arith}
use mathlib.Core.Path.{◌≡◌, refl, sym, ap, subst, ◌∙◌}
use mathlib.Core.Bool.{Bool, true, false, cond}
use mathlib.Core.List.{List, [], ◌∷◌, ◌++◌, map}
use lib.Dec.{eqb}
use lib.ListN.{length, length-map}
use borrow.Author.Tests.{le-leb, lt-leb, eqb-true}
use Rattle.tables.specs.Rows.{Row, rows, next, first_in, with_value}
use Rattle.tables.specs.Only.{Only}
use Rattle.tree.specs.Layout.{four, same}
use Rattle.inputs.specs.Lists.{mapped}
use Rattle.inputs.specs.Outcome.{done, refused}
use Rattle.extraction_rules.specs.State.{Imported, State, room_for, set_imported}
use Rattle.extraction_rules.specs.First.{imported_as, note_in, note_id}
use Rattle.state.specs.Cells.{Env, id_limit, imports, table_of, Below, import_hint, Good, Shows, id_of, imported_of}
use Rattle.state.specs.Does.{Others, Changes, Tells, Did, Anyhow, Acts}
use Rattle.state.specs.declared.TableFull.{TableFull}
use Rattle.state.proofs.IdLaws.{same-id, same-key, between-one}
use Rattle.state.proofs.ListLaws.{below-value, length-value, length-more, row_of, find-row}
use Rattle.state.proofs.HintLaws.{covered-value, distinct-value}
use Rattle.state.proofs.FrameLaws.{room-for, good-kept, changed, shows-imported}

-- ---- A refusal for want of room

pub room-made : (n most p : ℕ) (f : State → State) (s : State) → n ≤ most → room_for n most p f s ≡ done (tt, f s)
room-made n most p f s h = rw (le-leb n most h)

pub room-full : (n most p : ℕ) (f : State → State) (s : State) → most < n → room_for n most p f s ≡ refused 8 p
room-full n most p f s h = rw (lt-leb n most h)

-- ---- The context of an imported id

pub mapped-mapped : {A B C : Type 0} (g : B → C) (f : A → B) (o : Option A) → mapped g (mapped f o) ≡ mapped (λ a. g (f a)) o
mapped-mapped g f None = refl
mapped-mapped g f (Some a) = refl

imported-found : (id v : ℕ) (l : List Row) → id < id_limit → Below id_limit v l →
    imported_as (id_of id) (map imported_of l) ≡ mapped (λ i. four (row_of l i).1) (first_in id id l)
unfolding imported_as
imported-found id v l h b =
    ap (mapped (λ (m : Imported). m.context)) (find-row (λ (m : Imported). same m.id (id_of id)) imported_of id id id_limit v (λ r k. same-key id r.0 h k) l b)
    ∙ mapped-mapped (λ (m : Imported). m.context) (λ i. imported_of (row_of l i)) (first_in id id l)

pub context-told : {t x : List ℕ} {id : ℕ} {o : Option ℕ} → Good t → id_of id ≡ x → id < id_limit → o ≡ first_in id id (rows (table_of imports) t) →
    Tells (λ s. imported_as x s.imported) t (mapped (λ i. four (row_of (rows (table_of imports) t) i).1) o)
context-told {t} {x} {id} {o} g n h e =
    record {
      is = λ s w.
          ap (mapped (λ i. four (row_of (rows (table_of imports) t) i).1)) e
          ∙ sym (imported-found id _ (rows (table_of imports) t) h (g.below imports))
          ∙ ap (imported_as (id_of id)) w.imported ∙ ap (λ (y : List ℕ). imported_as y s.imported) n;
    }

-- ---- One is noted

-- the rows with an id noted, by where it was found
abbrev pub noted : Option ℕ → ℕ → ℕ → List Row → List Row
noted None k c l = l ++ ((k, c) ∷ [])
noted (Some i) k c l = with_value i c l

noted-next : (o : Option ℕ) (k c : ℕ) (r : Row) (l : List Row) → noted (next o) k c (r ∷ l) ≡ r ∷ noted o k c l
unfolding with_value
noted-next None k c r l = refl
noted-next (Some i) k c r l = refl

note-rows : (k c v : ℕ) (l : List Row) → k < id_limit → Below id_limit v l →
    note_in (imported_of (k, c)) (map imported_of l) ≡ map imported_of (noted (first_in k k l) k c l)
unfolding note_in first_in Below with_value
note-rows k c v [] h b = refl
note-rows k c v (r ∷ l) h b =
    ap (λ (x : Bool). cond x (imported_of (k, c) ∷ map imported_of l) (imported_of r ∷ note_in (imported_of (k, c)) (map imported_of l))) (same-id r.0 k b.0 h)
    ∙ by (eqb r.0 k) refl (note-rows k c v l h b.2)
    ∙ ap (λ (x : Bool). map imported_of (noted (cond x (Some zero) (next (first_in k k l))) k c (r ∷ l))) (sym (between-one k r.0))
  where
    by : (x : Bool) → eqb r.0 k ≡ x → note_in (imported_of (k, c)) (map imported_of l) ≡ map imported_of (noted (first_in k k l) k c l) →
        cond x (imported_of (k, c) ∷ map imported_of l) (imported_of r ∷ note_in (imported_of (k, c)) (map imported_of l)) ≡
        map imported_of (noted (cond x (Some zero) (next (first_in k k l))) k c (r ∷ l))
    by true p e = ap (λ (n : ℕ). imported_of (n, c) ∷ map imported_of l) (sym (eqb-true r.0 k p))
    by false p e = ap (λ (m : List Imported). imported_of r ∷ m) e ∙ sym (ap (map imported_of) (noted-next (first_in k k l) k c r l))

module _ {t x : List ℕ} {k c : ℕ} (g : Good t) (i : id_of k ≡ x) (h : k < id_limit) (hc : c < 4294967296) where
  noted-shown : {y : Env} (s : State) → Shows y t s →
      map imported_of (noted (first_in k k (rows (table_of imports) t)) k c (rows (table_of imports) t)) ≡ note_in (imported_of (k, c)) s.imported
  noted-shown s w = sym (note-rows k c _ (rows (table_of imports) t) h (g.below imports)) ∙ ap (note_in (imported_of (k, c))) w.imported

  noted-done : {t' : List ℕ} → rows (table_of imports) t' ≡ noted (first_in k k (rows (table_of imports) t)) k c (rows (table_of imports) t) →
      length (rows (table_of imports) t') ≤ 512 → Others imports t t' → {y : Env} (s : State) (p : ℕ) → Shows y t s → Did y (note_id (imported_of (k, c)) p s) t'
  unfolding note_id
  noted-done {t'} e n o s p w =
      let x = note_in (imported_of (k, c)) s.imported in
      let shown : map imported_of (rows (table_of imports) t') ≡ x = ap (map imported_of) e ∙ noted-shown s w in
      let size : length x ≡ length (rows (table_of imports) t') = sym (ap length shown) ∙ length-map (rows (table_of imports) t') imported_of in
      record {
        state = set_imported x s;
        is = room-made (length x) 512 p (set_imported x) s (omega arith);
        shows = shows-imported w o shown;
      }

  -- the rule that the function acts by
  abbrev Notes : List ℕ → List ℕ → Result Unit TableFull → Type 0
  Notes = Acts Anyhow (λ _. note_id (record { id = x; context = four c }))

  noted-acts : {t' : List ℕ} {o : Option ℕ} → o ≡ first_in k k (rows (table_of imports) t) → length (noted o k c (rows (table_of imports) t)) ≤ 512 →
      Changes imports (noted o k c (rows (table_of imports) t)) t t' → Notes t t' (Ok tt)
  noted-acts {t'} {o} f n d =
      record {
        made = λ m {x = y} s p w u. subst (λ (z : List ℕ). Did y (note_id (record { id = z; context = four c }) p s) t') i
            (noted-done (d.now_rows ∙ ap (λ (x : Option ℕ). noted x k c (rows (table_of imports) t)) f) (rw d.now_rows n) d.others s p w);
        full = λ e m s p w u. absurd (cc);
      }

  -- an id that was imported has another context
  pub noted-again : {t' : List ℕ} {i : ℕ} → Some i ≡ first_in k k (rows (table_of imports) t) → rows (table_of imports) t' ≡ with_value i c (rows (table_of imports) t) →
      Only (table_of imports) t t' → Notes t t' (Ok tt)
  noted-again {t'} {i} f e only =
      let l = rows (table_of imports) t in
      let n = length-value l i c in
      let r = room-for imports g in
      noted-acts {o = Some i} f (omega arith) (changed imports g only e)

  pub noted-good : {t' : List ℕ} (i : ℕ) → rows (table_of imports) t' ≡ with_value i c (rows (table_of imports) t) → Only (table_of imports) t t' → Good t'
  noted-good i e only =
      let l = rows (table_of imports) t in
      let n = length-value l i c in
      let r = room-for imports g in
      good-kept imports g only e (omega arith) (below-value _ _ l i c (g.below imports) hc)
      (covered-value import_hint t l i c (g.hinted imports).0, distinct-value l i c (g.hinted imports).1)

  -- an id that was not is one more
  pub noted-new : {t' : List ℕ} → None ≡ first_in k k (rows (table_of imports) t) → length (rows (table_of imports) t) < 512 →
      Changes imports (rows (table_of imports) t ++ ((k, c) ∷ [])) t t' → Notes t t' (Ok tt)
  noted-new {t'} f m d =
      let n = length-more (rows (table_of imports) t) (k, c) in
      noted-acts {o = None} f (omega arith) d

  note-refused : None ≡ first_in k k (rows (table_of imports) t) → 512 ≤ length (rows (table_of imports) t) → {y : Env} (s : State) (p : ℕ) → Shows y t s →
      note_id (imported_of (k, c)) p s ≡ refused 8 p
  unfolding note_id
  note-refused f m s p w =
      let l = rows (table_of imports) t in
      let x = note_in (imported_of (k, c)) s.imported in
      let shown : map imported_of (l ++ ((k, c) ∷ [])) ≡ x = ap (λ (o : Option ℕ). map imported_of (noted o k c l)) f ∙ noted-shown s w in
      let size : length x ≡ length (l ++ ((k, c) ∷ [])) = sym (ap length shown) ∙ length-map (l ++ ((k, c) ∷ [])) imported_of in
      let n = length-more l (k, c) in
      room-full (length x) 512 p (set_imported x) s (omega arith)

  pub noted-full : {e : TableFull} → None ≡ first_in k k (rows (table_of imports) t) → 512 ≤ length (rows (table_of imports) t) → Notes t t (Err e)
  noted-full f m =
      record {
        made = λ n s p w u. absurd (cc);
        full = λ e n s p w u. ap (λ (z : List ℕ). note_id (record { id = z; context = four c }) p s) (sym i) ∙ note-refused f m s p w;
      }
