-- Collecting: the record of a literal's value, found or new, and what its specifiers make of it.
use Rattle.std.specs.Prelude.{Option, None, Some, Ok, Err}
use Prim.Native.Nat.{ℕ, zero, suc, ◌+◌, ◌-◌, ◌/◌, ◌%◌, ◌≤◌, ◌<◌}
use native.Mathlib.Omega.{arith}
use mathlib.Core.Path.{◌≡◌, refl, sym, ap, ap₂, subst, ◌∙◌}
use mathlib.Core.Bool.{Bool, true, false, cond, ◌||◌}
use mathlib.Core.List.{List, [], ◌∷◌, ◌++◌, map, map-append}
use lib.ListN.{length}
use Rattle.tables.specs.Rows.{Row, rows, next, first_in}
use Rattle.tree.specs.Layout.{two, same, value_of}
use Rattle.tree.specs.Tree.{Fields, none}
use Rattle.tree.proofs.LayoutLaws.{same-two}
use Rattle.metadata.specs.Metadata.{append}
use Rattle.inputs.specs.Lists.{among}
use Rattle.inputs.specs.Fields.{find_field}
use Rattle.inputs.specs.Outcome.{done, refused}
use Rattle.extraction_rules.specs.State.{Record, State, set_collected}
use Rattle.extraction_rules.specs.First.{holds_namespace, collect_in, collect}
use Rattle.state.specs.Cells.{Env, id_limit, records, table_of, held, Good, id_of, literal_by, Valued, Brief, brief, brief_of, index_of, namespaces_in, count_namespaces, sources_in, Shows}
use Rattle.state.specs.Does.{Changes, extend_at, Gathered, Collects}
use Rattle.state.specs.declared.Literal.{Literal}
use Rattle.state.specs.declared.TableFull.{TableFull}
use Rattle.state.proofs.ListLaws.{length-more, first-below}
use Rattle.state.proofs.IndexLaws.{index-map, index-row, index-more}
use Rattle.state.proofs.RecordLaws.{name-range, held-shown}
use Rattle.state.proofs.FrameLaws.{room-for, shows-collected}
use Rattle.state.proofs.ImportedLaws.{room-made, room-full}

-- ---- Specifiers of the record at a place

abbrev equal_value : List ℕ → Record → Bool
equal_value x q = same (value_of q.literal) (value_of x)

-- 'the first record of equal source value gets the specifiers'
collect-at : (x : List ℕ) (fs : Fields) (l : List Record) (i : ℕ) → index_of (equal_value x) l ≡ Some i → collect_in (record { literal = x; specifiers = fs }) l ≡ extend_at i fs l
unfolding collect_in index_of extend_at
collect-at x fs [] i e = absurd (cc)
collect-at x fs (q ∷ l) i e = by (equal_value x q) (index_of (equal_value x) l) i (collect-at x fs l) e
  where
    by : (b : Bool) (o : Option ℕ) (j : ℕ) → ((k : ℕ) → o ≡ Some k → collect_in (record { literal = x; specifiers = fs }) l ≡ extend_at k fs l) →
        cond b (Some zero) (next o) ≡ Some j →
        cond b (record { literal = q.literal; specifiers = append q.specifiers fs } ∷ l) (q ∷ collect_in (record { literal = x; specifiers = fs }) l) ≡ extend_at j fs (q ∷ l)
    by true o zero h f = refl
    by true o (suc j) h f = absurd (let z : zero ≡ suc j = cc in omega arith)
    by false None j h f = absurd (cc)
    by false (Some k) zero h f = absurd (let z : suc k ≡ zero = cc in omega arith)
    by false (Some k) (suc j) h f = ap (λ (m : List Record). q ∷ m) (h j (let z : k ≡ j = cc in ap Some z))

-- 'else a new one'
collect-new : (x : List ℕ) (fs : Fields) (l : List Record) → index_of (equal_value x) l ≡ None →
    collect_in (record { literal = x; specifiers = fs }) l ≡ l ++ (record { literal = x; specifiers = fs } ∷ [])
unfolding collect_in index_of
collect-new x fs [] e = refl
collect-new x fs (q ∷ l) e = by (equal_value x q) (index_of (equal_value x) l) (collect-new x fs l) e
  where
    by : (b : Bool) (o : Option ℕ) → (o ≡ None → collect_in (record { literal = x; specifiers = fs }) l ≡ l ++ (record { literal = x; specifiers = fs } ∷ [])) →
        cond b (Some zero) (next o) ≡ None →
        cond b (record { literal = q.literal; specifiers = append q.specifiers fs } ∷ l) (q ∷ collect_in (record { literal = x; specifiers = fs }) l) ≡
        q ∷ (l ++ (record { literal = x; specifiers = fs } ∷ []))
    by true o h f = absurd (cc)
    by false None h f = ap (λ (m : List Record). q ∷ m) (h refl)
    by false (Some k) h f = absurd (cc)

extend-last : (x : List ℕ) (fs : Fields) (l : List Record) →
    extend_at (length l) fs (l ++ (record { literal = x; specifiers = none } ∷ [])) ≡ l ++ (record { literal = x; specifiers = fs } ∷ [])
unfolding extend_at append
extend-last x fs [] = refl
extend-last x fs (q ∷ l) = ap (λ (m : List Record). q ∷ m) (extend-last x fs l)

pub length-extend : (i : ℕ) (fs : Fields) (l : List Record) → length (extend_at i fs l) ≡ length l
unfolding extend_at
length-extend i fs [] = refl
length-extend zero fs (q ∷ l) = refl
length-extend (suc i) fs (q ∷ l) = ap suc (length-extend i fs l)

-- ---- A record more

namespaces-more : (y : List ℕ) (l : List Record) → namespaces_in (l ++ (record { literal = y; specifiers = none } ∷ [])) ≡ namespaces_in l
unfolding namespaces_in count_namespaces
namespaces-more y [] = refl
namespaces-more y (q ∷ l) = ap (λ (n : ℕ). count_namespaces q.specifiers + n) (namespaces-more y l)

sources-more : (y : List ℕ) (l : List Record) (a : List ℕ) → among a (sources_in l) ≡ true → among a (sources_in (l ++ (record { literal = y; specifiers = none } ∷ []))) ≡ true
unfolding among
sources-more y [] a e = absurd (cc)
sources-more y (q ∷ l) a e = by (same a (value_of q.literal)) (sources-more y l a) e
  where
    by : (b : Bool) → (among a (sources_in l) ≡ true → among a (sources_in (l ++ (record { literal = y; specifiers = none } ∷ []))) ≡ true) →
        (b || among a (sources_in l)) ≡ true → (b || among a (sources_in (l ++ (record { literal = y; specifiers = none } ∷ [])))) ≡ true
    by true h f = refl
    by false h f = h f

-- ---- The record that is found

-- x is the number of a literal
module _ (x : ℕ) (l : Literal) (a : x / 4294967296 ≡ l.value.0) (c : x % 4294967296 ≡ l.place) (h : x < id_limit) {t : List ℕ} (g : Good t) where
  value-is : (y : Env) → Valued y l → value_of (literal_by y l) ≡ two (x / 4294967296)
  value-is y v = v ∙ ap two (sym a)

  value-index : {y : Env} {s : State} → Shows y t s → Valued y l →
      first_in (x - x % 4294967296) (x - x % 4294967296 + 4294967295) (rows (table_of records) t) ≡ index_of (equal_value (literal_by y l)) s.collected
  unfolding brief brief_of
  value-index {y} {s} w v =
      let q : Brief → Bool = λ b. same b.value (value_of (literal_by y l)) in
      sym (index-row (λ (r : Row). q (brief_of y r)) _ _ _ _ (λ r k.
      ap (same (two (r.0 / 4294967296))) (value-is y v) ∙ same-two (r.0 / 4294967296) (x / 4294967296) (omega arith) (omega arith) ∙ name-range r.0 x) (rows (table_of records) t)
      (g.below records))
      ∙ index-map q (brief_of y) (rows (table_of records) t) ∙ ap (index_of q) w.collected ∙ sym (index-map q brief s.collected)

  gathered-again : (i : ℕ) → Some i ≡ first_in (x - x % 4294967296) (x - x % 4294967296 + 4294967295) (rows (table_of records) t) →
      {y : Env} (s : State) → Shows y t s → Valued y l → Gathered y (literal_by y l) i s t
  unfolding collect
  gathered-again i e {y} s w v =
      let r = room-for records g in
      let n = held-shown w in
      record {
        list = s.collected;
        shows = w;
        is = λ fs p.
            let m' = collect_in (record { literal = literal_by y l; specifiers = fs }) s.collected in
            let c = collect-at (literal_by y l) fs s.collected i (sym (e ∙ value-index w v)) in
            let m = ap length c ∙ length-extend i fs s.collected in
            room-made (length m') 256 p (set_collected m') s (omega arith) ∙ ap (λ (k : List Record). done (tt, set_collected k s)) c;
      }

  pub collected-again : {i : ℕ} → Some i ≡ first_in (x - x % 4294967296) (x - x % 4294967296 + 4294967295) (rows (table_of records) t) → Collects l t t (Ok i)
  collected-again {i} e =
      record {
        below = λ j p. let z : i ≡ j = cc in let b = first-below _ _ (rows (table_of records) t) i (sym e) in omega arith;
        made = λ j p {y} s w v. let z : i ≡ j = cc in subst (λ (k : ℕ). Gathered y (literal_by y l) k s t) z (gathered-again i e s w v);
        full = λ y p s w v fs q. absurd (cc);
      }

  -- ---- A new record

  brief-new : (y : Env) → Valued y l → brief_of y (x, 0) ≡ brief (record { literal = literal_by y l; specifiers = none })
  unfolding brief brief_of find_field
  brief-new y v = ap₂ (λ (n : List ℕ) (p : ℕ). record { value = n; literal = y.literal p; namespace = None }) (sym (value-is y v)) c

  gathered-new : {t' : List ℕ} → None ≡ first_in (x - x % 4294967296) (x - x % 4294967296 + 4294967295) (rows (table_of records) t) → held records t < 256 →
      Changes records (rows (table_of records) t ++ ((x, 0) ∷ [])) t t' → {y : Env} (s : State) → Shows y t s → Valued y l → Gathered y (literal_by y l) (held records t) s t'
  unfolding collect brief brief_of holds_namespace find_field
  gathered-new {t'} e k d {y} s w v =
      let n = held-shown w in
      let list = s.collected ++ (record { literal = literal_by y l; specifiers = none } ∷ []) in
      record {
        list = list;
        shows =
            shows-collected w d.others
            (ap (map (brief_of y)) d.now_rows ∙ map-append (brief_of y) (rows (table_of records) t) ((x, 0) ∷ [])
            ∙ ap₂ (λ (m : List Brief) (b : Brief). m ++ (b ∷ [])) w.collected (brief-new y v)
            ∙ sym (map-append brief s.collected (record { literal = literal_by y l; specifiers = none } ∷ [])))
            (λ i. index-more (holds_namespace (id_of i)) s.collected (record { literal = literal_by y l; specifiers = none }) refl)
            (namespaces-more (literal_by y l) s.collected) (sources-more (literal_by y l) s.collected);
        is = λ fs p.
            let m' = collect_in (record { literal = literal_by y l; specifiers = fs }) s.collected in
            let c = collect-new (literal_by y l) fs s.collected (sym (e ∙ value-index w v)) in
            let m = ap length c ∙ length-more s.collected (record { literal = literal_by y l; specifiers = fs }) in
            room-made (length m') 256 p (set_collected m') s (omega arith)
            ∙ ap (λ (k : List Record). done (tt, set_collected k s)) (c ∙ sym (extend-last (literal_by y l) fs s.collected) ∙ ap (λ (j : ℕ). extend_at j fs list) (sym n));
      }

  pub collected-new : {t' : List ℕ} {i : ℕ} → i ≡ held records t → None ≡ first_in (x - x % 4294967296) (x - x % 4294967296 + 4294967295) (rows (table_of records) t) →
      held records t < 256 → Changes records (rows (table_of records) t ++ ((x, 0) ∷ [])) t t' → Collects l t t' (Ok i)
  collected-new {t'} {i} c e k d =
      let m = length-more (rows (table_of records) t) (x, 0) in
      let size = ap length d.now_rows in
      record {
        below = λ j p. let z : i ≡ j = cc in omega arith;
        made = λ j p {y} s w v. let z : held records t ≡ j = cc in subst (λ (n : ℕ). Gathered y (literal_by y l) n s t') z (gathered-new e k d s w v);
        full = λ y p s w v fs q. absurd (cc);
      }

  collect-refused : None ≡ first_in (x - x % 4294967296) (x - x % 4294967296 + 4294967295) (rows (table_of records) t) → 256 ≤ held records t →
      {y : Env} (s : State) → Shows y t s → Valued y l → (fs : Fields) (p : ℕ) → collect (record { literal = literal_by y l; specifiers = fs }) p s ≡ refused 8 p
  unfolding collect
  collect-refused e k {y} s w v fs p =
      let n = held-shown w in
      let m' = collect_in (record { literal = literal_by y l; specifiers = fs }) s.collected in
      let m = ap length (collect-new (literal_by y l) fs s.collected (sym (e ∙ value-index w v))) ∙ length-more s.collected (record { literal = literal_by y l; specifiers = fs }) in
      room-full (length m') 256 p (set_collected m') s (omega arith)

  pub collected-full : {z : TableFull} → None ≡ first_in (x - x % 4294967296) (x - x % 4294967296 + 4294967295) (rows (table_of records) t) → 256 ≤ held records t → Collects l t t (Err z)
  collected-full e k =
      record {
        below = λ j p. absurd (cc);
        made = λ j p s w v. absurd (cc);
        full = λ z p s w v fs q. collect-refused e k s w v fs q;
      }
