-- The array after a record got a specifier more: a namespace is one row more, and the record's first where it had none.
use Prim.Native.Nat.{ℕ, ◌+◌, ◌≤◌, ◌<◌}
use native.Mathlib.Omega.{arith}
use mathlib.Core.Path.{◌≡◌, refl, sym, ap, ◌∙◌}
use mathlib.Core.Bool.{Bool, true, false}
use mathlib.Core.List.{List, [], ◌∷◌, ◌++◌, map}
use lib.ListN.{length}
use Rattle.tables.specs.Rows.{rows, least_of, with_value}
use Rattle.tree.specs.Tree.{Field, none, more, fixed_of}
use Rattle.inputs.specs.Lists.{among}
use Rattle.inputs.specs.Fields.{has}
use Rattle.extraction_rules.specs.State.{State, set_collected}
use Rattle.state.specs.Cells.{Env, id_limit, Kind, imports, uses, records, namespaces, lazies, forces, modules, externals, table, table_of, held}
use Rattle.state.specs.Cells.{id_of, imported_of, usage_of, brief, brief_of, lazy_of, atom_of, module_of, flag, namespaces_in, Shows}
use Rattle.state.specs.Does.{one?, CellsKept, Changes, extend_at, Extends}
use Rattle.state.proofs.ListLaws.{length-more, length-value, row_of}
use Rattle.state.proofs.FrameLaws.{cells-same, cells-then, sets-kept, shows-collected}
use Rattle.state.proofs.RecordLaws.{held-shown}
use Rattle.state.proofs.SourcedLaws.{sourced-collected, extend_at-sources}
use Rattle.state.proofs.NamespaceLaws.{namespaces-extended, holders-extended, brief-other, brief-again, briefs-first, briefs-kept, holders-other}

-- all tables but records and namespaces are kept
record Rest (t t' : List ℕ) : Type 0 where
  rest : (m : Kind) → one? records m ≡ false → one? namespaces m ≡ false → rows (table_of m) t' ≡ rows (table_of m) t
  cells_rest : CellsKept t t'

module _ (k i : ℕ) {t t' v : List ℕ} (j : id_of k ≡ v) (h : k < id_limit) (b : i < held records t) (o : Rest t t')
    (e : rows (table_of namespaces) t' ≡ rows (table_of namespaces) t ++ ((k, i) ∷ [])) where
  shows-extended : {y : Env} (s : State) (f : Field) → has 0x22 f ≡ true → fixed_of f ≡ v → Shows y t s →
      map (brief_of y) (rows (table_of records) t') ≡ map brief (extend_at i (more f none) s.collected) → Shows y t' (set_collected (extend_at i (more f none) s.collected) s)
  shows-extended {y} s f tag x w c =
      let n = held-shown w in
      let b' : i < length s.collected = omega arith in
      record {
        imported = ap (map imported_of) (o.rest imports refl refl) ∙ w.imported;
        usages = ap (map usage_of) (o.rest uses refl refl) ∙ w.usages;
        collected = c;
        holders = λ m hm. ap (least_of m) e ∙ holders-extended m k i f (rows (table_of namespaces) t) s.collected hm h b' tag (x ∙ sym j) (w.holders m hm);
        met =
            ap length e ∙ length-more (rows (table_of namespaces) t) (k, i) ∙ ap (λ (j : ℕ). j + 1) w.met
            ∙ ap (λ (z : Bool). namespaces_in s.collected + flag z) (sym tag) ∙ sym (namespaces-extended i f s.collected b');
        lazy = ap (map (lazy_of y)) (o.rest lazies refl refl) ∙ w.lazy;
        forced = ap (map atom_of) (o.rest forces refl refl) ∙ w.forced;
        top = o.cells_rest.top_kept ∙ w.top;
        modules = ap (map module_of) (o.rest modules refl refl) ∙ w.modules;
        sourced = sourced-collected w.sourced (λ a d. ap (among a) (extend_at-sources i (more f none) s.collected) ∙ d);
        sets = sets-kept (o.rest externals refl refl) (o.rest table refl refl) o.cells_rest w.sets;
      }

module _ {k i : ℕ} {t m v : List ℕ} (j : id_of k ≡ v) (h : k < id_limit) (b : i < held records t) (d : Changes namespaces (rows (table_of namespaces) t ++ ((k, i) ∷ [])) t m) where
  pub met-records : rows (table_of records) m ≡ rows (table_of records) t
  met-records = d.others.rows_kept records refl

  -- the record had a namespace
  pub extended-again : ((row_of (rows (table_of records) m) i).1 ≡ 0 → ⊥) → Extends i v t m
  extended-again z =
      record {
        kept = ap length met-records;
        shows = λ {y} s f tag x full w.
            shows-extended k i j h b (record { rest = λ c q r. d.others.rows_kept c r; cells_rest = d.others.cells_kept }) d.now_rows s f tag x w
            (briefs-kept y i f (rows (table_of records) m) s.collected (λ q u. brief-again y f (row_of (rows (table_of records) m) i) q u z) (ap (map (brief_of y)) met-records ∙ w.collected));
      }

  -- it is the record's first
  pub extended-first : {t' : List ℕ} → (row_of (rows (table_of records) m) i).1 ≡ 0 → Changes records (with_value i (k + 1) (rows (table_of records) m)) m t' → Extends i v t t'
  extended-first {t'} z u =
      let p = d.others in
      let q = u.others in
      record {
        kept = ap length u.now_rows ∙ length-value (rows (table_of records) m) i (k + 1) ∙ ap length met-records;
        shows = λ {y} s f tag x full w.
            shows-extended k i j h b (record { rest = λ c y e. q.rows_kept c y ∙ p.rows_kept c e; cells_rest = cells-then p.cells_kept q.cells_kept })
            (q.rows_kept namespaces refl ∙ d.now_rows) s f tag x w
            (ap (map (brief_of y)) u.now_rows ∙ briefs-first y i k f (rows (table_of records) m) s.collected tag (x ∙ sym j) (ap (map (brief_of y)) met-records ∙ w.collected) z);
      }

-- there was room: a full table shows no state that asks for more
pub extended-full : (i : ℕ) (x : List ℕ) {t : List ℕ} → 3641 ≤ held namespaces t → Extends i x t t
extended-full i x n = record { kept = refl; shows = λ s f tag e m w. absurd (let k = w.met in omega arith) }

-- a specifier that is no namespace is nothing to the array
pub extended-other : {y : Env} {t : List ℕ} {s : State} (i : ℕ) (f : Field) → has 0x22 f ≡ false → Shows y t s → i < length s.collected →
    Shows y t (set_collected (extend_at i (more f none) s.collected) s)
extended-other {y} {t} {s} i f e w b =
    let n = namespaces-extended i f s.collected b in
    let z : flag (has 0x22 f) ≡ 0 = ap flag e in
    shows-collected w (record { rows_kept = λ m h. refl; cells_kept = cells-same _ })
    (briefs-kept y i f (rows (table_of records) t) s.collected (λ q u. brief-other f q e) w.collected)
    (λ k. holders-other (id_of k) i f s.collected e) (omega arith)
    (λ a d. ap (among a) (extend_at-sources i (more f none) s.collected) ∙ d)
