-- Records: the source of the one that a search finds, by its first namespace or by a namespace that it holds.
use Rattle.std.specs.Prelude.{Option, None, Some}
use Prim.Native.Nat.{ℕ, zero, suc, ◌+◌, ◌-◌, ◌/◌, ◌%◌, ◌≤◌, ◌<◌}
use native.Mathlib.Omega.{arith}
use mathlib.Core.Path.{◌≡◌, refl, sym, ap, ap₂, subst, ◌∙◌}
use mathlib.Core.Bool.{Bool, true, false, ◌&&◌, ◌||◌, and-true}
use mathlib.Core.List.{List, map, map-map}
use lib.Dec.{eqb}
use lib.ListN.{length, get_or, length-map}
use borrow.Author.Tests.{le-leb, lt-leb, leb-true, eqb-true, eqb-false, eq-eqb, ne_eqb}
use Rattle.tree.proofs.Table.{both-true}
use Rattle.scope.specs.Id.{local}
use Rattle.tables.specs.Rows.{Row, rows, between, flip, first_in, NoneBefore, least_of}
use Rattle.tables.proofs.RowLaws.{get_d_map}
use Rattle.tree.specs.Layout.{two, four, same, name_of, context_of, value_of}
use Rattle.tree.specs.Tree.{Field, fixed_of}
use Rattle.tree.proofs.LayoutLaws.{same-two, same-four}
use Rattle.inputs.specs.Lists.{find, mapped}
use Rattle.inputs.specs.Fields.{has, find_field}
use Rattle.extraction_rules.specs.State.{Record, State}
use Rattle.extraction_rules.specs.First.{holds_namespace, suits, used_record}
use Rattle.state.specs.Cells.{Env, id_limit, records, namespaces, table_of, held, Good, id_of, Brief, brief, brief_of, namespace_of, index_of, Shows}
use Rattle.state.specs.Does.{Starts, Tells, range, range_of, source_of, source_at}
use Rattle.state.proofs.IdLaws.{id-name, id-context, between-one}
use Rattle.state.proofs.HintLaws.{none-from}
use Rattle.state.proofs.IndexLaws.{index-map, index-same, index-value, find-index, index-below}

-- ---- The source of the record at a place

abbrev value_in : Row → List ℕ
value_in r = two (r.0 / 4294967296)

sources-shown : {y : Env} {t : List ℕ} {s : State} → Shows y t s →
    map (λ (r : Record). value_of r.literal) s.collected ≡ map value_in (rows (table_of records) t)
unfolding brief brief_of
sources-shown {y} {t} {s} w =
    sym (map-map (λ (b : Brief). b.value) brief s.collected) ∙ ap (map (λ (b : Brief). b.value)) (sym w.collected)
    ∙ map-map (λ (b : Brief). b.value) (brief_of y) (rows (table_of records) t)

placed : (t : List ℕ) (o : Option ℕ) →
    mapped (λ i. get_or (map value_in (rows (table_of records) t)) i (value_in (0, 0))) o ≡ mapped (source_at t) o
unfolding source_at
placed t None = refl
placed t (Some i) = ap Some (get_d_map value_in (rows (table_of records) t) i (0, 0))

pub source-found : {y : Env} {t : List ℕ} {s : State} (p : Record → Bool) (o : Option ℕ) → Shows y t s → o ≡ index_of p s.collected →
    mapped (source_at t) o ≡ source_of (find p s.collected)
source-found {y} {t} {s} p o w e =
    sym (placed t o) ∙ ap (mapped (λ i. get_or (map value_in (rows (table_of records) t)) i (value_in (0, 0)))) e
    ∙ ap (λ (l : List (List ℕ)). mapped (λ i. get_or l i (value_in (0, 0))) (index_of p s.collected)) (sym (sources-shown w))
    ∙ sym (find-index p (λ (r : Record). value_of r.literal) (value_in (0, 0)) s.collected)

-- as many records as rows
pub held-shown : {y : Env} {t : List ℕ} {s : State} → Shows y t s → held records t ≡ length s.collected
held-shown {y} {t} {s} w = sym (length-map (rows (table_of records) t) (brief_of y)) ∙ ap length w.collected ∙ length-map s.collected brief

-- ---- The first that holds a namespace

holder-below : {y : Env} {t : List ℕ} {s : State} {id i : ℕ} → Shows y t s → id < id_limit → Some i ≡ least_of id (rows (table_of namespaces) t) → i < held records t
holder-below {s = s} {id} {i} w h e =
    let b = index-below (holds_namespace (id_of id)) s.collected i (sym (e ∙ w.holders id h)) in
    let n = held-shown w in
    omega arith

-- no place past the records is shown
pub holder-past : (x : List ℕ) {t : List ℕ} {id i : ℕ} → id < id_limit → Some i ≡ least_of id (rows (table_of namespaces) t) → held records t ≤ i →
    Tells (λ s. source_of (find (holds_namespace x) s.collected)) t None
holder-past x h e p = record { is = λ s w. absurd (let b = holder-below w h e in omega arith) }

pub holder-told : {t x : List ℕ} {id : ℕ} {o : Option ℕ} → id_of id ≡ x → id < id_limit → o ≡ least_of id (rows (table_of namespaces) t) →
    Tells (λ s. source_of (find (holds_namespace x) s.collected)) t (mapped (source_at t) o)
holder-told {t} {x} {id} {o} n h e =
    record { is = λ s w. source-found (holds_namespace x) o w (e ∙ w.holders id h ∙ ap (λ (y : List ℕ). index_of (holds_namespace y) s.collected) n) }

-- ---- The first whose first namespace suits

suits_first : ℕ → List ℕ → Option (List ℕ) → Bool
suits_first own i None = false
suits_first own i (Some x) = same (name_of x) (name_of i) && (same (context_of i) (four (local own)) || same (context_of i) (context_of x))

suits-first : (own : ℕ) (i : List ℕ) (o : Option Field) → suits own i o ≡ suits_first own i (mapped fixed_of o)
unfolding suits_first
suits-first own i None = refl
suits-first own i (Some f) = refl

bools : (a b : Bool) → (a ≡ true → b ≡ true) → (b ≡ true → a ≡ true) → a ≡ b
bools true b f g = sym (f refl)
bools false true f g = g refl
bools false false f g = refl

pub same-name : (m n : ℕ) → m < id_limit → n < id_limit → same (name_of (id_of m)) (name_of (id_of n)) ≡ eqb (m / 4294967296) (n / 4294967296)
same-name m n a b = ap₂ same (id-name m) (id-name n) ∙ same-two (m / 4294967296) (n / 4294967296) (omega arith) (omega arith)

same-context : (m n : ℕ) → n < 4294967296 → same (context_of (id_of m)) (four n) ≡ eqb (m % 4294967296) n
same-context m n b = ap (λ (x : List ℕ). same x (four n)) (id-context m) ∙ same-four (m % 4294967296) n (omega arith) b

-- all ids of one name
pub name-range : (m n : ℕ) → eqb (m / 4294967296) (n / 4294967296) ≡ between (n - n % 4294967296) (n - n % 4294967296 + 4294967295) m
name-range m n =
    bools _ _
    (λ e.
    let h = eqb-true (m / 4294967296) (n / 4294967296) e in
    let lo : n - n % 4294967296 ≤ m = omega arith in
    let hi : m ≤ n - n % 4294967296 + 4294967295 = omega arith in
    ap₂ ◌&&◌ (le-leb (n - n % 4294967296) m lo) (le-leb m (n - n % 4294967296 + 4294967295) hi))
    (λ e.
    let h = both-true _ _ e in
    let lo = leb-true (n - n % 4294967296) m h.0 in
    let hi = leb-true m (n - n % 4294967296 + 4294967295) h.1 in
    eq-eqb (m / 4294967296) (n / 4294967296) (omega arith))

between-suc : (lo hi m : ℕ) → between lo hi m ≡ between (lo + 1) (hi + 1) (suc m)
between-suc lo hi m =
    bools _ _
    (λ e.
    let h = both-true _ _ e in
    let p = leb-true lo m h.0 in
    let q = leb-true m hi h.1 in
    ap₂ ◌&&◌ (le-leb (lo + 1) (suc m) (omega arith)) (le-leb (suc m) (hi + 1) (omega arith)))
    (λ e.
    let h = both-true _ _ e in
    let p = leb-true (lo + 1) (suc m) h.0 in
    let q = leb-true (suc m) (hi + 1) h.1 in
    ap₂ ◌&&◌ (le-leb lo m (omega arith)) (le-leb m hi (omega arith)))

-- in the own local context: the name alone
suits-name : (own id n : ℕ) → id < id_limit → n < 281474976710657 → id % 4294967296 ≡ local own →
    suits_first own (id_of id) (namespace_of n) ≡ between (id - id % 4294967296 + 1) (id - id % 4294967296 + 4294967296) n
unfolding suits_first
suits-name own id zero a b e = sym (rw (lt-leb (id - id % 4294967296 + 1) zero (omega arith)))
suits-name own id (suc m) a b e =
    let hi : id - id % 4294967296 + 4294967295 + 1 ≡ id - id % 4294967296 + 4294967296 = omega arith in
    ap₂ (λ (x y : Bool). x && (y || same (context_of (id_of id)) (context_of (id_of m)))) (same-name m id (omega arith) a)
    (same-context id (local own) (omega arith) ∙ eq-eqb (id % 4294967296) (local own) e)
    ∙ and-true _ ∙ name-range m id ∙ between-suc (id - id % 4294967296) (id - id % 4294967296 + 4294967295) m
    ∙ ap (λ (x : ℕ). between (id - id % 4294967296 + 1) x (suc m)) hi

-- else: the id itself
suits-id : (own id n : ℕ) → own < 65536 → id < id_limit → n < 281474976710657 → (id % 4294967296 ≡ local own → ⊥) →
    suits_first own (id_of id) (namespace_of n) ≡ between (id + 1) (id + 1) n
unfolding suits_first
suits-id own id zero o a b e = sym (rw (lt-leb (id + 1) zero (omega arith)))
suits-id own id (suc m) o a b e =
    ap₂ (λ (x y : Bool). x && (y || same (context_of (id_of id)) (context_of (id_of m)))) (same-name m id (omega arith) a)
    (same-context id (local own) (omega arith) ∙ ne_eqb (id % 4294967296) (local own) e)
    ∙ ap (λ (x : Bool). eqb (m / 4294967296) (id / 4294967296) && x)
    (ap (same (context_of (id_of id))) (id-context m) ∙ same-context id (m % 4294967296) (omega arith))
    ∙ bools _ _
    (λ f.
    let h = both-true _ _ f in
    let p = eqb-true (m / 4294967296) (id / 4294967296) h.0 in
    let q = eqb-true (id % 4294967296) (m % 4294967296) h.1 in
    eq-eqb m id (omega arith))
    (λ f.
    let h = eqb-true m id f in
    ap₂ ◌&&◌ (eq-eqb (m / 4294967296) (id / 4294967296) (omega arith)) (eq-eqb (id % 4294967296) (m % 4294967296) (omega arith)))
    ∙ sym (between-one id m) ∙ between-suc id id m

module _ {t : List ℕ} (g : Good t) (own id lo hi : ℕ) (h : (n : ℕ) → n < 281474976710657 → suits_first own (id_of id) (namespace_of n) ≡ between lo hi n) where
  used-index : {y : Env} (s : State) → Shows y t s →
      first_in lo hi (map flip (rows (table_of records) t)) ≡ index_of (λ r. suits own (id_of id) (find_field (has 0x22) r.specifiers)) s.collected
  unfolding brief brief_of
  used-index {y} s w =
      let q : Brief → Bool = λ b. suits_first own (id_of id) b.namespace in
      sym (index-value (λ (n : ℕ). suits_first own (id_of id) (namespace_of n)) lo hi _ _ h (rows (table_of records) t) (g.below records))
      ∙ index-map q (brief_of y) (rows (table_of records) t) ∙ ap (index_of q) w.collected ∙ sym (index-map q brief s.collected)
      ∙ index-same _ _ (λ (r : Record). sym (suits-first own (id_of id) (find_field (has 0x22) r.specifiers))) s.collected

  used-by : {o : Option ℕ} → o ≡ first_in lo hi (map flip (rows (table_of records) t)) →
      Tells (λ s. source_of (used_record own (id_of id) s.collected)) t (mapped (source_at t) o)
  unfolding used_record
  used-by {o} e = record { is = λ s w. source-found (λ r. suits own (id_of id) (find_field (has 0x22) r.specifiers)) o w (e ∙ used-index s w) }

used-name : (own id : ℕ) {t x : List ℕ} {o : Option ℕ} → Good t → id_of id ≡ x → id < id_limit → id % 4294967296 ≡ local own →
    o ≡ first_in (id - id % 4294967296 + 1) (id - id % 4294967296 + 4294967296) (map flip (rows (table_of records) t)) →
    Tells (λ s. source_of (used_record own x s.collected)) t (mapped (source_at t) o)
used-name own id {t} {o = p} g m h e f =
    subst (λ (y : List ℕ). Tells (λ s. source_of (used_record own y s.collected)) t (mapped (source_at t) p)) m (used-by g own id _ _ (λ n b. suits-name own id n h b e) f)

used-id : (own id : ℕ) {t x : List ℕ} {o : Option ℕ} → Good t → own < 65536 → id_of id ≡ x → id < id_limit → (id % 4294967296 ≡ local own → ⊥) →
    o ≡ first_in (id + 1) (id + 1) (map flip (rows (table_of records) t)) → Tells (λ s. source_of (used_record own x s.collected)) t (mapped (source_at t) o)
used-id own id {t} {o = p} g o m h e f =
    subst (λ (y : List ℕ). Tells (λ s. source_of (used_record own y s.collected)) t (mapped (source_at t) p)) m (used-by g own id _ _ (λ n b. suits-id own id n o h b e) f)

-- no first namespace before the hint of an id's name is in either range
named-past : {t : List ℕ} {from id : ℕ} → Starts from id t →
    NoneBefore from (id - id % 4294967296 + 1) (id - id % 4294967296 + 4294967296) (map flip (rows (table_of records) t))
named-past {t} {from} {id} h = none-from _ _ id from (rows (table_of records) t) h.none_named (omega arith) (λ n p q. omega arith)

id-past : {t : List ℕ} {from id : ℕ} → Starts from id t → NoneBefore from (id + 1) (id + 1) (map flip (rows (table_of records) t))
id-past {t} {from} {id} h =
    none-from _ _ id from (rows (table_of records) t) h.none_named (omega arith) (λ n p q. let z : n ≡ id = omega arith in ap (λ (x : ℕ). x / 4294967296) z)

-- either range
pub used-told : (own id : ℕ) {t x : List ℕ} {o : Option ℕ} {r : ℕ × ℕ} → Good t → own < 65536 → id_of id ≡ x → id < id_limit → r ≡ range_of own id →
    o ≡ first_in r.0 r.1 (map flip (rows (table_of records) t)) → Tells (λ s. source_of (used_record own x s.collected)) t (mapped (source_at t) o)
used-told own id {t} {x} {o = p} {r} g o m h z f = by (eqb (id % 4294967296) (local own)) refl z
  where
    searched : {q : ℕ × ℕ} → r ≡ q → p ≡ first_in q.0 q.1 (map flip (rows (table_of records) t))
    searched e = subst (λ (q : ℕ × ℕ). p ≡ first_in q.0 q.1 (map flip (rows (table_of records) t))) e f

    by : (b : Bool) → eqb (id % 4294967296) (local own) ≡ b → r ≡ range b id → Tells (λ s. source_of (used_record own x s.collected)) t (mapped (source_at t) p)
    by true e q = used-name own id g m h (eqb-true (id % 4294967296) (local own) e) (searched q)
    by false e q = used-id own id g o m h (eqb-false (id % 4294967296) (local own) e) (searched q)

pub range-past : (own : ℕ) {t : List ℕ} {from id : ℕ} {r : ℕ × ℕ} → r ≡ range_of own id → Starts from id t → NoneBefore from r.0 r.1 (map flip (rows (table_of records) t))
range-past own {t} {from} {id} z h = subst (λ (q : ℕ × ℕ). NoneBefore from q.0 q.1 (map flip (rows (table_of records) t))) (sym z) (by (eqb (id % 4294967296) (local own)))
  where
    by : (b : Bool) → NoneBefore from (range b id).0 (range b id).1 (map flip (rows (table_of records) t))
    by true = named-past h
    by false = id-past h
