-- A record gets a specifier more: a namespace changes what the array shows of it, another specifier does not.
use Rattle.std.specs.Prelude.{Option, None, Some}
use Prim.Native.Nat.{ℕ, zero, suc, ◌+◌, ◌≤◌, ◌<◌}
use native.Mathlib.Omega.{arith}
use native.Mathlib.Numerals.{add-one}
use mathlib.Core.Path.{◌≡◌, refl, sym, ap, ap₂, ◌∙◌}
use mathlib.Core.Bool.{Bool, true, false, cond, ◌&&◌, ◌||◌, or-true, or-false}
use mathlib.Core.List.{List, [], ◌∷◌, ◌++◌, map}
use lib.Dec.{ltb, eqb}
use lib.ListN.{length}
use borrow.Author.Tests.{ltb-true, ltb-false, lt-ltb, le-ltb}
use Rattle.tables.specs.Rows.{Row, next, lesser, least_of, with_value}
use Rattle.tree.specs.Layout.{same, value_of}
use Rattle.tree.specs.Tree.{Field, Fields, none, more, fixed_of}
use Rattle.metadata.specs.Metadata.{append}
use Rattle.metadata.proofs.EncodeLaws.{append-none, append-rows}
use Rattle.inputs.specs.Lists.{is_some, mapped}
use Rattle.inputs.specs.Fields.{has, find_field}
use Rattle.extraction_rules.specs.State.{Record}
use Rattle.extraction_rules.specs.First.{holds_namespace}
use Rattle.state.specs.Cells.{Env, id_limit, id_of, Brief, brief, brief_of, namespace_of, index_of, flag, count_namespaces, namespaces_in}
use Rattle.state.specs.Does.{extend_at}
use Rattle.state.proofs.IdLaws.{same-id}
use Rattle.state.proofs.ListLaws.{row_of}

-- ---- A specifier behind others

either : {A : Type 0} → Option A → Option A → Option A
either None o = o
either (Some a) o = Some a

find-append : (p : Field → Bool) (fs : Fields) (f : Field) → find_field p (append fs (more f none)) ≡ either (find_field p fs) (cond (p f) (Some f) None)
unfolding find_field append either
find-append p none f = refl
find-append p (more g gs) f = by (p g) (find-append p gs f)
  where
    by : (b : Bool) → find_field p (append gs (more f none)) ≡ either (find_field p gs) (cond (p f) (Some f) None) →
        cond b (Some g) (find_field p (append gs (more f none))) ≡ either (cond b (Some g) (find_field p gs)) (cond (p f) (Some f) None)
    by true e = refl
    by false e = e

count-append : (fs : Fields) (f : Field) → count_namespaces (append fs (more f none)) ≡ count_namespaces fs + flag (has 0x22 f)
unfolding count_namespaces append
count-append none f = omega arith
count-append (more g gs) f = let e = count-append gs f in omega arith

abbrev with : Field → Record → Record
with f r = record { literal = r.literal; specifiers = append r.specifiers (more f none) }

some-either : {A : Type 0} (a b : Option A) → is_some (either a b) ≡ (is_some a || is_some b)
unfolding either
some-either None b = refl
some-either (Some a) b = refl

some-cond : (b : Bool) (f : Field) → is_some (cond b (Some f) None) ≡ b
some-cond true f = refl
some-cond false f = refl

holds-with : (x : List ℕ) (f : Field) (r : Record) → holds_namespace x (with f r) ≡ (holds_namespace x r || (has 0x22 f && same (fixed_of f) x))
unfolding holds_namespace
holds-with x f r =
    let p : Field → Bool = λ g. has 0x22 g && same (fixed_of g) x in
    ap (λ (o : Option Field). is_some o) (find-append p r.specifiers f) ∙ some-either (find_field p r.specifiers) (cond (p f) (Some f) None)
    ∙ ap (λ (b : Bool). is_some (find_field p r.specifiers) || b) (some-cond (p f) f)

-- ---- The records with one extended

pub namespaces-extended : (i : ℕ) (f : Field) (l : List Record) → i < length l → namespaces_in (extend_at i (more f none) l) ≡ namespaces_in l + flag (has 0x22 f)
unfolding namespaces_in extend_at
namespaces-extended i f [] h = absurd (omega arith)
namespaces-extended zero f (r ∷ l) h = let e = count-append r.specifiers f in omega arith
namespaces-extended (suc i) f (r ∷ l) h = let e = namespaces-extended i f l (omega arith) in omega arith

index-kept : (p : Record → Bool) (i : ℕ) (f : Field) (l : List Record) → ((r : Record) → p (with f r) ≡ p r) → index_of p (extend_at i (more f none) l) ≡ index_of p l
unfolding index_of extend_at
index-kept p i f [] h = refl
index-kept p zero f (r ∷ l) h = ap (λ (b : Bool). cond b (Some zero) (next (index_of p l))) (h r)
index-kept p (suc i) f (r ∷ l) h = ap (λ (o : Option ℕ). cond (p r) (Some zero) (next o)) (index-kept p i f l h)

lesser-zero : (o : Option ℕ) → lesser zero o ≡ Some zero
lesser-zero None = refl
lesser-zero (Some n) = by (ltb zero n) refl
  where
    by : (b : Bool) → ltb zero n ≡ b → Some (cond b zero n) ≡ Some zero
    by true e = refl
    by false e = let h = ltb-false zero n e in ap Some (omega arith)

lesser-next : (i : ℕ) (o : Option ℕ) → next (lesser i o) ≡ lesser (suc i) (next o)
lesser-next i None = refl
lesser-next i (Some n) = by (ltb i n) refl
  where
    by : (b : Bool) → ltb i n ≡ b → Some (suc (cond b i n)) ≡ Some (cond (ltb (suc i) (suc n)) (suc i) (suc n))
    by true e = let h = ltb-true i n e in sym (rw (lt-ltb (suc i) (suc n) (omega arith)))
    by false e = let h = ltb-false i n e in sym (rw (le-ltb (suc i) (suc n) (omega arith)))

-- a test that the extended record meets: the first is that record, or one before it
index-lesser : (p : Record → Bool) (i : ℕ) (f : Field) (l : List Record) → i < length l → ((r : Record) → p (with f r) ≡ true) →
    index_of p (extend_at i (more f none) l) ≡ lesser i (index_of p l)
unfolding index_of extend_at
index-lesser p i f [] k h = absurd (omega arith)
index-lesser p zero f (r ∷ l) k h = ap (λ (b : Bool). cond b (Some zero) (next (index_of p l))) (h r) ∙ sym (lesser-zero (cond (p r) (Some zero) (next (index_of p l))))
index-lesser p (suc i) f (r ∷ l) k h = by (p r) (index-lesser p i f l (omega arith) h)
  where
    by : (b : Bool) → index_of p (extend_at i (more f none) l) ≡ lesser i (index_of p l) →
        cond b (Some zero) (next (index_of p (extend_at i (more f none) l))) ≡ lesser (suc i) (cond b (Some zero) (next (index_of p l)))
    by true e = sym (rw (le-ltb (suc i) zero (omega arith)))
    by false e = ap next e ∙ lesser-next i (index_of p l)

-- ---- The least value with one row more

abbrev least : ℕ → ℕ → ℕ
least v w = cond (ltb v w) v w

least-low : (v w : ℕ) → (least v w ≤ v) × (least v w ≤ w)
least-low v w = by (ltb v w) refl
  where
    by : (b : Bool) → ltb v w ≡ b → (cond b v w ≤ v) × (cond b v w ≤ w)
    by true e = let h = ltb-true v w e in (omega arith, omega arith)
    by false e = let h = ltb-false v w e in (omega arith, omega arith)

least-high : (x v w : ℕ) → x ≤ v → x ≤ w → x ≤ least v w
least-high x v w p q = by (ltb v w)
  where
    by : (b : Bool) → x ≤ cond b v w
    by true = p
    by false = q

lesser-swap : (v w : ℕ) (o : Option ℕ) → lesser v (lesser w o) ≡ lesser w (lesser v o)
lesser-swap v w None =
    let a = least-low v w in
    let b = least-low w v in
    let c = least-high (least v w) w v a.1 a.0 in
    let d = least-high (least w v) v w b.1 b.0 in
    ap Some (let e : least v w ≡ least w v = omega arith in e)
lesser-swap v w (Some u) =
    let i = least-low w u in
    let j = least-low v u in
    let a = least-low v (least w u) in
    let b = least-low w (least v u) in
    let c = least-high (least v (least w u)) w (least v u) (omega arith) (least-high _ v u a.0 (omega arith)) in
    let d = least-high (least w (least v u)) v (least w u) (omega arith) (least-high _ w u b.0 (omega arith)) in
    ap Some (let e : least v (least w u) ≡ least w (least v u) = omega arith in e)

pub least-more : (n k v : ℕ) (l : List Row) → least_of n (l ++ ((k, v) ∷ [])) ≡ cond (eqb k n) (lesser v (least_of n l)) (least_of n l)
unfolding least_of
least-more n k v [] = refl
least-more n k v (r ∷ l) = ap (λ (o : Option ℕ). cond (eqb r.0 n) (lesser r.1 o) o) (least-more n k v l) ∙ by (eqb r.0 n) (eqb k n)
  where
    by : (a b : Bool) →
        cond a (lesser r.1 (cond b (lesser v (least_of n l)) (least_of n l))) (cond b (lesser v (least_of n l)) (least_of n l)) ≡
        cond b (lesser v (cond a (lesser r.1 (least_of n l)) (least_of n l))) (cond a (lesser r.1 (least_of n l)) (least_of n l))
    by true true = lesser-swap r.1 v (least_of n l)
    by true false = refl
    by false b = refl

-- which record is the first to hold a namespace, once record i holds the id k too
pub holders-extended : (n k i : ℕ) (f : Field) (N : List Row) (l : List Record) → n < id_limit → k < id_limit → i < length l →
    has 0x22 f ≡ true → fixed_of f ≡ id_of k → least_of n N ≡ index_of (holds_namespace (id_of n)) l →
    least_of n (N ++ ((k, i) ∷ [])) ≡ index_of (holds_namespace (id_of n)) (extend_at i (more f none) l)
holders-extended n k i f N l hn hk hi tag x e = least-more n k i N ∙ by (eqb k n) (same-id k n hk hn)
  where
    meets : (b : Bool) → same (id_of k) (id_of n) ≡ b → (r : Record) → holds_namespace (id_of n) (with f r) ≡ (holds_namespace (id_of n) r || b)
    meets b s r =
        holds-with (id_of n) f r ∙ ap₂ (λ (u v : Bool). holds_namespace (id_of n) r || (u && v)) tag (ap (λ (y : List ℕ). same y (id_of n)) x ∙ s)

    by : (b : Bool) → same (id_of k) (id_of n) ≡ b → cond b (lesser i (least_of n N)) (least_of n N) ≡ index_of (holds_namespace (id_of n)) (extend_at i (more f none) l)
    by true s = ap (lesser i) e ∙ sym (index-lesser (holds_namespace (id_of n)) i f l hi (λ r. meets true s r ∙ or-true (holds_namespace (id_of n) r)))
    by false s = e ∙ sym (index-kept (holds_namespace (id_of n)) i f l (λ r. meets false s r ∙ or-false (holds_namespace (id_of n) r)))

-- ---- What is seen of the extended record

first-either : (a b : Option Field) → mapped fixed_of (either a b) ≡ either (mapped fixed_of a) (mapped fixed_of b)
unfolding either
first-either None b = refl
first-either (Some a) b = refl

brief-with : (f : Field) (r : Record) →
    brief (with f r) ≡ record { value = value_of r.literal; literal = r.literal; namespace = either (brief r).namespace (mapped fixed_of (cond (has 0x22 f) (Some f) None)) }
unfolding brief
brief-with f r =
    ap (λ (o : Option (List ℕ)). record { value = value_of r.literal; literal = r.literal; namespace = o })
    (ap (mapped fixed_of) (find-append (has 0x22) r.specifiers f) ∙ first-either (find_field (has 0x22) r.specifiers) (cond (has 0x22 f) (Some f) None))

either-nothing : (o : Option (List ℕ)) → either o None ≡ o
unfolding either
either-nothing None = refl
either-nothing (Some x) = refl

-- a specifier that is no namespace is not seen
pub brief-other : (f : Field) (r : Record) → has 0x22 f ≡ false → brief (with f r) ≡ brief r
unfolding brief
brief-other f r e =
    brief-with f r ∙ ap (λ (b : Bool). record { value = value_of r.literal; literal = r.literal; namespace = either (brief r).namespace (mapped fixed_of (cond b (Some f) None)) }) e
    ∙ ap (λ (o : Option (List ℕ)). record { value = value_of r.literal; literal = r.literal; namespace = o }) (either-nothing (brief r).namespace)

-- a namespace is seen where it is the first
brief-first : (y : Env) (f : Field) (k : ℕ) (r : Row) (q : Record) → has 0x22 f ≡ true → fixed_of f ≡ id_of k → brief_of y r ≡ brief q → r.1 ≡ 0 →
    brief_of y (r.0, k + 1) ≡ brief (with f q)
unfolding brief brief_of either
brief-first y f k r q tag x e z =
    let n : (brief q).namespace ≡ None = sym (ap (λ (b : Brief). b.namespace) e) ∙ ap namespace_of z in
    ap₂ (λ (a : Brief) (b : Option (List ℕ)). record { value = a.value; literal = a.literal; namespace = b }) e
    (ap namespace_of (add-one k) ∙ ap Some (sym x) ∙ ap (λ (b : Bool). mapped fixed_of (cond b (Some f) None)) (sym tag)
    ∙ ap (λ (o : Option (List ℕ)). either o (mapped fixed_of (cond (has 0x22 f) (Some f) None))) (sym n)) ∙ sym (brief-with f q)

either-some : (n : ℕ) (o : Option (List ℕ)) → (n ≡ 0 → ⊥) → either (namespace_of n) o ≡ namespace_of n
unfolding either
either-some zero o h = absurd (h refl)
either-some (suc n) o h = refl

pub brief-again : (y : Env) (f : Field) (r : Row) (q : Record) → brief_of y r ≡ brief q → (r.1 ≡ 0 → ⊥) → brief (with f q) ≡ brief q
unfolding brief brief_of
brief-again y f r q e z =
    let n : namespace_of r.1 ≡ (brief q).namespace = ap (λ (b : Brief). b.namespace) e in
    brief-with f q
    ∙ ap (λ (o : Option (List ℕ)). record { value = value_of q.literal; literal = q.literal; namespace = o })
    (ap (λ (o : Option (List ℕ)). either o (mapped fixed_of (cond (has 0x22 f) (Some f) None))) (sym n) ∙ either-some r.1 _ z ∙ n)

pub briefs-first : (y : Env) (i k : ℕ) (f : Field) (R : List Row) (l : List Record) → has 0x22 f ≡ true → fixed_of f ≡ id_of k → map (brief_of y) R ≡ map brief l →
    (row_of R i).1 ≡ 0 →
    map (brief_of y) (with_value i (k + 1) R) ≡ map brief (extend_at i (more f none) l)
unfolding with_value extend_at
briefs-first y i k f [] [] tag x e z = refl
briefs-first y i k f [] (q ∷ l) tag x e z = absurd (cc)
briefs-first y i k f (r ∷ R) [] tag x e z = absurd (cc)
briefs-first y zero k f (r ∷ R) (q ∷ l) tag x e z =
    let h : brief_of y r ≡ brief q = cc in
    let m : map (brief_of y) R ≡ map brief l = cc in
    ap₂ ◌∷◌ (brief-first y f k r q tag x h z) m
briefs-first y (suc i) k f (r ∷ R) (q ∷ l) tag x e z =
    let h : brief_of y r ≡ brief q = cc in
    let m : map (brief_of y) R ≡ map brief l = cc in
    ap₂ ◌∷◌ h (briefs-first y i k f R l tag x m z)

-- where the extended record is seen as before
pub briefs-kept : (y : Env) (i : ℕ) (f : Field) (R : List Row) (l : List Record) → ((q : Record) → brief_of y (row_of R i) ≡ brief q → brief (with f q) ≡ brief q) →
    map (brief_of y) R ≡ map brief l → map (brief_of y) R ≡ map brief (extend_at i (more f none) l)
unfolding extend_at
briefs-kept y i f [] [] k e = refl
briefs-kept y i f [] (q ∷ l) k e = absurd (cc)
briefs-kept y i f (r ∷ R) [] k e = absurd (cc)
briefs-kept y zero f (r ∷ R) (q ∷ l) k e =
    let h : brief_of y r ≡ brief q = cc in
    let m : map (brief_of y) R ≡ map brief l = cc in
    ap₂ ◌∷◌ (h ∙ sym (k q h)) m
briefs-kept y (suc i) f (r ∷ R) (q ∷ l) k e =
    let h : brief_of y r ≡ brief q = cc in
    let m : map (brief_of y) R ≡ map brief l = cc in
    ap₂ ◌∷◌ h (briefs-kept y i f R l k m)

-- a specifier that is no namespace changes no holder
pub holders-other : (x : List ℕ) (i : ℕ) (f : Field) (l : List Record) → has 0x22 f ≡ false → index_of (holds_namespace x) (extend_at i (more f none) l) ≡ index_of (holds_namespace x) l
holders-other x i f l e = index-kept (holds_namespace x) i f l (λ r. holds-with x f r ∙ ap (λ (b : Bool). holds_namespace x r || (b && same (fixed_of f) x)) e ∙ or-false (holds_namespace x r))

-- specifiers one by one
pub extend-more : (i : ℕ) (f : Field) (fs : Fields) (l : List Record) → extend_at i (more f fs) l ≡ extend_at i fs (extend_at i (more f none) l)
unfolding extend_at append
extend-more i f fs [] = refl
extend-more zero f fs (r ∷ l) = ap (λ (x : Fields). record { literal = r.literal; specifiers = x } ∷ l) (sym (append-rows r.specifiers (more f none) fs))
extend-more (suc i) f fs (r ∷ l) = ap (λ (m : List Record). r ∷ m) (extend-more i f fs l)

pub extend-none : (i : ℕ) (l : List Record) → extend_at i none l ≡ l
unfolding extend_at
extend-none i [] = refl
extend-none zero (r ∷ l) = ap (λ (x : Fields). record { literal = r.literal; specifiers = x } ∷ l) (append-none r.specifiers)
extend-none (suc i) (r ∷ l) = ap (λ (m : List Record). r ∷ m) (extend-none i l)
