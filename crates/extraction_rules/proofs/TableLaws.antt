-- What collecting and extending make of the records: what is found among them, and what was found there before.
use Rattle.std.specs.Prelude.{Option, None, Some}
use Prim.Native.Nat.{ℕ}
use mathlib.Core.Path.{◌≡◌, refl, sym, ap, ap₂, subst, ◌∙◌}
use mathlib.Core.Bool.{Bool, true, false, cond, ◌&&◌, ◌||◌, true≢false}
use mathlib.Core.List.{List, [], ◌∷◌, ◌++◌, map}
use native.Mathlib.Omega.{arith}
use Rattle.tree.specs.Layout.{same, value_of}
use Rattle.tree.specs.Tree.{Field, field, Fields, none, more, fixed_of}
use Rattle.tree.proofs.LayoutLaws.{same-refl, same-equal}
use Rattle.metadata.specs.Metadata.{append}
use Rattle.metadata.proofs.EncodeLaws.{append-none}
use Rattle.inputs.specs.Lists.{find, is_some, mapped, among}
use Rattle.inputs.specs.Fields.{has, find_field}
use Rattle.extraction_rules.specs.State.{Record, Usage}
use Rattle.extraction_rules.specs.First.{suits, collect_in}
use Rattle.extraction_rules.specs.Second.{specifiers_from, extend}
use Rattle.extraction_rules.proofs.ListLaws.{same-not, not-same, same-swap}
use Rattle.extraction_rules.proofs.FirstLaws.{sources_of, extend-literal}
use Rattle.extraction_rules.proofs.SeekLaws.{seek, holds_in, suits_in, seek-step}

-- ---- Collecting a record of another source

-- what is found of the source a was found there before
pub seek-back : (t : Fields → Bool) (a : List ℕ) (r : Record) (l : List Record) → same (value_of r.literal) a ≡ false →
    ((gs : Fields) → t (append gs r.specifiers) ≡ false → t gs ≡ false) →
    seek t (collect_in r l) ≡ Some a → seek t l ≡ Some a
unfolding collect_in
seek-back t a r [] d m e = go (t r.specifiers) (sym (seek-step t r []) ∙ e)
  where
    go : (b : Bool) → cond b (Some (value_of r.literal)) (seek t []) ≡ Some a → seek t [] ≡ Some a
    go true e = absurd (not-same (value_of r.literal) a d cc)
    go false e = e
seek-back t a r (q ∷ l) d m e = seek-step t q l ∙ go (same (value_of q.literal) (value_of r.literal)) refl e (seek-back t a r l d m)
  where
    joined : (b c : Bool) → value_of q.literal ≡ value_of r.literal → t (append q.specifiers r.specifiers) ≡ b → t q.specifiers ≡ c →
        cond b (Some (value_of q.literal)) (seek t l) ≡ Some a → cond c (Some (value_of q.literal)) (seek t l) ≡ Some a
    joined true c w u v e = absurd (not-same (value_of r.literal) a d (sym w ∙ cc))
    joined false true w u v e = absurd (true≢false (sym v ∙ m q.specifiers u))
    joined false false w u v e = e

    passed : (c : Bool) → cond c (Some (value_of q.literal)) (seek t (collect_in r l)) ≡ Some a →
        (seek t (collect_in r l) ≡ Some a → seek t l ≡ Some a) → cond c (Some (value_of q.literal)) (seek t l) ≡ Some a
    passed true e k = e
    passed false e k = k e

    go : (b : Bool) → same (value_of q.literal) (value_of r.literal) ≡ b →
        seek t (cond b (record { literal = q.literal; specifiers = append q.specifiers r.specifiers } ∷ l) (q ∷ collect_in r l)) ≡ Some a →
        (seek t (collect_in r l) ≡ Some a → seek t l ≡ Some a) → cond (t q.specifiers) (Some (value_of q.literal)) (seek t l) ≡ Some a
    go true w e k =
        joined (t (append q.specifiers r.specifiers)) (t q.specifiers) (same-equal (value_of q.literal) (value_of r.literal) w) refl refl
        (sym (seek-step t (record { literal = q.literal; specifiers = append q.specifiers r.specifiers }) l) ∙ e)
    go false w e k = passed (t q.specifiers) (sym (seek-step t q (collect_in r l)) ∙ e) k

-- the record of a source
abbrev pub record_of : List ℕ → List Record → Option Record
record_of a l = find (λ r. same (value_of r.literal) a) l

pub record-other : (a : List ℕ) (r : Record) (l : List Record) → same (value_of r.literal) a ≡ false → record_of a (collect_in r l) ≡ record_of a l
unfolding find collect_in
record-other a r [] d = rw d
record-other a r (q ∷ l) d = go (same (value_of q.literal) (value_of r.literal)) refl (record-other a r l d)
  where
    go : (b : Bool) → same (value_of q.literal) (value_of r.literal) ≡ b → record_of a (collect_in r l) ≡ record_of a l →
        record_of a (cond b (record { literal = q.literal; specifiers = append q.specifiers r.specifiers } ∷ l) (q ∷ collect_in r l)) ≡ cond
        (same (value_of q.literal) a) (Some q) (record_of a l)
    go true w k = rw (ap (λ (v : List ℕ). same v a) (same-equal (value_of q.literal) (value_of r.literal) w) ∙ d)
    go false w k = rw k

-- a collected record of the literal l without specifiers leaves the record of each source as it was, but for a new one
pub record-empty : (a l : List ℕ) (r : Record) (rs : List Record) → record_of a rs ≡ Some r → record_of a (collect_in (record { literal = l; specifiers = none }) rs) ≡ Some r
unfolding find collect_in
record-empty a l r [] h = absurd (let z : ◌≡◌ {A = ℕ} 0 1 = cc in omega arith)
record-empty a l r (q ∷ rs) h = go (same (value_of q.literal) (value_of l)) (record-empty a l r rs)
  where
    by : (b : Bool) → cond b (Some q) (record_of a rs) ≡ Some r →
        (record_of a rs ≡ Some r → record_of a (collect_in (record { literal = l; specifiers = none }) rs) ≡ Some r) →
        cond b (Some q) (record_of a (collect_in (record { literal = l; specifiers = none }) rs)) ≡ Some r
    by true h k = h
    by false h k = k h

    go : (b : Bool) → (record_of a rs ≡ Some r → record_of a (collect_in (record { literal = l; specifiers = none }) rs) ≡ Some r) →
        record_of a (cond b (record { literal = q.literal; specifiers = append q.specifiers none } ∷ rs) (q ∷ collect_in (record { literal = l; specifiers = none }) rs)) ≡ Some r
    go true k = rw (append-none q.specifiers) h
    go false k = by (same (value_of q.literal) a) h k

pub record-absent : (a : List ℕ) (l : List Record) → record_of a l ≡ None → among a (sources_of l) ≡ false
unfolding find among
record-absent a [] h = refl
record-absent a (q ∷ l) h = rw (same-swap a (value_of q.literal)) (go (same (value_of q.literal) a) h (record-absent a l))
  where
    go : (b : Bool) → cond b (Some q) (record_of a l) ≡ None → (record_of a l ≡ None → among a (sources_of l) ≡ false) → b || among a (sources_of l) ≡ false
    go true h k = absurd (let z : ◌≡◌ {A = ℕ} 0 1 = cc in omega arith)
    go false h k = k h

pub record-last : (a : List ℕ) (r : Record) (l : List Record) → record_of a l ≡ None → same (value_of r.literal) a ≡ true → record_of a (l ++ (r ∷ [])) ≡ Some r
unfolding find
record-last a r [] h d = rw d
record-last a r (q ∷ l) h d = go (same (value_of q.literal) a) h (λ k. record-last a r l k d)
  where
    go : (b : Bool) → cond b (Some q) (record_of a l) ≡ None → (record_of a l ≡ None → record_of a (l ++ (r ∷ [])) ≡ Some r) →
        cond b (Some q) (record_of a (l ++ (r ∷ []))) ≡ Some r
    go true h k = absurd (let z : ◌≡◌ {A = ℕ} 0 1 = cc in omega arith)
    go false h k = k h

-- specifiers whose first namespace does not suit
pub suits-append : (own : ℕ) (i : List ℕ) (gs fs : Fields) → suits_in own i fs ≡ false → suits_in own i (append gs fs) ≡ suits_in own i gs
unfolding append find_field
suits-append own i none fs h = h
suits-append own i (more f gs) fs h = go (has 0x22 f) (suits-append own i gs fs h)
  where
    go : (b : Bool) → suits_in own i (append gs fs) ≡ suits_in own i gs →
        suits own i (cond b (Some f) (find_field (has 0x22) (append gs fs))) ≡ suits own i (cond b (Some f) (find_field (has 0x22) gs))
    go true k = refl
    go false k = k

-- a namespace that the joined specifiers lack, the first lack
pub holds-left : (j : List ℕ) (gs fs : Fields) → holds_in j (append gs fs) ≡ false → holds_in j gs ≡ false
unfolding append find_field
holds-left j none fs h = refl
holds-left j (more f gs) fs h = go (has 0x22 f && same (fixed_of f) j) h (holds-left j gs fs)
  where
    go : (b : Bool) → is_some (cond b (Some f) (find_field (λ f. has 0x22 f && same (fixed_of f) j) (append gs fs))) ≡ false → (holds_in j (append gs fs) ≡ false →
        holds_in j gs ≡ false) →
        is_some (cond b (Some f) (find_field (λ f. has 0x22 f && same (fixed_of f) j) gs)) ≡ false
    go true h k = absurd (true≢false h)
    go false h k = k h

-- ---- Records changed one by one, their literals kept

pub record-map : (f : Record → Record) (a : List ℕ) (l : List Record) → ((r : Record) → (f r).literal ≡ r.literal) → record_of a (map f l) ≡ mapped f (record_of a l)
unfolding find
record-map f a [] k = refl
record-map f a (q ∷ l) k = ap (λ (v : List ℕ). cond (same (value_of v) a) (Some (f q)) (record_of a (map f l))) (k q) ∙ go (same (value_of q.literal) a) (record-map f a l k)
  where
    go : (b : Bool) → record_of a (map f l) ≡ mapped f (record_of a l) → cond b (Some (f q)) (record_of a (map f l)) ≡ mapped f (cond b (Some q) (record_of a l))
    go true h = refl
    go false h = h

pub seek-map : (f : Record → Record) (t : Fields → Bool) (l : List Record) → ((r : Record) → (f r).literal ≡ r.literal) →
    ((r : Record) → t (f r).specifiers ≡ t r.specifiers) → seek t (map f l) ≡ seek t l
unfolding find
seek-map f t [] k h = refl
seek-map f t (q ∷ l) k h =
    seek-step t (f q) (map f l) ∙ ap (λ (v : List ℕ). cond (t (f q).specifiers) (Some (value_of v)) (seek t (map f l))) (k q) ∙
    ap₂ {C = Option (List ℕ)} (λ b o. cond b (Some (value_of q.literal)) o) (h q) (seek-map f t l k h) ∙ sym (seek-step t q l)

pub find-meets : {A : Type 0} (t : A → Bool) (l : List A) (a : A) → find t l ≡ Some a → t a ≡ true
unfolding find
find-meets t [] a e = absurd (let z : ◌≡◌ {A = ℕ} 0 1 = cc in omega arith)
find-meets t (b ∷ l) a e = go (t b) refl e (find-meets t l a)
  where
    go : (c : Bool) → t b ≡ c → cond c (Some b) (find t l) ≡ Some a → (find t l ≡ Some a → t a ≡ true) → t a ≡ true
    go true w e k = let q : b ≡ a = cc in subst (λ (x : _). t x ≡ true) q w
    go false w e k = k e

-- ---- Extending records with specifiers that are no namespaces

pub extend-own : (x : List ℕ) (fs gs : Fields) → extend x fs (record { literal = x; specifiers = gs }) ≡ record { literal = x; specifiers = append gs fs }
unfolding extend
extend-own x fs gs = rw (same-refl x)

pub extend-other : (x : List ℕ) (fs : Fields) (r : Record) → same r.literal x ≡ false → extend x fs r ≡ r
unfolding extend
extend-other x fs r d = rw d

extend-meets : (t : Fields → Bool) (x : List ℕ) (fs : Fields) (r : Record) → ((gs : Fields) → t (append gs fs) ≡ t gs) → t (extend x fs r).specifiers ≡ t r.specifiers
unfolding extend
extend-meets t x fs r k = go (same r.literal x)
  where
    go : (b : Bool) → t (cond b (record { literal = r.literal; specifiers = append r.specifiers fs }) r).specifiers ≡ t r.specifiers
    go true = k r.specifiers
    go false = refl

pub seek-extend : (t : Fields → Bool) (x : List ℕ) (fs : Fields) (l : List Record) → ((gs : Fields) → t (append gs fs) ≡ t gs) → seek t (map (extend x fs) l) ≡ seek t l
seek-extend t x fs l k = seek-map (extend x fs) t l (extend-literal x fs) (λ r. extend-meets t x fs r k)

pub record-extend : (a x : List ℕ) (fs : Fields) (l : List Record) → same (value_of x) a ≡ false → record_of a (map (extend x fs) l) ≡ record_of a l
record-extend a x fs l d = record-map (extend x fs) a l (extend-literal x fs) ∙ go (record_of a l) refl
  where
    go : (o : Option Record) → record_of a l ≡ o → mapped (extend x fs) o ≡ o
    go None e = refl
    go (Some r) e =
        let v : value_of r.literal ≡ a = same-equal (value_of r.literal) a (find-meets (λ (r : Record). same (value_of r.literal) a) l r e) in
        ap Some (extend-other x fs r (same-not r.literal x (λ q. not-same (value_of x) a d (ap value_of (sym q) ∙ v))))

-- the specifiers of usages are 20s
pub from-finds : (p : Field → Bool) (us : List Usage) → ((y : List ℕ) → p (field 0x20 y none) ≡ false) → find_field p (specifiers_from us) ≡ None
unfolding find_field specifiers_from
from-finds p [] k = refl
from-finds p (u ∷ us) k = rw (k (u.property ++ 0 ∷ [])) (from-finds p us k)
