-- What is found in the tables: the source of the first record whose specifiers meet a test, an id's context and its usages, and what
-- forcing and noting make of them.
use Rattle.std.specs.Prelude.{Option, None, Some}
use Prim.Native.Nat.{ℕ}
use mathlib.Core.Path.{◌≡◌, refl, sym, ap, ◌∙◌}
use mathlib.Core.Bool.{Bool, true, false, not, cond, ◌&&◌, ◌||◌, true≢false, or-false}
use mathlib.Core.List.{List, [], ◌∷◌, ◌++◌, append-nil}
use native.Mathlib.Omega.{arith}
use Rattle.tree.specs.Layout.{same, value_of}
use Rattle.tree.specs.Tree.{Field, Fields, none, more, fixed_of}
use Rattle.tree.proofs.LayoutLaws.{same-refl, same-equal}
use Rattle.metadata.specs.Metadata.{append}
use Rattle.inputs.specs.Lists.{find, filter, is_some, mapped, among}
use Rattle.inputs.specs.Fields.{has, find_field}
use Rattle.extraction_rules.specs.State.{Record, Imported, Usage, State}
use Rattle.extraction_rules.specs.First.{holds_namespace, force_source, force_holder, forget, force_id, imported_as, suits, collect_in, note_in}
use Rattle.extraction_rules.specs.Second.{usages_of}
use Rattle.extraction_rules.proofs.TestLaws.{or-neither}
use Rattle.extraction_rules.proofs.ListLaws.{same-not, not-same, same-swap, among-last, among-new}
use Rattle.extraction_rules.proofs.FirstLaws.{source-cases, force-cases, sources_of}

-- ---- Lists

pub find-filter-none : {A : Type 0} (t q : A → Bool) (l : List A) → ((a : A) → t a ≡ true → q a ≡ false) → find t (filter q l) ≡ None
unfolding find filter
find-filter-none t q [] h = refl
find-filter-none t q (a ∷ l) h = go (t a) (q a) refl refl (find-filter-none t q l h)
  where
    go : (b c : Bool) → t a ≡ b → q a ≡ c → find t (filter q l) ≡ None → find t (cond c (a ∷ filter q l) (filter q l)) ≡ None
    go b false x y r = r
    go true true x y r = absurd (true≢false (sym y ∙ h a x))
    go false true x y r = rw x r

pub find-filter : {A : Type 0} (t q : A → Bool) (l : List A) → ((a : A) → t a ≡ true → q a ≡ true) → find t (filter q l) ≡ find t l
unfolding find filter
find-filter t q [] h = refl
find-filter t q (a ∷ l) h = go (t a) (q a) refl refl (find-filter t q l h)
  where
    go : (b c : Bool) → t a ≡ b → q a ≡ c → find t (filter q l) ≡ find t l → find t (cond c (a ∷ filter q l) (filter q l)) ≡ cond b (Some a) (find t l)
    go true true x y r = rw x
    go true false x y r = absurd (true≢false (sym (h a x) ∙ y))
    go false true x y r = rw x r
    go false false x y r = r

pub filter-filter-none : {A : Type 0} (t q : A → Bool) (l : List A) → ((a : A) → t a ≡ true → q a ≡ false) → filter t (filter q l) ≡ []
unfolding filter
filter-filter-none t q [] h = refl
filter-filter-none t q (a ∷ l) h = go (t a) (q a) refl refl (filter-filter-none t q l h)
  where
    go : (b c : Bool) → t a ≡ b → q a ≡ c → filter t (filter q l) ≡ [] → filter t (cond c (a ∷ filter q l) (filter q l)) ≡ []
    go b false x y r = r
    go true true x y r = absurd (true≢false (sym y ∙ h a x))
    go false true x y r = rw x r

pub filter-filter : {A : Type 0} (t q : A → Bool) (l : List A) → ((a : A) → t a ≡ true → q a ≡ true) → filter t (filter q l) ≡ filter t l
unfolding filter
filter-filter t q [] h = refl
filter-filter t q (a ∷ l) h = go (t a) (q a) refl refl (filter-filter t q l h)
  where
    go : (b c : Bool) → t a ≡ b → q a ≡ c → filter t (filter q l) ≡ filter t l → filter t (cond c (a ∷ filter q l) (filter q l)) ≡ cond b (a ∷ filter t l) (filter t l)
    go true true x y r = rw (x, r)
    go true false x y r = absurd (true≢false (sym (h a x) ∙ y))
    go false true x y r = rw x r
    go false false x y r = r

pub filter-append : {A : Type 0} (t : A → Bool) (l m : List A) → filter t (l ++ m) ≡ filter t l ++ filter t m
unfolding filter
filter-append t [] m = refl
filter-append t (a ∷ l) m = go (t a) (filter-append t l m)
  where
    go : (b : Bool) → filter t (l ++ m) ≡ filter t l ++ filter t m → cond b (a ∷ filter t (l ++ m)) (filter t (l ++ m)) ≡ cond b (a ∷ filter t l) (filter t l) ++ filter t m
    go true r = rw r
    go false r = r

-- ---- An id's context and usages

-- other ids than i, and i among others
different : (i j k : List ℕ) → same j i ≡ false → same k i ≡ true → not (same k j) ≡ true
different i j k n h = ap not (same-not k j (λ q. not-same j i n (sym q ∙ same-equal k i h)))

pub forgotten-imported : (i : List ℕ) (l : List Imported) → imported_as i (filter (λ m. not (same m.id i)) l) ≡ None
unfolding imported_as
forgotten-imported i l =
    ap (mapped (λ (m : Imported). m.context)) (find-filter-none (λ (m : Imported). same m.id i) (λ (m : Imported). not (same m.id i)) l (λ m h. ap not h))

pub other-imported : (i j : List ℕ) (l : List Imported) → same j i ≡ false → imported_as i (filter (λ m. not (same m.id j)) l) ≡ imported_as i l
unfolding imported_as
other-imported i j l n =
    ap (mapped (λ (m : Imported). m.context)) (find-filter (λ (m : Imported). same m.id i) (λ (m : Imported). not (same m.id j)) l (λ m h. different i j m.id n h))

pub forgotten-usages : (i : List ℕ) (l : List Usage) → usages_of i (filter (λ u. not (same u.id i)) l) ≡ []
unfolding usages_of
forgotten-usages i l = filter-filter-none (λ (u : Usage). same u.id i) (λ (u : Usage). not (same u.id i)) l (λ u h. ap not h)

pub other-usages : (i j : List ℕ) (l : List Usage) → same j i ≡ false → usages_of i (filter (λ u. not (same u.id j)) l) ≡ usages_of i l
unfolding usages_of
other-usages i j l n = filter-filter (λ (u : Usage). same u.id i) (λ (u : Usage). not (same u.id j)) l (λ u h. different i j u.id n h)

pub usages-last : (i : List ℕ) (u : Usage) (l : List Usage) → same u.id i ≡ true → usages_of i (l ++ (u ∷ [])) ≡ usages_of i l ++ (u ∷ [])
unfolding usages_of filter
usages-last i u l e = filter-append (λ (u : Usage). same u.id i) l (u ∷ []) ∙ rw e

pub usages-other : (i : List ℕ) (u : Usage) (l : List Usage) → same u.id i ≡ false → usages_of i (l ++ (u ∷ [])) ≡ usages_of i l
unfolding usages_of filter
usages-other i u l e = filter-append (λ (u : Usage). same u.id i) l (u ∷ []) ∙ rw e (append-nil (filter (λ (u : Usage). same u.id i) l))

-- noting: the id itself, and another
pub noted-own : (m : Imported) (l : List Imported) → imported_as m.id (note_in m l) ≡ Some m.context
unfolding imported_as find note_in
noted-own m [] = rw (same-refl m.id)
noted-own m (k ∷ l) = go (same k.id m.id) refl (noted-own m l)
  where
    go : (b : Bool) → same k.id m.id ≡ b → mapped (λ (m : Imported). m.context) (find (λ (n : Imported). same n.id m.id) (note_in m l)) ≡ Some m.context →
        mapped (λ (m : Imported). m.context) (find (λ (n : Imported). same n.id m.id) (cond b (m ∷ l) (k ∷ note_in m l))) ≡ Some m.context
    go true e r = rw (same-refl m.id)
    go false e r = rw e r

pub noted-other : (i : List ℕ) (m : Imported) (l : List Imported) → same m.id i ≡ false → imported_as i (note_in m l) ≡ imported_as i l
unfolding imported_as find note_in
noted-other i m [] n = rw n
noted-other i m (k ∷ l) n = go (same k.id m.id) refl (noted-other i m l n)
  where
    Ask : List Imported → Option (List ℕ)
    Ask l = mapped (λ (m : Imported). m.context) (find (λ (n : Imported). same n.id i) l)

    next : (b : Bool) → Ask (note_in m l) ≡ Ask l →
        mapped (λ (m : Imported). m.context) (cond b (Some k) (find (λ (n : Imported). same n.id i) (note_in m l))) ≡ mapped
        (λ (m : Imported). m.context) (cond b (Some k) (find (λ (n : Imported). same n.id i) l))
    next true r = refl
    next false r = r

    go : (b : Bool) → same k.id m.id ≡ b → Ask (note_in m l) ≡ Ask l → Ask (cond b (m ∷ l) (k ∷ note_in m l)) ≡ Ask (k ∷ l)
    go true e r = rw (n, ap (λ (j : List ℕ). same j i) (same-equal k.id m.id e) ∙ n)
    go false e r = next (same k.id i) r

-- ---- The source of the first record whose specifiers meet a test

abbrev pub seek : (Fields → Bool) → List Record → Option (List ℕ)
seek t l = mapped (λ r. value_of r.literal) (find (λ r. t r.specifiers) l)

abbrev pub holds_in : List ℕ → Fields → Bool
holds_in i fs = is_some (find_field (λ f. has 0x22 f && same (fixed_of f) i) fs)

abbrev pub suits_in : ℕ → List ℕ → Fields → Bool
suits_in own i fs = suits own i (find_field (has 0x22) fs)

pub seek-step : (t : Fields → Bool) (r : Record) (l : List Record) → seek t (r ∷ l) ≡ cond (t r.specifiers) (Some (value_of r.literal)) (seek t l)
unfolding find
seek-step t r l = go (t r.specifiers)
  where
    go : (b : Bool) → mapped (λ (r : Record). value_of r.literal) (cond b (Some r) (find (λ (r : Record). t r.specifiers) l)) ≡ cond b (Some (value_of r.literal)) (seek t l)
    go true = refl
    go false = refl

-- a record that the test does not feel
pub seek-collect : (t : Fields → Bool) (r : Record) (l : List Record) → t r.specifiers ≡ false →
    ((gs : Fields) → t (append gs r.specifiers) ≡ t gs) → seek t (collect_in r l) ≡ seek t l
unfolding collect_in
seek-collect t r [] h k = seek-step t r [] ∙ rw h
seek-collect t r (q ∷ l) h k = go (same (value_of q.literal) (value_of r.literal)) (seek-collect t r l h k)
  where
    go : (b : Bool) → seek t (collect_in r l) ≡ seek t l →
        seek t (cond b (record { literal = q.literal; specifiers = append q.specifiers r.specifiers } ∷ l) (q ∷ collect_in r l)) ≡ seek t
        (q ∷ l)
    go true e = seek-step t (record { literal = q.literal; specifiers = append q.specifiers r.specifiers }) l
        ∙ ap (λ (b : Bool). cond b (Some (value_of q.literal)) (seek t l)) (k q.specifiers) ∙ sym (seek-step t q l)
    go false e = seek-step t q (collect_in r l) ∙ ap (λ (o : Option (List ℕ)). cond (t q.specifiers) (Some (value_of q.literal)) o) e ∙ sym (seek-step t q l)

-- a record of a new source becomes the last
pub collect-new : (r : Record) (l : List Record) → among (value_of r.literal) (sources_of l) ≡ false → collect_in r l ≡ l ++ (r ∷ [])
unfolding collect_in among
collect-new r [] h = refl
collect-new r (q ∷ l) h =
    let k = or-neither (same (value_of r.literal) (value_of q.literal)) (among (value_of r.literal) (sources_of l)) h in
    rw (same-swap (value_of q.literal) (value_of r.literal), k.0) (ap (λ (m : List Record). q ∷ m) (collect-new r l k.1))

pub seek-last : (t : Fields → Bool) (r : Record) (l : List Record) → seek t l ≡ None → seek t (l ++ (r ∷ [])) ≡ cond (t r.specifiers) (Some (value_of r.literal)) None
unfolding find
seek-last t r [] h = seek-step t r []
seek-last t r (q ∷ l) h = seek-step t q (l ++ (r ∷ [])) ∙ go (t q.specifiers) (sym (seek-step t q l) ∙ h) (seek-last t r l)
  where
    go : (b : Bool) → cond b (Some (value_of q.literal)) (seek t l) ≡ None →
        (seek t l ≡ None → seek t (l ++ (r ∷ [])) ≡ cond (t r.specifiers) (Some (value_of r.literal)) None) →
        cond b (Some (value_of q.literal)) (seek t (l ++ (r ∷ []))) ≡ cond (t r.specifiers) (Some (value_of r.literal)) None
    go true e k = absurd (let z : ◌≡◌ {A = ℕ} 0 1 = cc in omega arith)
    go false e k = k e

-- what is found at the last, of a source that no other has, is found in the last
pub seek-own : (t : Fields → Bool) (r : Record) (l : List Record) → among (value_of r.literal) (sources_of l) ≡ false →
    seek t (l ++ (r ∷ [])) ≡ Some (value_of r.literal) → t r.specifiers ≡ true
unfolding among find
seek-own t r [] h e = go (t r.specifiers) refl (sym (seek-step t r []) ∙ e)
  where
    go : (b : Bool) → t r.specifiers ≡ b → cond b (Some (value_of r.literal)) None ≡ Some (value_of r.literal) → b ≡ true
    go true w e = refl
    go false w e = absurd (let z : ◌≡◌ {A = ℕ} 0 1 = cc in omega arith)
seek-own t r (q ∷ l) h e =
    let k = or-neither (same (value_of r.literal) (value_of q.literal)) (among (value_of r.literal) (sources_of l)) h in
    go (t q.specifiers) (sym (seek-step t q (l ++ (r ∷ []))) ∙ e) (seek-own t r l k.1) k.0
  where
    go : (b : Bool) → cond b (Some (value_of q.literal)) (seek t (l ++ (r ∷ []))) ≡ Some (value_of r.literal) →
        (seek t (l ++ (r ∷ [])) ≡ Some (value_of r.literal) → t r.specifiers ≡ true) →
        same (value_of r.literal) (value_of q.literal) ≡ false → t r.specifiers ≡ true
    go true e k d = absurd (not-same (value_of r.literal) (value_of q.literal) d (let w : value_of q.literal ≡ value_of r.literal = cc in sym w))
    go false e k d = k e

-- ---- Appended specifiers

pub find-append : (p : Field → Bool) (fs gs : Fields) → find_field p gs ≡ None → find_field p (append fs gs) ≡ find_field p fs
unfolding append find_field
find-append p none gs h = h
find-append p (more f fs) gs h = rw (find-append p fs gs h)

-- ---- Forcing

pub source-forced : (a : List ℕ) (s : State) → among a (force_source a s).forced ≡ true
source-forced a s = source-cases a s (λ t. among a t.forced ≡ true) (λ q. q) (among-new a s.forced)

pub source-other : (a b : List ℕ) (s : State) → (a ≡ b → ⊥) → among a (force_source b s).forced ≡ among a s.forced
source-other a b s n =
    source-cases b s (λ t. among a t.forced ≡ among a s.forced) (λ _. refl)
    (among-last a b s.forced ∙ ap (λ (c : Bool). among a s.forced || c) (same-not a b n) ∙ or-false (among a s.forced))

-- the source that forcing an id forces
pub force-own : (i a : List ℕ) (s : State) → seek (holds_in i) s.collected ≡ Some a → among a (force_id i s).forced ≡ true
unfolding force_id holds_namespace
force-own i a s h = go (find (λ r. holds_in i r.specifiers) s.collected) h
  where
    go : (o : Option Record) → mapped (λ (r : Record). value_of r.literal) o ≡ Some a → among a (force_holder o (forget i s)).forced ≡ true
    go None h = absurd (let z : ◌≡◌ {A = ℕ} 0 1 = cc in omega arith)
    go (Some r) h = let q : value_of r.literal ≡ a = cc in rw q (source-forced a (forget i s))

pub force-other : (i a : List ℕ) (s : State) → (seek (holds_in i) s.collected ≡ Some a → ⊥) → among a (force_id i s).forced ≡ among a s.forced
unfolding force_id holds_namespace forget
force-other i a s h = go (find (λ r. holds_in i r.specifiers) s.collected) h
  where
    go : (o : Option Record) → (mapped (λ (r : Record). value_of r.literal) o ≡ Some a → ⊥) → among a (force_holder o (forget i s)).forced ≡ among a s.forced
    go None h = refl
    go (Some r) h = source-other a (value_of r.literal) (forget i s) (λ q. h (ap Some (sym q)))

-- what forcing leaves as it was, and what it forgets
pub force-tables : (i : List ℕ) (s : State) →
    ((force_id i s).collected ≡ s.collected) × ((force_id i s).modules ≡ s.modules) × ((force_id i s).imported ≡ filter (λ m. not (same m.id i)) s.imported) ×
    ((force_id i s).usages ≡ filter (λ u. not (same u.id i)) s.usages)
unfolding forget
force-tables i s =
    force-cases i s
    (λ t. (t.collected ≡ s.collected) × (t.modules ≡ s.modules) × (t.imported ≡ filter (λ m. not (same m.id i)) s.imported)
    × (t.usages ≡ filter (λ u. not (same u.id i)) s.usages))
    (refl, refl, refl, refl) (λ r w. (refl, refl, refl, refl))
