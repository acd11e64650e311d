-- What forcing, collecting and noting do to the tables.
use Rattle.std.specs.Prelude.{Option, None, Some}
use Prim.Native.Nat.{ℕ}
use mathlib.Core.Path.{◌≡◌, refl, sym, ap, ◌∙◌}
use mathlib.Core.Bool.{Bool, true, false, not, cond, ◌||◌}
use mathlib.Core.List.{List, [], ◌∷◌, ◌++◌, map}
use native.Mathlib.Omega.{arith}
use Rattle.tree.specs.Layout.{same, value_of, same_literal}
use Rattle.metadata.specs.Metadata.{append}
use Rattle.tree.specs.Tree.{Fields}
use Rattle.tree.proofs.LayoutLaws.{same-refl, same-equal}
use Rattle.inputs.specs.Lists.{find, filter, mapped, among}
use Rattle.extraction_rules.specs.State.{Record, Imported, State, set_forced}
use Rattle.extraction_rules.specs.First.{holds_namespace, force_source, force_holder, forget, force_id, imported_as, collect_in, note_in}
use Rattle.extraction_rules.specs.Second.{extend, lose_namespaces}
use Rattle.extraction_rules.proofs.ListLaws.{All, same-not, not-same, same-swap, among-more, among-new}
use Rattle.extraction_rules.proofs.TestLaws.{cond-of, cond-same}

-- ---- Forcing

-- a source is forced already, or becomes the last
pub source-cases : (a : List ℕ) (s : State) (Q : State → Type 0) → (among a s.forced ≡ true → Q s) →
    Q (set_forced (s.forced ++ (a ∷ [])) s) → Q (force_source a s)
unfolding force_source
source-cases a s Q h k = go (among a s.forced) refl
  where
    go : (b : Bool) → among a s.forced ≡ b → Q (cond b s (set_forced (s.forced ++ (a ∷ [])) s))
    go true e = h e
    go false e = k

-- an id is forgotten, and the source of the record that holds it, if there is one, is forced
pub force-cases : (i : List ℕ) (s : State) (Q : State → Type 0) → Q (forget i s) →
    ((r : Record) → find (holds_namespace i) s.collected ≡ Some r → Q
    (set_forced (s.forced ++ (value_of r.literal ∷ [])) (forget i s))) → Q (force_id i s)
unfolding force_id forget
force-cases i s Q h k = go (find (holds_namespace i) s.collected) refl
  where
    go : (o : Option Record) → find (holds_namespace i) s.collected ≡ o → Q (force_holder o (forget i s))
    go None e = h
    go (Some r) e = source-cases (value_of r.literal) (forget i s) Q (λ _. h) (k r e)

-- ---- Records

-- the source values of records
abbrev pub sources_of : List Record → List (List ℕ)
sources_of l = map (λ r. value_of r.literal) l

-- a source behind others, unless it is among them
abbrev added_to : List ℕ → List (List ℕ) → List (List ℕ)
added_to a l = cond (among a l) l (l ++ (a ∷ []))

added-cons : (a b : List ℕ) (l : List (List ℕ)) → added_to a (b ∷ l) ≡ cond (same b a) (b ∷ l) (b ∷ added_to a l)
unfolding among
added-cons a b l = rw (same-swap a b) (go (same b a) (among a l))
  where
    go : (x y : Bool) → cond (x || y) (b ∷ l) (b ∷ (l ++ (a ∷ []))) ≡ cond x (b ∷ l) (b ∷ cond y l (l ++ (a ∷ [])))
    go true y = refl
    go false true = refl
    go false false = refl

pub collect-sources : (r : Record) (l : List Record) → sources_of (collect_in r l) ≡ added_to (value_of r.literal) (sources_of l)
unfolding collect_in among
collect-sources r [] = refl
collect-sources r (q ∷ l) =
    cond-of sources_of (same (value_of q.literal) (value_of r.literal)) _ _
    ∙ rw (collect-sources r l) (sym (added-cons (value_of r.literal) (value_of q.literal) (sources_of l)))

-- a source is collected already, or becomes the last
pub collect-cases : (r : Record) (l : List Record) (Q : List (List ℕ) → Type 0) →
    (among (value_of r.literal) (sources_of l) ≡ true → Q (sources_of l)) →
    (among (value_of r.literal) (sources_of l) ≡ false → Q (sources_of l ++ (value_of r.literal ∷ []))) → Q (sources_of (collect_in r l))
collect-cases r l Q h k = rw (collect-sources r l) (go (among (value_of r.literal) (sources_of l)) refl)
  where
    go : (b : Bool) → among (value_of r.literal) (sources_of l) ≡ b → Q (cond b (sources_of l) (sources_of l ++ (value_of r.literal ∷ [])))
    go true e = h e
    go false e = k e

-- a collected source stays, and that of the record is collected
pub collect-stays : (a : List ℕ) (r : Record) (l : List Record) → among a (sources_of l) ≡ true → among a (sources_of (collect_in r l)) ≡ true
collect-stays a r l h = collect-cases r l (λ x. among a x ≡ true) (λ _. h) (λ _. among-more a (value_of r.literal) (sources_of l) h)

pub collect-among : (r : Record) (l : List Record) → among (value_of r.literal) (sources_of (collect_in r l)) ≡ true
collect-among r l = collect-cases r l (λ x. among (value_of r.literal) x ≡ true) (λ e. e) (λ _. among-new (value_of r.literal) (sources_of l))

-- what holds of the literals of records and of a new one holds of all with it
pub collect-all : (P : List ℕ → Type 0) (r : Record) (l : List Record) → P r.literal → All (λ q. P q.literal) l →
    All (λ q. P q.literal) (collect_in r l)
unfolding collect_in
collect-all P r [] k h = (k, tt)
collect-all P r (q ∷ l) k h = go (same (value_of q.literal) (value_of r.literal)) (collect-all P r l k h.1)
  where
    go : (b : Bool) → All (λ q. P q.literal) (collect_in r l) →
        All (λ q. P q.literal) (cond b (record { literal = q.literal; specifiers = append q.specifiers r.specifiers } ∷ l)
        (q ∷ collect_in r l))
    go true w = h
    go false w = (h.0, w)

-- the second pass keeps literals
pub extend-literal : (x : List ℕ) (fs : Fields) (r : Record) → (extend x fs r).literal ≡ r.literal
unfolding extend
extend-literal x fs r = cond-of (λ (q : Record). q.literal) (same_literal r.literal x) _ r ∙ cond-same (same_literal r.literal x) r.literal

pub lose-literal : (l : List (List ℕ)) (r : Record) → (lose_namespaces l r).literal ≡ r.literal
unfolding lose_namespaces
lose-literal l r = cond-of (λ (q : Record). q.literal) (among (value_of r.literal) l) r _ ∙ cond-same (among (value_of r.literal) l) r.literal

pub map-sources : (f : Record → Record) (l : List Record) → ((r : Record) → (f r).literal ≡ r.literal) → sources_of (map f l) ≡ sources_of l
map-sources f [] h = refl
map-sources f (r ∷ l) h = rw (h r, map-sources f l h)

-- the source of a collected record is among the sources
pub found-among : (t : Record → Bool) (l : List Record) (r : Record) → find t l ≡ Some r → among (value_of r.literal) (sources_of l) ≡ true
unfolding find among
found-among t [] r e = absurd (let z : ◌≡◌ {A = ℕ} 0 1 = cc in omega arith)
found-among t (q ∷ l) r e = go (t q) e (found-among t l r)
  where
    later : (b : Bool) → among (value_of r.literal) (sources_of l) ≡ true → b || among (value_of r.literal) (sources_of l) ≡ true
    later true h = refl
    later false h = h

    go : (b : Bool) → cond b (Some q) (find t l) ≡ Some r → (find t l ≡ Some r → among (value_of r.literal) (sources_of l) ≡ true) →
        same (value_of r.literal) (value_of q.literal) || among (value_of r.literal) (sources_of l) ≡ true
    go true e k = let w : q ≡ r = cc in rw (w, same-refl (value_of r.literal))
    go false e k = later (same (value_of r.literal) (value_of q.literal)) (k e)

-- ---- Imported ids

-- an id is imported
abbrev pub IsImported : List ℕ → List Imported → Type 0
IsImported i l = (c : List ℕ) × (imported_as i l ≡ Some c)

imported-step : (i : List ℕ) (m : Imported) (l : List Imported) → imported_as i (m ∷ l) ≡ cond (same m.id i) (Some m.context) (imported_as i l)
unfolding imported_as find
imported-step i m l = cond-of (mapped (λ (k : Imported). k.context)) (same m.id i) (Some m) (find (λ (k : Imported). same k.id i) l)

none-imported : (i : List ℕ) → IsImported i [] → ⊥
unfolding imported_as find
none-imported i h = let e = h.1 in let z : ◌≡◌ {A = ℕ} 0 1 = cc in omega arith

imported-here : (i : List ℕ) (m : Imported) (l : List Imported) → same m.id i ≡ true → IsImported i (m ∷ l)
imported-here i m l e = (m.context, imported-step i m l ∙ rw e)

imported-later : (i : List ℕ) (m : Imported) (l : List Imported) → IsImported i l → IsImported i (m ∷ l)
imported-later i m l h = go (same m.id i) refl
  where
    go : (b : Bool) → same m.id i ≡ b → IsImported i (m ∷ l)
    go true e = imported-here i m l e
    go false e = (h.0, imported-step i m l ∙ rw e h.1)

imported-tail : (i : List ℕ) (m : Imported) (l : List Imported) → same m.id i ≡ false → IsImported i (m ∷ l) → IsImported i l
imported-tail i m l e h = (h.0, rw e at (sym (imported-step i m l) ∙ h.1))

-- the first entry is the id's, or a later one is
imported-cases : (i : List ℕ) (m : Imported) (l : List Imported) (Q : Type 0) → IsImported i (m ∷ l) → (same m.id i ≡ true → Q) →
    (IsImported i l → Q) → Q
imported-cases i m l Q h here later = go (same m.id i) refl
  where
    go : (b : Bool) → same m.id i ≡ b → Q
    go true e = here e
    go false e = later (imported-tail i m l e h)

-- one is noted: the others stay imported
pub note-stays : (i : List ℕ) (m : Imported) (l : List Imported) → IsImported i l → IsImported i (note_in m l)
unfolding note_in
note-stays i m [] h = absurd (none-imported i h)
note-stays i m (k ∷ l) h = go (same k.id m.id) refl (note-stays i m l)
  where
    go : (b : Bool) → same k.id m.id ≡ b → (IsImported i l → IsImported i (note_in m l)) → IsImported i (cond b (m ∷ l) (k ∷ note_in m l))
    go true e ih =
        imported-cases i k l (IsImported i (m ∷ l)) h
        (λ w. imported-here i m l (ap (λ (j : List ℕ). same j i) (sym (same-equal k.id m.id e)) ∙ w)) (λ w. imported-later i m l w)
    go false e ih = imported-cases i k l (IsImported i (k ∷ note_in m l)) h (λ w. imported-here i k (note_in m l) w)
        (λ w. imported-later i k (note_in m l) (ih w))

-- one is dropped: the others stay imported
pub drop-stays : (i j : List ℕ) (l : List Imported) → same i j ≡ false → IsImported i l → IsImported i (filter (λ m. not (same m.id j)) l)
unfolding filter
drop-stays i j [] n h = absurd (none-imported i h)
drop-stays i j (k ∷ l) n h = go (same k.id j) refl (drop-stays i j l n)
  where
    go : (b : Bool) → same k.id j ≡ b → (IsImported i l → IsImported i (filter (λ m. not (same m.id j)) l)) →
        IsImported i (cond (not b) (k ∷ filter (λ m. not (same m.id j)) l) (filter (λ m. not (same m.id j)) l))
    go true e ih =
        ih (imported-tail i k l (same-not k.id i (λ q. not-same i j n (sym q ∙ same-equal k.id j e))) h)
    go false e ih =
        imported-cases i k l (IsImported i (k ∷ filter (λ m. not (same m.id j)) l)) h (λ w. imported-here i k _ w)
        (λ w. imported-later i k _ (ih w))
