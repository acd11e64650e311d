-- The second pass over the imports: the namespace's own import settles what becomes of it; the others do not touch it.
use Rattle.std.specs.Prelude.{Option, None, Some}
use Prim.Native.Nat.{ℕ}
use mathlib.Core.Path.{◌≡◌, refl, sym, ap, ◌∙◌}
use mathlib.Core.Bool.{Bool, true, false, ◌&&◌, ◌||◌, true≢false, or-false, and-false, and-true}
use mathlib.Core.List.{List, [], ◌∷◌, ◌++◌, map}
use native.Mathlib.Omega.{arith}
use Rattle.scope.specs.Id.{export}
use Rattle.tree.specs.Layout.{same, four, value_of}
use Rattle.tree.specs.Tree.{Field, field, Fields, none, more, fixed_of}
use Rattle.metadata.specs.Metadata.{append}
use Rattle.inputs.specs.Lists.{filter, is_some, mapped, among}
use Rattle.inputs.specs.Fields.{has, find_field, sole}
use Rattle.extraction_rules.specs.State.{Record, Usage, State, Setting, give, set_collected}
use Rattle.extraction_rules.specs.First.{external, force_source, imported_as, suits, specifiers_in, attributes_in}
use Rattle.extraction_rules.specs.Second.{usages_of, specifiers_from, extend, take_apart, on_sole, import_second}
use Rattle.extraction_rules.proofs.OutcomeLaws.{After, after-if}
use Rattle.extraction_rules.proofs.ListLaws.{same-swap, among-last, among-new}
use Rattle.extraction_rules.proofs.FirstLaws.{source-cases, extend-literal}
use Rattle.extraction_rules.proofs.TableLaws.{record_of, record-map, record-extend, seek-extend, extend-own, from-finds}
use Rattle.extraction_rules.proofs.SeekLaws.{seek, holds_in, suits_in, find-append}
use Rattle.placement.specs.Stands.{How, plain, computed, bare, original, imported, otherwise, is_use, properties}
use Rattle.placement.specs.Placed.{all}
use Rattle.placement.proofs.HowLaws.{all_plain}
use Rattle.theorems.specs.Demand.{property_fields, is_used}
use Rattle.theorems.proofs.HeldLaws.{usages_for, Stood, own_record, Held, Unfelt}

-- the record of the source, where the import is taken apart and where it is kept
abbrev pub settled_record : Bool → List ℕ → List ℕ → List ℕ → List (List ℕ) → Record
settled_record true i lit c ps = record { literal = lit; specifiers = append (more (field 0x22 i none) none) (property_fields 0x20 c ps) }
settled_record false i lit c ps = own_record i lit

abbrev pub Sits : Bool → List ℕ → List ℕ → List ℕ → List (List ℕ) → State → Type 0
Sits true i a c ps s = (imported_as i s.imported ≡ Some c) × (usages_of i s.usages ≡ usages_for i c ps) × (among a s.forced ≡ false)
Sits false i a c ps s = (usages_of i s.usages ≡ []) × (among a s.forced ≡ true)

-- behind its import: taken apart or kept, with the export context c and the properties ps
pub record Settled (taken : Bool) (i lit c : List ℕ) (ps : List (List ℕ)) (s : State) : Type 0 where
  pub entry : record_of (value_of lit) s.collected ≡ Some (settled_record taken i lit c ps)
  pub alone : (j : List ℕ) → seek (holds_in j) s.collected ≡ Some (value_of lit) → j ≡ i
  pub holds : seek (holds_in i) s.collected ≡ Some (value_of lit)
  pub sits : Sits taken i (value_of lit) c ps s

-- it is used, and every use is plain
abbrev pub takes_apart : List How → Bool
takes_apart us = is_used (filter is_use us) && all_plain us

pub from-usages : (i c : List ℕ) (ps : List (List ℕ)) → specifiers_from (usages_for i c ps) ≡ property_fields 0x20 c ps
unfolding specifiers_from
from-usages i c [] = refl
from-usages i c (p ∷ ps) = ap (more (field 0x20 (p ++ c ++ 0 ∷ []) none)) (from-usages i c ps)

-- uses that are all plain have a property each
pub used-properties : (us : List How) → all_plain us ≡ true → properties us ≡ [] → is_used (filter is_use us) ≡ false
unfolding all filter properties
used-properties [] h k = refl
used-properties (plain p ∷ us) h k = absurd (let z : ◌≡◌ {A = ℕ} 0 1 = cc in omega arith)
used-properties (computed ∷ us) h k = absurd (true≢false (sym h))
used-properties (bare ∷ us) h k = absurd (true≢false (sym h))
used-properties (original ∷ us) h k = absurd (true≢false (sym h))
used-properties (imported ∷ us) h k = used-properties us h k
used-properties (otherwise ∷ us) h k = used-properties us h k

pub unused-properties : (us : List How) → is_used (filter is_use us) ≡ false → (all_plain us ≡ true) × (properties us ≡ [])
unfolding all filter properties
unused-properties [] h = (refl, refl)
unused-properties (plain p ∷ us) h = absurd (true≢false h)
unused-properties (computed ∷ us) h = absurd (true≢false h)
unused-properties (bare ∷ us) h = absurd (true≢false h)
unused-properties (original ∷ us) h = absurd (true≢false h)
unused-properties (imported ∷ us) h = unused-properties us h
unused-properties (otherwise ∷ us) h = unused-properties us h

module _ (i lit : List ℕ) (own file : ℕ) where
  abbrev a : List ℕ
  a = value_of lit

  abbrev U : State → State → Type 0
  U s t = Unfelt i lit own file s t

  pub settled-unfelt : (taken : Bool) (c : List ℕ) (ps : List (List ℕ)) (s t : State) → U s t → Settled taken i lit c ps s → Settled taken i lit c ps t
  settled-unfelt taken c ps s t u h = record { entry = u.entry ∙ h.entry; alone = λ j q. h.alone j (u.holders j q); holds = u.holder ∙ h.holds; sits = go taken h.sits }
    where
      go : (b : Bool) → Sits b i a c ps s → Sits b i a c ps t
      go true k = (u.context ∙ k.0, u.usages ∙ k.1, u.forced ∙ k.2)
      go false k = (u.usages ∙ k.0, u.forced ∙ k.1)

  -- ---- Another import

  unfelt-extend : (y : List ℕ) (us : List Usage) (s : State) → same (value_of y) a ≡ false → U s (set_collected (map (extend y (specifiers_from us)) s.collected) s)
  unfelt-extend y us s d =
      let lacks : (p : Field → Bool) → ((z : List ℕ) → p (field 0x20 z none) ≡ false) → (gs : Fields) →
      find_field p (append gs (specifiers_from us)) ≡ find_field p gs = λ p k gs. find-append p gs (specifiers_from us) (from-finds p us k) in
      record {
        entry = record-extend a y (specifiers_from us) s.collected d;
        holders = λ j q. sym (seek-extend (holds_in j) y (specifiers_from us) s.collected (λ gs. ap is_some (lacks (λ f. has 0x22 f && same (fixed_of f) j) (λ z. refl) gs))) ∙ q;
        holder = seek-extend (holds_in i) y (specifiers_from us) s.collected (λ gs. ap is_some (lacks (λ f. has 0x22 f && same (fixed_of f) i) (λ z. refl) gs));
        suited = seek-extend (suits_in own i) y (specifiers_from us) s.collected (λ gs. ap (suits own i) (lacks (has 0x22) (λ z. refl) gs));
        number = λ n q. q;
        context = refl;
        usages = refl;
        forced = refl;
      }

  unfelt-source : (b : List ℕ) (s : State) → same b a ≡ false → U s (force_source b s)
  unfelt-source b s d =
      source-cases b s (λ t. U s t) (λ _. record { entry = refl; holders = λ j q. q; holder = refl; suited = refl; number = λ n q. q; context = refl; usages = refl; forced = refl })
      (record {
        entry = refl;
        holders = λ j q. q;
        holder = refl;
        suited = refl;
        number = λ n q. q;
        context = refl;
        usages = refl;
        forced =
            among-last a b s.forced ∙ ap (λ (c : Bool). among a s.forced || c) (same-swap a b ∙ d) ∙ or-false (among a s.forced);
      })

  apart-other : (us : List Usage) (y : List ℕ) (ds : Fields) (s : State) → same (value_of y) a ≡ false → After (take_apart us y ds s) (λ g t. U s t)
  unfolding take_apart
  apart-other [] y ds s d = unfelt-source (value_of y) s d
  apart-other (u ∷ us) y ds s d = unfelt-extend y (u ∷ us) s d

  unfelt-same : (s : State) → U s s
  unfelt-same s = record { entry = refl; holders = λ j q. q; holder = refl; suited = refl; number = λ n q. q; context = refl; usages = refl; forced = refl }

  sole-other : (o : Option Field) (y : List ℕ) (ds : Fields) (s : State) → same (value_of y) a ≡ false → After (on_sole o y ds s) (λ g t. U s t)
  unfolding on_sole
  sole-other None y ds s d = unfelt-same s
  sole-other (Some f) y ds s d = after-if (has 0x22 f) _ (give (field 0x10 y ds)) s (λ g t. U s t) (λ _. apart-other (usages_of (fixed_of f) s.usages) y ds s d) (λ _. unfelt-same s)

  -- S2
  pub second-other : (e : Setting) (y : List ℕ) (ds : Fields) (s : State) → same (value_of y) a ≡ false → After (import_second e y ds s) (λ g t. U s t)
  unfolding import_second
  second-other e y ds s d =
      after-if (external e y || among (value_of y) s.forced) (give (field 0x10 y ds)) (on_sole (sole (specifiers_in ds)) y ds) s (λ g t. U s t)
      (λ _. unfelt-same s) (λ _. sole-other (sole (specifiers_in ds)) y ds s d)

  -- ---- Its own import

  -- what becomes of the declaration
  abbrev pub Declared : Bool → List ℕ → List (List ℕ) → Fields → Field → Type 0
  Declared true c ps ds g = g ≡ field 0x10 lit (append (property_fields 0x20 c ps) (attributes_in ds))
  Declared false c ps ds g = g ≡ field 0x10 lit ds

  abbrev Ended : Bool → List ℕ → List (List ℕ) → Fields → Field → State → Type 0
  Ended taken c ps ds g t = Settled taken i lit c ps t × Declared taken c ps ds g

  module _ (n : ℕ) (us : List How) where
    abbrev c : List ℕ
    c = four (export n)

    abbrev H : State → Type 0
    H s = Held i lit own file n us s

    kept-forced : (ds : Fields) (s : State) → H s → Stood i a c false (properties us) s → Ended false c (properties us) ds (field 0x10 lit ds) s
    kept-forced ds s h k = (record { entry = h.entry; alone = h.alone; holds = h.holds; sits = (k.1, k.2) }, refl)

    kept-unused : (ds : Fields) (s : State) → H s → usages_of i s.usages ≡ [] → Ended false c (properties us) ds (field 0x10 lit ds) (force_source a s)
    kept-unused ds s h k =
        source-cases a s (λ t. Ended false c (properties us) ds (field 0x10 lit ds) t)
        (λ q. (record { entry = h.entry; alone = h.alone; holds = h.holds; sits = (k, q) }, refl))
        (record { entry = h.entry; alone = h.alone; holds = h.holds; sits = (k, among-new a s.forced) }, refl)

    taken-apart : (ds : Fields) (s : State) (v : List Usage) → v ≡ usages_for i c (properties us) → H s → Stood i a c true (properties us) s →
        Ended true c (properties us) ds (field 0x10 lit (append (specifiers_from v) (attributes_in ds))) (set_collected (map (extend lit (specifiers_from v)) s.collected) s)
    taken-apart ds s v q h k =
        let fs : Fields = property_fields 0x20 c (properties us) in
        let r : specifiers_from v ≡ fs = ap specifiers_from q ∙ from-usages i c (properties us) in
        let lacks : (j : List ℕ) (gs : Fields) → holds_in j (append gs (specifiers_from v)) ≡ holds_in j gs =
        λ j gs. ap is_some
        (find-append (λ f. has 0x22 f && same (fixed_of f) j) gs (specifiers_from v)
        (from-finds (λ f. has 0x22 f && same (fixed_of f) j) v (λ z. refl))) in (
          record {
            entry =
                record-map (extend lit (specifiers_from v)) a s.collected (extend-literal lit (specifiers_from v)) ∙ ap (mapped (extend lit (specifiers_from v))) h.entry ∙
                ap Some
                (extend-own lit (specifiers_from v) (more (field 0x22 i none) none)
                ∙ ap (λ (gs : Fields). record { literal = lit; specifiers = append (more (field 0x22 i none) none) gs }) r);
            alone = λ j w. h.alone j (sym (seek-extend (holds_in j) lit (specifiers_from v) s.collected (lacks j)) ∙ w);
            holds = seek-extend (holds_in i) lit (specifiers_from v) s.collected (lacks i) ∙ h.holds;
            sits = k;
          },
          ap (λ (gs : Fields). field 0x10 lit (append gs (attributes_in ds))) r,
        )

    apart-own : (ds : Fields) (s : State) (v : List Usage) → v ≡ usages_for i c (properties us) → usages_of i s.usages ≡ v → all_plain us ≡ true →
        H s → Stood i a c true (properties us) s →
        After (take_apart v lit ds s) (λ g t. Ended (is_used (filter is_use us)) c (properties us) ds g t)
    unfolding take_apart
    apart-own ds s [] q w b h k = rw (used-properties us b (go (properties us) q)) (kept-unused ds s h w)
      where
        go : (ps : List (List ℕ)) → [] ≡ usages_for i c ps → ps ≡ []
        go [] q = refl
        go (p ∷ ps) q = absurd (let z : ◌≡◌ {A = ℕ} 0 1 = cc in omega arith)
    apart-own ds s (u ∷ v) q w b h k = go (is_used (filter is_use us)) refl
      where
        go : (d : Bool) → is_used (filter is_use us) ≡ d →
            Ended d c (properties us) ds (field 0x10 lit (append (specifiers_from (u ∷ v)) (attributes_in ds)))
            (set_collected (map (extend lit (specifiers_from (u ∷ v))) s.collected) s)
        go true e = taken-apart ds s (u ∷ v) q h k
        go false e = absurd (let r : u ∷ v ≡ usages_for i c [] = q ∙ ap (usages_for i c) (unused-properties us e).1 in let z : ◌≡◌ {A = ℕ} 0 1 = cc in omega arith)

    -- S1
    pub second-own : (e : Setting) (ds : Fields) (s : State) → external e lit ≡ false → sole (specifiers_in ds) ≡ Some (field 0x22 i none) → H s →
        After (import_second e lit ds s) (λ g t. Ended (takes_apart us) c (properties us) ds g t)
    unfolding import_second on_sole
    second-own e ds s d q h = go (all_plain us) refl
      where
        go : (b : Bool) → all_plain us ≡ b → After (import_second e lit ds s) (λ g t. Ended (is_used (filter is_use us) && b) c (properties us) ds g t)
        go true b =
            let k : Stood i a c true (properties us) s = rw b at h.stood in
            rw (d, k.2, q, and-true (is_used (filter is_use us))) (apart-own ds s (usages_of i s.usages) k.1 refl b h k)
        go false b =
            let k : Stood i a c false (properties us) s = rw b at h.stood in
            rw (d, k.2, and-false (is_used (filter is_use us))) (kept-forced ds s h k)
