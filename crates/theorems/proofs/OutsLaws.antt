-- The whole second pass: what it makes of *work*, item by item, imports and others in any order, and the state that it leaves. Until its own
-- import the namespace is held as the first pass left it (`Early`), and then it is settled (`Late`); both are carried by all other items.
use Rattle.std.specs.Prelude.{Option, None, Some}
use Prim.Native.Nat.{ℕ, zero, suc, ◌+◌}
use mathlib.Core.Path.{◌≡◌, refl, sym, ap, subst, ◌∙◌}
use mathlib.Core.Logic.{◌⊎◌, inl, inr}
use mathlib.Core.Bool.{Bool, true, false, ◌&&◌, ◌||◌, true≢false, and-false, and-true}
use mathlib.Core.List.{List, [], ◌∷◌, ◌++◌}
use native.Mathlib.Omega.{arith}
use Rattle.scope.specs.Id.{require_atom, local, export}
use Rattle.tree.specs.Layout.{same, two, four, name_of, context_of, value_of}
use Rattle.tree.specs.Tree.{Field, field, Fields, none, more, tag_of, fixed_of, parts_of, size}
use Rattle.tree.proofs.Table.{both-true}
use Rattle.metadata.specs.Metadata.{append}
use Rattle.inputs.specs.Outcome.{done, onto}
use Rattle.inputs.specs.Lists.{filter, among}
use Rattle.inputs.specs.Fields.{has, keep, sole}
use Rattle.extraction_rules.specs.State.{State, Usage, second, Setting, give, set_top}
use Rattle.extraction_rules.specs.First.{external, force_id, imported_as, specifiers_in, attributes_in, with_context, stays}
use Rattle.extraction_rules.specs.Second.{usages_of, take_apart, on_sole, import_second, finish}
use Rattle.extraction_rules.specs.Walk.{walk, walk_all, walk_module, walk_again}
use Rattle.extraction_rules.proofs.OutcomeLaws.{After, after-bind, after-both, after-weaken, after-if}
use Rattle.extraction_rules.proofs.ListLaws.{All}
use Rattle.extraction_rules.proofs.FirstLaws.{source-cases}
use Rattle.extraction_rules.proofs.AlikeLaws.{Regular, regular-alike}
use Rattle.extraction_rules.proofs.TableLaws.{record_of}
use Rattle.extraction_rules.proofs.SeekLaws.{seek, holds_in, force-own, force-tables, forgotten-usages}
use Rattle.extraction_rules.proofs.SpaceLaws.{Property}
use Rattle.extraction_rules.proofs.ValueLaws.{walk-second}
use Rattle.extraction_rules.proofs.StayLaws.{import-stays}
use Rattle.extraction_rules.proofs.KeepLaws.{Each, no-context, no-specifiers, keep-all}
use Rattle.placement.specs.Stands.{How, original, is_use, properties}
use Rattle.placement.specs.Placed.{all}
use Rattle.placement.proofs.WaysLaws.{ways, ways_all, ways-alike}
use Rattle.placement.proofs.HowLaws.{all_plain, plain-append}
use Rattle.theorems.specs.Demand.{property_fields, is_used}
use Rattle.theorems.proofs.HeldLaws.{usages_for, Stood, Held, Unfelt, held-unfelt, held-like, held-force, held-top}
use Rattle.theorems.proofs.ImportedLaws.{Redeclared}
use Rattle.theorems.proofs.FirstPassLaws.{Beside, Around, other-import}
use Rattle.theorems.proofs.SettledLaws.{Sits, Settled, settled-unfelt, takes_apart, used-properties, unused-properties, Declared, second-own, second-other}
use Rattle.theorems.proofs.OutLaws.{Carried, walk-out}
use Rattle.theorems.proofs.GoneLaws.{out-alike}
use Rattle.theorems.proofs.CleanLaws.{Clean, Spec, second-clean, specs-of}
use Rattle.theorems.proofs.PairedLaws.{PairedAll, Paired}
use Rattle.theorems.proofs.WorkedLaws.{WorkedItem, Worked}
use Rattle.theorems.proofs.RecordLaws.{Ended, finish-ended}
use Rattle.theorems.proofs.OutFieldLaws.{Out, Fine, fine-append, Says}

-- ---- An import changes neither usages nor imported ids

abbrev Same : State → State → Type 0
Same s t = (t.usages ≡ s.usages) × (t.imported ≡ s.imported)

apart-same : (us : List Usage) (y : List ℕ) (ds : Fields) (s : State) → After (take_apart us y ds s) (λ g t. Same s t)
unfolding take_apart
apart-same [] y ds s = source-cases (value_of y) s (λ t. Same s t) (λ _. (refl, refl)) (refl, refl)
apart-same (u ∷ us) y ds s = (refl, refl)

sole-same : (o : Option Field) (y : List ℕ) (ds : Fields) (s : State) → After (on_sole o y ds s) (λ g t. Same s t)
unfolding on_sole
sole-same None y ds s = (refl, refl)
sole-same (Some f) y ds s = after-if (has 0x22 f) _ (give (field 0x10 y ds)) s (λ g t. Same s t) (λ _. apart-same (usages_of (fixed_of f) s.usages) y ds s) (λ _. (refl, refl))

second-same : (e : Setting) (y : List ℕ) (ds : Fields) (s : State) → After (import_second e y ds s) (λ g t. Same s t)
unfolding import_second
second-same e y ds s =
    after-if (external e y || among (value_of y) s.forced) (give (field 0x10 y ds)) (on_sole (sole (specifiers_in ds)) y ds) s (λ g t. Same s t)
    (λ _. (refl, refl)) (λ _. sole-same (sole (specifiers_in ds)) y ds s)

module _ (taken : Bool) (i c : List ℕ) (own : ℕ) where
  stays-out : (f g : Field) → Out taken i c own f g → stays f ≡ true → stays g ≡ true
  unfolding stays
  stays-out (field t x cs) (field k y ds) (inr h) q = rw (h.bare, h.out)
  stays-out (field t x none) (field k y none) (inl h) q = rw h.0 q
  stays-out (field t x none) (field k y (more g gs)) (inl h) q = absurd (let e = h.3 in let z : ◌≡◌ {A = ℕ} 0 1 = cc in omega arith)
  stays-out (field t x (more f fs)) (field k y none) (inl h) q = absurd (let e = h.3.2 in let z : ◌≡◌ {A = ℕ} 0 1 = cc in omega arith)
  stays-out (field t x (more f fs)) (field k y (more g gs)) (inl h) q = rw h.0 q

module _ (i lit : List ℕ) (own file n : ℕ) (us : List How) (context : context_of i ≡ four (local own)) (named : same (name_of i) (two require_atom) ≡ false) where
  abbrev c : List ℕ
  c = four (export n)

  abbrev taken : Bool
  taken = takes_apart us

  abbrev ps : List (List ℕ)
  ps = properties us

  abbrev plain : Bool
  plain = all_plain us

  -- a state that holds J of the namespace
  abbrev Holding : (State → Type 0) → State → Type 0
  Holding J s = J s × Says own s × All (λ u. Property u.property) s.usages

  -- before its own import, and behind it
  abbrev Early : State → Type 0
  Early s = Held i lit own file n us s

  abbrev Late : State → Type 0
  Late s = Settled taken i lit c ps s

  pub taken-plain : taken ≡ true → plain ≡ true
  taken-plain t = (both-true (is_used (filter is_use us)) (all_plain us) t).1

  -- the id itself is forced: only where the import is kept
  settled-force : (s : State) (b : Bool) → b ≡ taken → (b ≡ true → ⊥) → Late s → Late (force_id i s)
  settled-force s true q d h = absurd (d refl)
  settled-force s false q d h =
      let t = force-tables i s in
      record {
        entry = ap (record_of (value_of lit)) t.0 ∙ h.entry;
        alone = λ j k. h.alone j (sym (ap (seek (holds_in j)) t.0) ∙ k);
        holds = ap (seek (holds_in i)) t.0 ∙ h.holds;
        sits = subst (λ (b : Bool). Sits b i (value_of lit) c ps (force_id i s)) q (ap (usages_of i) t.3 ∙ forgotten-usages i s.usages, force-own i (value_of lit) s h.holds);
      }

  late-carried : Carried plain taken i lit c own file ps Late
  late-carried =
      record {
        on_unfelt = λ s t u h. settled-unfelt i lit own file taken c ps s t u h;
        on_force = λ s d h. settled-force s taken refl (λ q. d (taken-plain q)) h;
        alone = λ s j h k. h.alone j k;
        apart = λ s h q. let k : Sits true i (value_of lit) c ps s = subst (λ (b : Bool). Sits b i (value_of lit) c ps s) q h.sits in (k.0, k.1);
        kept = λ s h q. (subst (λ (b : Bool). Sits b i (value_of lit) c ps s) q h.sits).0;
      }

  early-force : (s : State) → (plain ≡ true → ⊥) → Early s → Early (force_id i s)
  unfolding filter all
  early-force s d h = go plain refl
    where
      go : (b : Bool) → plain ≡ b → Early (force_id i s)
      go true q = absurd (d q)
      go false q =
          let w = plain-append us (original ∷ []) ∙ and-false plain in
          held-like i lit own file n (us ++ (original ∷ [])) us (force_id i s) (w ∙ sym q) (λ e. absurd (true≢false (sym e ∙ w))) (held-force i lit own file n us s original refl refl h)

  early-apart : (s : State) → Early s → taken ≡ true → (imported_as i s.imported ≡ Some c) × (usages_of i s.usages ≡ usages_for i c ps)
  early-apart s h q = go plain (taken-plain q) h.stood
    where
      go : (b : Bool) → b ≡ true → Stood i (value_of lit) c b ps s → (imported_as i s.imported ≡ Some c) × (usages_of i s.usages ≡ usages_for i c ps)
      go true e k = (k.0, k.1)
      go false e k = absurd (true≢false (sym e))

  -- kept: forced, or without a use
  early-kept : (s : State) → Early s → taken ≡ false → usages_of i s.usages ≡ []
  early-kept s h q = go plain refl h.stood
    where
      unused : is_used (filter is_use us) && true ≡ false → ps ≡ []
      unused e = (unused-properties us (sym (and-true (is_used (filter is_use us))) ∙ e)).1

      go : (b : Bool) → plain ≡ b → Stood i (value_of lit) c b ps s → usages_of i s.usages ≡ []
      go true e k = k.1 ∙ ap (usages_for i c) (unused (ap (λ (b : Bool). is_used (filter is_use us) && b) (sym e) ∙ q))
      go false e k = k.1

  early-carried : Carried plain taken i lit c own file ps Early
  early-carried =
      record {
        on_unfelt = λ s t u h. held-unfelt i lit own file n us s t u h;
        on_force = early-force;
        alone = λ s j h k. h.alone j k;
        apart = early-apart;
        kept = early-kept;
      }

  taken-used : taken ≡ true → ps ≡ [] → ⊥
  taken-used t q = true≢false (sym (both-true (is_used (filter is_use us)) (all_plain us) t).0 ∙ used-properties us (both-true (is_used (filter is_use us)) (all_plain us) t).1 q)

  -- the specifiers of the declaration
  abbrev pub own_specifiers : Bool → Fields
  own_specifiers true = property_fields 0x20 c ps
  own_specifiers false = more (field 0x22 i none) none

  abbrev pub OwnOut : Field → Type 0
  OwnOut g = (cs : Fields) × (g ≡ field 0x10 lit cs) × (specifiers_in cs ≡ own_specifiers taken)

  abbrev pub OutItem : Field → Field → Type 0
  OutItem f g = ((tag_of f ≡ 0x10) × Clean i own context (fixed_of f) g) ⊎ (Regular f × Out taken i c own f g)

  abbrev pub OutOwn : Field → Field → Type 0
  OutOwn f g = (tag_of f ≡ 0x10) × OwnOut g

  abbrev pub Outs : ℕ → Fields → Fields → Type 0
  Outs k fs gs = Paired OutOwn OutItem k fs gs

  -- what stays in *work* stays in *out*
  item-stays : (f g : Field) → OutItem f g → stays f ≡ true → stays g ≡ true
  item-stays f g (inl h) q = import-stays g h.1.0
  item-stays f g (inr h) q = stays-out taken i c own f g h.1 q

  behind-stay : (fs gs : Fields) → PairedAll OutItem fs gs → Each (λ f. stays f ≡ true) fs → Each (λ f. stays f ≡ true) gs
  behind-stay none gs h k = rw h tt
  behind-stay (more f fs) gs h k = subst (Each (λ f. stays f ≡ true)) (sym h.2) (item-stays f h.0 h.3 k.0, behind-stay fs h.1 h.4 k.1)

  outs-stay : (k : ℕ) (fs gs : Fields) → Outs k fs gs → Each (λ f. stays f ≡ true) fs → Each (λ f. stays f ≡ true) gs
  outs-stay k none gs h w = absurd h
  outs-stay zero (more f fs) gs h w = subst (Each (λ f. stays f ≡ true)) (sym h.2) (import-stays h.0 (ap tag_of h.3.1.1), behind-stay fs h.1 h.4 w.1)
  outs-stay (suc k) (more f fs) gs h w = subst (Each (λ f. stays f ≡ true)) (sym h.2) (item-stays f h.0 h.3 w.0, outs-stay k fs h.1 h.4 w.1)

  module _ (e : Setting) (two-pass : e.pass ≡ second) (inner : external e lit ≡ false) where
    -- another import
    other-again : (y : List ℕ) (g : Field) (p : ℕ) (s : State) → same (value_of y) (value_of lit) ≡ false → Clean i own context y g → All (λ u. Property u.property) s.usages →
        After (walk g e false p s) (λ h t. Clean i own context y h × Unfelt i lit own file s t × Same s t)
    other-again y g p s d k h =
        rw (walk-second e two-pass g p s k.0, k.1)
        (after-weaken (import_second e y (parts_of g) s) (λ h t. Clean i own context y h × (Unfelt i lit own file s t × Same s t))
        (λ h t. Clean i own context y h × Unfelt i lit own file s t × Same s t) (λ h t w. (w.0, w.1.0, w.1.1))
        (after-both (import_second e y (parts_of g) s) (λ h t. Clean i own context y h) (λ h t. Unfelt i lit own file s t × Same s t) (second-clean i own context e y (parts_of g) s h k.2)
        (after-both (import_second e y (parts_of g) s) (λ h t. Unfelt i lit own file s t) (λ h t. Same s t) (second-other i lit own file e y (parts_of g) s d) (second-same e y (parts_of g) s))))

    -- an item beside the import, before it or behind it
    item-again : (J : State → Type 0) → Carried plain taken i lit c own file ps J → (f g : Field) (p : ℕ) (s : State) → Beside i lit own file f → WorkedItem i lit own file context f g →
        Fine plain (ways f i false) → Holding J s → After (walk g e false p s) (λ h t. Holding J t × OutItem f h)
    item-again J carried f g p s b (inl w) fine at =
        after-weaken (walk g e false p s) (λ h t. Clean i own context (fixed_of f) h × Unfelt i lit own file s t × Same s t) (λ h t. Holding J t × OutItem f h)
        (λ h t k. ((carried.on_unfelt s t k.1 at.0, (λ j. rw (k.2.0, k.2.1) (at.1 j)), rw k.2.0 at.2), inl (w.0, k.0)))
        (other-again (fixed_of f) g p s (other-import i lit own file f b w.0).source w.1 at.2)
    item-again J carried f g p s b (inr w) fine at =
        after-weaken (walk g e false p s) (λ h t. Holding J t × Out taken i c own g h) (λ h t. Holding J t × OutItem f h)
        (λ h t k. (k.0, inr (w.0, out-alike taken i c own named f g h w.1 k.1)))
        (walk-out plain taken taken-plain i lit own file n ps J carried taken-used named context e two-pass g false p s (regular-alike f g w.1 w.0)
        (subst (Fine plain) (sym (ways-alike i named f g false w.1)) fine) at)

    behind-again : (fs gs : Fields) (p : ℕ) (s : State) → Each (Beside i lit own file) fs → PairedAll (WorkedItem i lit own file context) fs gs →
        Fine plain (ways_all fs i false) → Holding Late s →
        After (walk_all gs e false p s) (λ hs t. Holding Late t × PairedAll OutItem fs hs)
    unfolding walk ways
    behind-again none gs p s b w fine at = rw w (at, refl)
    behind-again (more f fs) gs p s b w fine at =
        let k = fine-append plain (ways f i false) (ways_all fs i false) fine in
        rw w.2
        (after-bind (walk w.0 e false p s) _ (λ g t. Holding Late t × OutItem f g) (λ hs t. Holding Late t × PairedAll OutItem (more f fs) hs)
        (item-again Late late-carried f w.0 p s b.0 w.3 k.0 at) λ g s y.
        after-bind (walk_all w.1 e false (p + size w.0) s) _ (λ hs t. Holding Late t × PairedAll OutItem fs hs) (λ hs t. Holding Late t × PairedAll OutItem (more f fs) hs)
        (behind-again fs w.1 (p + size w.0) s b.1 w.4 k.1 y.0) λ hs s z. (z.0, (g, hs, refl, y.1, z.1)))

    early-top : (s : State) → Holding Early s → Holding Early (set_top true s)
    early-top s h = (held-top i lit own file n us s true h.0, h.1, h.2)

    -- the declaration in *work*, and what becomes of it
    worked-specifiers : (ds : Fields) (m : Option ℕ) → specifiers_in (append (more (field 0x22 i none) none) (with_context m ds)) ≡ more (field 0x22 i none) none
    worked-specifiers ds m = specs-of (more (field 0x22 i none) none) (with_context m ds) (refl, tt) (no-context m ds)

    property-specs : (l : List (List ℕ)) → Each Spec (property_fields 0x20 c l)
    property-specs [] = tt
    property-specs (p ∷ l) = (refl, property-specs l)

    declared-out : (b : Bool) → b ≡ taken → (ds : Fields) (g : Field) → specifiers_in ds ≡ more (field 0x22 i none) none → Declared i lit own file b c ps ds g → OwnOut g
    declared-out true q ds g k h =
        (append (property_fields 0x20 c ps) (attributes_in ds), h, specs-of (property_fields 0x20 c ps) (attributes_in ds) (property-specs ps) (no-specifiers ds) ∙ ap own_specifiers q)
    declared-out false q ds g k h = (ds, h, k ∙ ap own_specifiers q)

    own-again : (ds : Fields) (g : Field) (p : ℕ) (s : State) → Redeclared i lit own file context ds g → Holding Early s → After (walk g e false p s) (λ h t. OwnOut h × Holding Late t)
    unfolding sole
    own-again ds g p s r h =
        let es : Fields = append (more (field 0x22 i none) none) (with_context r.0 ds) in
        let w : specifiers_in es ≡ more (field 0x22 i none) none = worked-specifiers ds r.0 in
        rw (r.1, walk-second e two-pass (field 0x10 lit es) p s refl)
        (after-weaken (import_second e lit es s) (λ h t. (Settled taken i lit c ps t × Declared i lit own file taken c ps es h) × Same s t) (λ h t. OwnOut h × Holding Late t)
        (λ g t k. (declared-out taken refl es g w k.0.1, (k.0.0, (λ j. rw (k.1.0, k.1.1) (h.1 j)), rw k.1.0 h.2)))
        (after-both (import_second e lit es s) (λ h t. Settled taken i lit c ps t × Declared i lit own file taken c ps es h) (λ h t. Same s t)
        (second-own i lit own file n us e es s inner (rw w refl) h.0) (second-same e lit es s)))

    around-again : (k : ℕ) (fs gs : Fields) (p : ℕ) (s : State) → Around i lit own file k fs → Worked i lit own file context k fs gs →
        Fine plain (ways_all fs i false) → Holding Early s →
        After (walk_all gs e false p s) (λ hs t. Holding Late t × Outs k fs hs)
    unfolding walk ways
    around-again k none gs p s b w fine h = absurd w
    around-again zero (more f fs) gs p s b w fine h =
        rw w.2
        (after-bind (walk w.0 e false p s) _ (λ g t. OwnOut g × Holding Late t) (λ hs t. Holding Late t × Outs zero (more f fs) hs) (own-again (parts_of f) w.0 p s w.3.1 h) λ g s k.
        after-bind (walk_all w.1 e false (p + size w.0) s) _ (λ hs t. Holding Late t × PairedAll OutItem fs hs) (λ hs t. Holding Late t × Outs zero (more f fs) hs)
        (behind-again fs w.1 (p + size w.0) s b.1 w.4 (fine-append plain (ways f i false) (ways_all fs i false) fine).1 k.1) λ hs s r.
        (r.0, (g, hs, refl, (w.3.0, k.0), r.1)))
    around-again (suc k) (more f fs) gs p s b w fine h =
        let l = fine-append plain (ways f i false) (ways_all fs i false) fine in
        rw w.2
        (after-bind (walk w.0 e false p s) _ (λ g t. Holding Early t × OutItem f g) (λ hs t. Holding Late t × Outs (suc k) (more f fs) hs)
        (item-again Early early-carried f w.0 p s b.0 w.3 l.0 h) λ g s y.
        after-bind (walk_all w.1 e false (p + size w.0) s) _ (λ hs t. Holding Late t × Outs k fs hs) (λ hs t. Holding Late t × Outs (suc k) (more f fs) hs)
        (around-again k fs w.1 (p + size w.0) s b.1 w.4 l.1 y.0) λ hs s r. (r.0, (g, hs, refl, y.1, r.1)))

    -- the second pass with its end; the items are those that stay
    pub second-pass : (k : ℕ) (items works : Fields) (s : State) → Around i lit own file k items → Each (λ f. stays f ≡ true) items → Worked i lit own file context k items works →
        Fine plain (ways_all items i false) → Holding Early s → After (walk_again e works s) (λ outs t. Outs k items outs × Ended taken i lit c ps t)
    unfolding walk_again walk_module
    second-pass k items works s b st w fine h =
        after-bind (onto (walk_all works e false 3 (set_top true s)) (λ r. done (keep stays r.0, r.1))) _
        (λ outs t. Holding Late t × Outs k items outs) (λ outs t. Outs k items outs × Ended taken i lit c ps t)
        (after-bind (walk_all works e false 3 (set_top true s)) _ (λ gs t. Holding Late t × Outs k items gs)
        (λ outs t. Holding Late t × Outs k items outs)
        (around-again k items works 3 (set_top true s) b w fine (early-top s h)) λ gs t r.
        (r.0, subst (Outs k items) (sym (keep-all stays gs (outs-stay k items gs r.1 st))) r.1)) λ outs t r.
        after-bind (finish e t) _ (λ _ u. Ended taken i lit c ps u) (λ outs t. Outs k items outs × Ended taken i lit c ps t) (finish-ended taken i lit c ps e t r.0.0) λ _ u v. (r.1, v)
