-- Other imports in both passes: none of their specifiers comes to hold the namespace's id.
use Rattle.std.specs.Prelude.{Option, None, Some}
use Prim.Native.Nat.{ℕ, ◌+◌, ◌<◌}
use mathlib.Core.Path.{◌≡◌, refl, sym, ap, subst, ◌∙◌}
use mathlib.Core.Bool.{Bool, true, false, not, cond, ◌||◌}
use mathlib.Core.List.{List, [], ◌∷◌, ◌++◌}
use native.Mathlib.Omega.{arith}
use lib.Dec.{eqb}
use lib.ListN.{length, take, drop, get_or, length-take, length-drop}
use borrow.Author.Tests.{eqb-true}
use Rattle.scope.specs.Id.{local, export}
use Rattle.tree.specs.Layout.{same, four, id_at, context_of, value_of}
use Rattle.tree.specs.Tree.{Field, field, Fields, none, more, tag_of, fixed_of, parts_of, size}
use Rattle.tree.specs.Within.{Exact}
use Rattle.metadata.specs.Metadata.{append}
use Rattle.inputs.specs.Outcome.{done, onto}
use Rattle.inputs.specs.Lists.{filter, among}
use Rattle.inputs.specs.Fields.{has, sole, inside}
use Rattle.extraction_rules.specs.State.{Usage, State, Setting, give, refuse}
use Rattle.extraction_rules.specs.First.{external, id_from, module_for, collect, note_id, outside_name, note_named, noted_context, note_specifier, note_all}
use Rattle.extraction_rules.specs.First.{note_specifiers, specifiers_in, attributes_in, with_context, import_first}
use Rattle.extraction_rules.specs.Second.{usages_of, specifiers_from, take_apart, on_sole, import_second}
use Rattle.extraction_rules.specs.Walk.{parts_for}
use Rattle.extraction_rules.proofs.OutcomeLaws.{After, after-bind, after-if}
use Rattle.extraction_rules.proofs.ValueLaws.{after-any}
use Rattle.extraction_rules.proofs.ListLaws.{All, all-filter, same-not, not-same}
use Rattle.extraction_rules.proofs.ExactLaws.{width-20}
use Rattle.extraction_rules.proofs.SpaceLaws.{Property}
use Rattle.extraction_rules.proofs.KeepLaws.{specifiers-front, not_attributes, no-context, no-specifiers, Each, each-weaken}
use Rattle.placement.specs.Stands.{How, imported, otherwise, ids_in}
use Rattle.placement.proofs.WaysLaws.{met, ways, ways_all}
use Rattle.theorems.proofs.OutFieldLaws.{export-foreign}

-- an outside name is an atom
outside-two : (x : List ℕ) → 6 < length x → (get_or x 6 0 ≡ 1 → length x ≡ 13) → length (outside_name x) ≡ 2
unfolding outside_name
outside-two x l k = go (eqb (get_or x 6 0) 1) refl
  where
    go : (b : Bool) → eqb (get_or x 6 0) 1 ≡ b → length (cond b (drop 7 (take 9 x)) (take 2 x)) ≡ 2
    go true q = let z = k (eqb-true (get_or x 6 0) 1 q) in simp (length-drop, length-take) (omega arith)
    go false q = simp length-take (omega arith)

-- a specifier is no 2F
abbrev pub Spec : Field → Type 0
Spec f = has 0x2F f ≡ false

pub specs-of : (fs gs : Fields) → Each Spec fs → specifiers_in gs ≡ none → specifiers_in (append fs gs) ≡ fs
specs-of fs gs h k = specifiers-front fs gs (each-weaken Spec (λ f. not_attributes f ≡ true) fs (λ f q. ap not q) h) k

module _ (i : List ℕ) (own : ℕ) (context : context_of i ≡ four (local own)) where
  -- the id stands nowhere in it
  abbrev pub Absent : Field → Type 0
  Absent f = ways f i false ≡ []

  foreign-id : (y : List ℕ) (n : ℕ) → context_of y ≡ four (export n) → same y i ≡ false
  foreign-id y n q = same-not y i (λ e. not-same (four (export n)) (four (local own)) (export-foreign n own) (sym q ∙ ap context_of e ∙ context))

  -- a 20 with a property as its id
  pub property-absent : (y : List ℕ) → Property y → Absent (field 0x20 (y ++ 0 ∷ []) none)
  unfolding ways ids_in met parts_for
  property-absent y ([], n, l, q) = absurd (omega arith)
  property-absent y (a ∷ [], n, l, q) = absurd (omega arith)
  property-absent y (a ∷ (b ∷ (c ∷ p)), n, l, q) = absurd (omega arith)
  property-absent y (a ∷ (b ∷ []), n, l, q) = rw (q, foreign-id (a ∷ (b ∷ four (export n))) n refl)

  named-new : (x o : List ℕ) (n : ℕ) → 6 < length x → length o ≡ 2 → same (id_at x 0) i ≡ false → Absent (field 0x20 (id_at x 0 ++ 1 ∷ id_from o (export n)) none)
  unfolding ways ids_in met parts_for
  named-new x [] n l k d = absurd (omega arith)
  named-new x (u ∷ []) n l k d = absurd (omega arith)
  named-new x (u ∷ (v ∷ (w ∷ o))) n l k d = absurd (omega arith)
  named-new [] (u ∷ (v ∷ [])) n l k d = absurd (omega arith)
  named-new (a ∷ []) (u ∷ (v ∷ [])) n l k d = absurd (omega arith)
  named-new (a ∷ (b ∷ [])) (u ∷ (v ∷ [])) n l k d = absurd (omega arith)
  named-new (a ∷ (b ∷ (c ∷ []))) (u ∷ (v ∷ [])) n l k d = absurd (omega arith)
  named-new (a ∷ (b ∷ (c ∷ (e ∷ [])))) (u ∷ (v ∷ [])) n l k d = absurd (omega arith)
  named-new (a ∷ (b ∷ (c ∷ (e ∷ (f ∷ []))))) (u ∷ (v ∷ [])) n l k d = absurd (omega arith)
  named-new (a ∷ (b ∷ (c ∷ (e ∷ (f ∷ (g ∷ x)))))) (u ∷ (v ∷ [])) n l k d = rw (d, foreign-id (u ∷ (v ∷ four (export n))) n refl)

  met-first : (h : How × List ℕ) (l : List (How × List ℕ)) (m : List How) → met (h ∷ l) i ++ m ≡ [] → same h.1 i ≡ false
  unfolding met
  met-first h l m e = go (same h.1 i) e
    where
      go : (b : Bool) → cond b (h.0 ∷ met l i) (met l i) ++ m ≡ [] → b ≡ false
      go true e = absurd (let z : ◌≡◌ {A = ℕ} 0 1 = cc in omega arith)
      go false e = refl

  local-absent : (x : List ℕ) (cs : Fields) → Absent (field 0x20 x cs) → same (id_at x 0) i ≡ false
  unfolding ways ids_in parts_for
  local-absent x cs h = met-first (imported, id_at x 0) (cond (eqb (get_or x 6 0) 1) ((otherwise, id_at x 7) ∷ []) []) (ways_all cs i false) h

  -- ---- The first pass

  -- a specifier in which the id does not stand; a 20 is whole
  abbrev pub CleanSpec : Field → Type 0
  CleanSpec f = Absent f × Spec f

  abbrev pub Whole : Field → Type 0
  Whole f = tag_of f ≡ 0x20 → Exact 0x20 (fixed_of f)

  specifier-clean : (n : ℕ) (f : Field) (p : ℕ) (s : State) → CleanSpec f → Whole f → After (note_specifier n f p s) (λ g t. CleanSpec g)
  unfolding note_specifier note_named
  specifier-clean n (field t x cs) p s h w = go (eqb t 0x20) refl
    where
      named : t ≡ 0x20 → CleanSpec (field 0x20 (id_at x 0 ++ 1 ∷ id_from (outside_name x) (export n)) none)
      named q =
          let e = width-20 x (w q) in
          (named-new x (outside_name x) n e.0 (outside-two x e.0 e.1) (local-absent x cs (subst (λ (k : ℕ). Absent (field k x cs)) q h.0)), refl)

      go : (b : Bool) → eqb t 0x20 ≡ b →
          After (cond b (note_named n x p) (λ s. onto (note_id (record { id = x; context = noted_context n (field t x cs) }) p s) (λ r. done (field t x cs, r.1))) s) (λ g t. CleanSpec g)
      go true q =
          after-if (eqb (get_or x 6 0) 2) (refuse 6 p) _ s (λ g t. CleanSpec g) (λ _. tt)
          (λ _. after-bind (note_id (record { id = id_at x 0; context = four (export n) }) p s) _ (λ u t. Unit {0}) (λ g t. CleanSpec g)
          (after-any (note_id (record { id = id_at x 0; context = four (export n) }) p s)) λ u t' _. named (eqb-true t 0x20 q))
      go false q =
          after-bind (note_id (record { id = x; context = noted_context n (field t x cs) }) p s) _ (λ u t. Unit {0}) (λ g t. CleanSpec g)
          (after-any (note_id (record { id = x; context = noted_context n (field t x cs) }) p s)) λ u t _. h

  notes-clean : (n : ℕ) (fs : Fields) (p : ℕ) (s : State) → Each CleanSpec fs → Each Whole fs → After (note_all n fs p s) (λ gs t. Each CleanSpec gs)
  unfolding note_all
  notes-clean n none p s h w = tt
  notes-clean n (more f fs) p s h w =
      after-bind (note_specifier n f p s) _ (λ g t. CleanSpec g) (λ gs t. Each CleanSpec gs) (specifier-clean n f p s h.0 w.0) λ g s a.
      after-bind (note_all n fs (p + size f) s) _ (λ gs t. Each CleanSpec gs) (λ gs t. Each CleanSpec gs) (notes-clean n fs (p + size f) s h.1 w.1) λ gs s b. (a, b)

  specifiers-clean : (o : Option ℕ) (fs : Fields) (p : ℕ) (s : State) → Each CleanSpec fs → Each Whole fs → After (note_specifiers o fs p s) (λ gs t. Each CleanSpec gs)
  specifiers-clean None fs p s h w = h
  specifiers-clean (Some n) fs p s h w = notes-clean n fs p s h w

  clean-specs : (fs : Fields) → Each CleanSpec fs → Each Spec fs
  clean-specs fs h = each-weaken CleanSpec Spec fs (λ f k. k.1) h

  -- an import of the literal y in whose specifiers the id does not stand
  abbrev pub Clean : List ℕ → Field → Type 0
  Clean y g = (tag_of g ≡ 0x10) × (fixed_of g ≡ y) × Each CleanSpec (specifiers_in (parts_of g))

  pub first-clean : (e : Setting) (y : List ℕ) (ds : Fields) (p : ℕ) (s : State) → Each CleanSpec (specifiers_in ds) → Each Whole (specifiers_in ds) →
      After (import_first e y ds p s) (λ g t. Clean y g)
  unfolding import_first
  first-clean e y ds p s h w =
      after-if (external e y) (give (field 0x10 y ds)) _ s (λ g t. Clean y g) (λ _. (refl, refl, h))
      (λ _. after-bind (module_for e (value_of y) p s) _ (λ m t. Unit {0}) (λ g t. Clean y g) (after-any (module_for e (value_of y) p s)) λ m t _.
      after-bind (note_specifiers m (specifiers_in ds) (inside p y) t) _ (λ gs u. Each CleanSpec gs) (λ g t. Clean y g) (specifiers-clean m (specifiers_in ds) (inside p y) t h w) λ gs u v.
      after-bind (collect (record { literal = y; specifiers = gs }) p u) _ (λ _ x. Unit {0}) (λ g t. Clean y g) (after-any (collect (record { literal = y; specifiers = gs }) p u)) λ _ x _.
      (refl, refl, rw (specs-of gs (with_context m ds) (clean-specs gs v) (no-context m ds)) v))

  -- ---- The second pass

  pub from-clean : (us : List Usage) → All (λ u. Property u.property) us → Each CleanSpec (specifiers_from us)
  unfolding specifiers_from
  from-clean [] h = tt
  from-clean (u ∷ us) h = ((property-absent u.property h.0, refl), from-clean us h.1)

  apart-clean : (us : List Usage) (y : List ℕ) (ds : Fields) (s : State) → All (λ u. Property u.property) us → Each CleanSpec (specifiers_in ds) →
      After (take_apart us y ds s) (λ g t. Clean y g)
  unfolding take_apart
  apart-clean [] y ds s h k = (refl, refl, k)
  apart-clean (u ∷ us) y ds s h k =
      let f = from-clean (u ∷ us) h in (refl, refl, rw (specs-of (specifiers_from (u ∷ us)) (attributes_in ds) (clean-specs (specifiers_from (u ∷ us)) f) (no-specifiers ds)) f)

  sole-clean : (o : Option Field) (y : List ℕ) (ds : Fields) (s : State) → All (λ u. Property u.property) s.usages →
      Each CleanSpec (specifiers_in ds) → After (on_sole o y ds s) (λ g t. Clean y g)
  unfolding on_sole usages_of
  sole-clean None y ds s h k = (refl, refl, k)
  sole-clean (Some f) y ds s h k =
      after-if (has 0x22 f) _ (give (field 0x10 y ds)) s (λ g t. Clean y g)
      (λ _. apart-clean (filter (λ (u : Usage). same u.id (fixed_of f)) s.usages) y ds s
      (all-filter (λ (u : Usage). Property u.property) (λ (u : Usage). Property u.property) (λ (u : Usage). same u.id (fixed_of f))
      s.usages (λ u _ k. k) h) k) (λ _. (refl, refl, k))

  pub second-clean : (e : Setting) (y : List ℕ) (ds : Fields) (s : State) → All (λ u. Property u.property) s.usages →
      Each CleanSpec (specifiers_in ds) → After (import_second e y ds s) (λ g t. Clean y g)
  unfolding import_second
  second-clean e y ds s h k =
      after-if (external e y || among (value_of y) s.forced) (give (field 0x10 y ds)) (on_sole (sole (specifiers_in ds)) y ds) s (λ g t. Clean y g)
      (λ _. (refl, refl, k)) (λ _. sole-clean (sole (specifiers_in ds)) y ds s h k)
