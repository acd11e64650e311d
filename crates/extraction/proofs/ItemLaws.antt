-- An item: one that stays is what it is walked to, one that is dropped leaves nothing, an import follows its rules.
use Rattle.std.specs.Prelude.{Option, None, Some, Ok}
use Prim.Native.Nat.{ℕ, ◌+◌, ◌*◌, ◌≤◌}
use native.Mathlib.Omega.{arith}
use mathlib.Core.Path.{◌≡◌, refl, sym, ap, subst, ◌∙◌}
use mathlib.Core.Logic.{◌⊎◌, inl, inr}
use mathlib.Core.Bool.{Bool, true, false, ◌||◌}
use mathlib.Core.List.{List, [], ◌∷◌, append-nil}
use lib.ListN.{get_or}
use lib.Seq.{slice}
use borrow.Author.Tests.{ne_eqb}
use Rattle.tree.specs.declared.grammar.Set.TheVariants.{Item}
use Rattle.tree.specs.Layout.{Bytes, value_of}
use Rattle.tree.specs.Grammar.{within, holds_at, rule_of}
use Rattle.tree.specs.Tree.{Field, field, Fields, none, more, tag_of, fixed_of, parts_of, encode, encodes}
use Rattle.tree.specs.Access.{extent_at}
use Rattle.tree.specs.Standing.{tree_at}
use Rattle.tree.proofs.StandingLaws.{row-more, row-none, tree-upto, whole-step}
use Rattle.tree.proofs.WidthLaws.{tree-bare}
use Rattle.inputs.specs.Outcome.{done, onto}
use Rattle.inputs.specs.Lists.{among}
use Rattle.inputs.specs.Fields.{has, keep, sole, inside}
use Rattle.extraction_rules.specs.State.{Usage, State, Pass, first, second, Setting, give}
use Rattle.extraction_rules.specs.First.{external, module_for, collect, note_specifiers, specifiers_in, stays, import_first}
use Rattle.extraction_rules.specs.Second.{usages_of, take_apart, on_sole, import_second}
use Rattle.extraction_rules.specs.Walk.{after_import, parts_for, rule_for, after, walk}
use Rattle.extraction_rules.proofs.OutcomeLaws.{After, after-done, after-bind, after-if}
use Rattle.extraction_rules.proofs.ValueLaws.{after-any}
use Rattle.extraction_rules.proofs.ShapeLaws.{Shaped, formed-shaped}
use Rattle.extraction_rules.proofs.AlikeLaws.{Regular}
use Rattle.extraction_rules.proofs.RegularLaws.{regular, item-outer}
use Rattle.extraction_rules.proofs.ReadableLaws.{item-step}
use Rattle.extraction_rules.proofs.WalkLaws.{Imports}
use Rattle.extraction_rules.proofs.SanityLaws.{Known}
use Rattle.extraction_rules.proofs.StayLaws.{item-no-member, stays-plain, import-stays, walk-stays}
use Rattle.state.specs.Cells.{Env, flag, namespaces_in, sources_in}
use Rattle.state.specs.Does.{Says, is_second}
use Rattle.steps.specs.Step.{ReadAt, Reads, Step, Steps}
use Rattle.steps.proofs.SoundLaws.{read-formed, read-tag}
use Rattle.steps.proofs.StepsLaws.{steps-give, steps-by, steps-map}
use Rattle.walking.specs.Walking.{FieldSteps}
use Rattle.extraction.specs.Passes.{Ready, ItemRead, item_act}

-- ---- Which items stay

abbrev pub one-item : Field → Fields
one-item g = keep stays (more g none)

item-bytes : (g : Field) → stays g ≡ true → encodes (one-item g) ≡ encode g
unfolding keep encode
item-bytes g h = rw h (append-nil (encode g))

-- ---- Imports by their rules

module _ (e : Setting) where
  pub import-first : (x : List ℕ) (cs : Fields) (p : ℕ) (u : State) → after_import first e x cs p u ≡ import_first e x cs p u
  unfolding after_import
  import-first x cs p u = refl

  import-second : (x : List ℕ) (cs : Fields) (p : ℕ) (u : State) → after_import second e x cs p u ≡ import_second e x cs u
  unfolding after_import
  import-second x cs p u = refl

  -- each gives a 10
  first-tag : (x : List ℕ) (cs : Fields) (p : ℕ) (u : State) → After (import_first e x cs p u) (λ g y. tag_of g ≡ 0x10)
  unfolding import_first
  first-tag x cs p u =
      after-if (external e x) (give (field 0x10 x cs)) _ u (λ g y. tag_of g ≡ 0x10) (λ _. refl)
      (λ _. after-bind (module_for e (value_of x) p u) _ (λ _ _. Unit {0}) _ (after-any (module_for e (value_of x) p u)) λ n v _.
      after-bind (note_specifiers n (specifiers_in cs) (inside p x) v) _ (λ _ _. Unit {0}) _ (after-any (note_specifiers n (specifiers_in cs) (inside p x) v)) λ fs w _.
      after-bind (collect (record { literal = x; specifiers = fs }) p w) _ (λ _ _. Unit {0}) _ (after-any (collect (record { literal = x; specifiers = fs }) p w)) λ _ y _. refl)

  apart-tag : (us : List Usage) (x : List ℕ) (cs : Fields) (u : State) → After (take_apart us x cs u) (λ g y. tag_of g ≡ 0x10)
  unfolding take_apart
  apart-tag [] x cs u = refl
  apart-tag (v ∷ us) x cs u = refl

  sole-tag : (o : Option Field) (x : List ℕ) (cs : Fields) (u : State) → After (on_sole o x cs u) (λ g y. tag_of g ≡ 0x10)
  unfolding on_sole
  sole-tag None x cs u = refl
  sole-tag (Some f) x cs u = after-if (has 0x22 f) _ (give (field 0x10 x cs)) u (λ g y. tag_of g ≡ 0x10) (λ _. apart-tag (usages_of (fixed_of f) u.usages) x cs u) (λ _. refl)

  second-tag : (x : List ℕ) (cs : Fields) (u : State) → After (import_second e x cs u) (λ g y. tag_of g ≡ 0x10)
  unfolding import_second
  second-tag x cs u = after-if (external e x || among (value_of x) u.forced) (give (field 0x10 x cs)) _ u (λ g y. tag_of g ≡ 0x10) (λ _. refl) (λ _. sole-tag (sole (specifiers_in cs)) x cs u)

  -- the import is among those of which something is known
  known-here : (f : Field) (u : State) → tag_of f ≡ 0x10 → Imports f (Known e.externals (sources_in u.collected)) →
      external e (fixed_of f) ≡ false → among (value_of (fixed_of f)) (sources_in u.collected) ≡ true
  unfolding external
  known-here (field t x cs) u q h = h.0 q

-- what the tables lean on, by the pass
pub ready-first : (at end : ℕ) (u : State) (K : Type 0) {p : Pass} → p ≡ first → Ready p at end u K → (9 * namespaces_in u.collected ≤ at) × (end ≤ 32768)
ready-first at end u K d r = subst (λ (p : Pass). Ready p at end u K) d r

pub ready-second : (at end : ℕ) (u : State) (K : Type 0) {p : Pass} → p ≡ second → Ready p at end u K → K
ready-second at end u K d r = subst (λ (p : Pass). Ready p at end u K) d r

first-is : (p : Pass) → false ≡ is_second p → p ≡ first
first-is first e = refl
first-is second e = absurd (let z : ◌≡◌ {A = ℕ} 0 1 = ap flag e in omega arith)

second-is : (p : Pass) → true ≡ is_second p → p ≡ second
second-is first e = absurd (let z : ◌≡◌ {A = ℕ} 1 0 = ap flag e in omega arith)
second-is second e = refl

-- ---- An item that was read

module _ (s : List ℕ) (bytes : Bytes s) (at stop : ℕ) where
  pub item-shaped : ReadAt s at stop → Shaped (tree_at s at stop)
  item-shaped r = formed-shaped (tree_at s at stop) (read-formed r bytes)

  pub item-regular : {x : Env} {u : State} → ItemRead s at stop x u → (get_or s at 0 ≡ 0x10 → ⊥) → Regular (tree_at s at stop)
  item-regular w h =
      let t = read-tag w.read in
      regular (tree_at s at stop)
      (item-outer (tag_of (tree_at s at stop)) (subst (λ (n : ℕ). holds_at Item n ≡ true) (sym t) (item-step (get_or s at 0) (rule_of 0x01) w.tag).0)
      (ne_eqb (tag_of (tree_at s at stop)) 0x10 (λ z. h (sym t ∙ z))))
      (item-shaped w.read)

  -- one that stays is what it is walked to
  item-walked : {t out t' out' : List ℕ} {o : ℕ} {k : Step} → (get_or s at 0 ≡ 0x10 → ⊥) → (tag_of (tree_at s at stop) ≡ get_or s at 0 → stays (tree_at s at stop) ≡ true) →
      FieldSteps s at stop (λ x. walk (tree_at s at stop) x.setting false at) t out o t' out' k → Steps encodes (ItemRead s at stop) (λ x. item_act x.setting s at stop) t out o t' out' k
  item-walked h l m =
      steps-map encode encodes one-item (ItemRead s at stop) m (λ x u w. (record { read = w.read; regular = item-regular w h }, w.reads))
      (λ x u w g v z.
      let q = read-tag w.read in
      item-bytes g (after-done (walk (tree_at s at stop) x.setting false at u) (λ g y. stays g ≡ true) (g, v) z
      (walk-stays x.setting (tree_at s at stop) at u (λ y. h (sym q ∙ y)) (λ y. item-no-member (get_or s at 0) (item-step (get_or s at 0) (rule_of 0x01) w.tag).0 (sym q ∙ y)) (l q))))

  pub item-plain : {t out t' out' : List ℕ} {o : ℕ} {k : Step} → (get_or s at 0 ≡ 0x10 → ⊥) → (get_or s at 0 ≡ 0x40 → ⊥) → (get_or s at 0 ≡ 0x41 → ⊥) →
      FieldSteps s at stop (λ x. walk (tree_at s at stop) x.setting false at) t out o t' out' k → Steps encodes (ItemRead s at stop) (λ x. item_act x.setting s at stop) t out o t' out' k
  item-plain h i j m = item-walked h (λ q. stays-plain (tree_at s at stop) (λ z. i (sym q ∙ z)) (λ z. j (sym q ∙ z))) m

  -- a 41 with parts
  pub item-41 : {t out t' out' : List ℕ} {o : ℕ} {k : Step} → get_or s at 0 ≡ 0x41 → at + 3 ≤ stop → {end : ℕ} → extent_at s (at + 3) stop ≡ Some end →
      FieldSteps s at stop (λ x. walk (tree_at s at stop) x.setting false at) t out o t' out' k → Steps encodes (ItemRead s at stop) (λ x. item_act x.setting s at stop) t out o t' out' k
  unfolding stays
  item-41 q le {end} x m =
      item-walked (λ z. let v : ◌≡◌ {A = ℕ} 0x41 0x10 = sym q ∙ z in omega arith)
      (λ _. ap stays (tree-bare 0x41 refl s at stop le q ∙ ap (field 0x41 []) (row-more s (at + 3) stop end le x))) m

  -- ---- Items that are dropped

  bare-walk : (e : Setting) (t : ℕ) (x : List ℕ) (p : ℕ) (u : State) → (t ≡ 0x40) ⊎ (t ≡ 0x41) →
      onto {B = Fields × State} (walk (field t x none) e false p u) (λ r. done (one-item r.0, r.1)) ≡ done (none, u)
  unfolding walk parts_for rule_for within after stays keep
  bare-walk e t x p u (inl q) = rw q refl
  bare-walk e t x p u (inr q) = rw q refl

  pub item-40 : {t out : List ℕ} {o : ℕ} → get_or s at 0 ≡ 0x40 → Steps encodes (ItemRead s at stop) (λ x. item_act x.setting s at stop) t out o t out (Ok o)
  unfolding encode
  item-40 q =
      steps-give encodes (ItemRead s at stop) (λ x. item_act x.setting s at stop) none refl
      (λ x u w.
      let b = whole-step s at stop w.read.whole in
      let z = tree-upto s at stop b.0 b.1 in
      let r = subst Regular z (item-regular w (λ y. let v : ◌≡◌ {A = ℕ} 0x40 0x10 = sym q ∙ y in omega arith)) in
      ap (λ (f : Field). onto (walk f x.setting false at u) (λ r. done (one-item r.0, r.1))) (z ∙ ap (field (get_or s at 0) (slice (at + 3) b.0 s)) (r.0.empty_bare q))
      ∙ bare-walk x.setting (get_or s at 0) (slice (at + 3) b.0 s) at u (inl q))

  pub item-bare : {t out : List ℕ} {o : ℕ} → get_or s at 0 ≡ 0x41 → at + 3 ≤ stop → extent_at s (at + 3) stop ≡ None →
      Steps encodes (ItemRead s at stop) (λ x. item_act x.setting s at stop) t out o t out (Ok o)
  unfolding encode
  item-bare q le x =
      steps-give encodes (ItemRead s at stop) (λ x. item_act x.setting s at stop) none refl
      (λ y u w. ap (λ (f : Field). onto (walk f y.setting false at u) (λ r. done (one-item r.0, r.1)))
      (tree-bare 0x41 refl s at stop le q ∙ ap (field 0x41 []) (row-none s (at + 3) stop le x)) ∙ bare-walk y.setting 0x41 [] at u (inr refl))

  -- ---- Imports

  walk-10 : (e : Setting) (x : List ℕ) (cs : Fields) (p : ℕ) (u : State) → walk (field 0x10 x cs) e false p u ≡ after_import e.pass e x cs p u
  unfolding walk parts_for rule_for within after
  walk-10 e x cs p u = refl

  pub import-walk : (e : Setting) → ReadAt s at stop → get_or s at 0 ≡ 0x10 → (u : State) →
      walk (tree_at s at stop) e false at u ≡ after_import e.pass e (fixed_of (tree_at s at stop)) (parts_of (tree_at s at stop)) at u
  import-walk e r q u = go (tree_at s at stop) (read-tag r ∙ q)
    where
      go : (f : Field) → tag_of f ≡ 0x10 → walk f e false at u ≡ after_import e.pass e (fixed_of f) (parts_of f) at u
      go (field t x cs) z = ap (λ (n : ℕ). walk (field n x cs) e false at u) z ∙ walk-10 e x cs at u

  -- it gives a 10 in either pass
  import-tag : (p : Pass) (e : Setting) (x : List ℕ) (cs : Fields) (u : State) → After (after_import p e x cs at u) (λ g y. tag_of g ≡ 0x10)
  unfolding after_import
  import-tag first e x cs u = first-tag e x cs at u
  import-tag second e x cs u = second-tag e x cs u

  import-walked : {t out t' out' : List ℕ} {o : ℕ} {k : Step} → get_or s at 0 ≡ 0x10 →
      Steps encode (ItemRead s at stop) (λ x. walk (tree_at s at stop) x.setting false at) t out o t' out' k →
      Steps encodes (ItemRead s at stop) (λ x. item_act x.setting s at stop) t out o t' out' k
  import-walked q m =
      steps-map encode encodes one-item (ItemRead s at stop) m (λ x u w. w)
      (λ x u w g v z.
      let f = tree_at s at stop in
      let e = x.setting in
      item-bytes g (import-stays g (after-done (after_import e.pass e (fixed_of f) (parts_of f) at u) (λ g y. tag_of g ≡ 0x10) (g, v)
      (sym (import-walk e w.read q u) ∙ z) (import-tag e.pass e (fixed_of f) (parts_of f) u))))

  pub import-one : {t out t' out' : List ℕ} {o : ℕ} {k : Step} {b : Bool} → Says (λ e. is_second e.pass) t b → b ≡ false → get_or s at 0 ≡ 0x10 →
      Steps encode (λ x u. ReadAt s at stop × Reads x s × (9 * namespaces_in u.collected ≤ at) × (stop ≤ 32768))
      (λ x. import_first x.setting (fixed_of (tree_at s at stop)) (parts_of (tree_at s at stop)) at) t out o t' out' k →
      Steps encodes (ItemRead s at stop) (λ x. item_act x.setting s at stop) t out o t' out' k
  import-one a d q m =
      import-walked q (steps-by (λ x. walk (tree_at s at stop) x.setting false at) m
      (λ x u v w.
      let e = x.setting in
      let one = first-is e.pass (sym d ∙ a.is u v) in
      let r = ready-first at stop u (Imports (tree_at s at stop) (Known e.externals (sources_in u.collected))) one w.ready in (
        (w.read, w.reads, r.0, r.1),
        import-walk e w.read q u ∙ ap (λ (b : Pass). after_import b e (fixed_of (tree_at s at stop)) (parts_of (tree_at s at stop)) at u) one ∙ import-first e _ _ at u,
      )))

  pub import-two : {t out t' out' : List ℕ} {o : ℕ} {k : Step} {b : Bool} → Says (λ e. is_second e.pass) t b → b ≡ true → get_or s at 0 ≡ 0x10 →
      Steps encode
      (λ x u. ReadAt s at stop
      × (external x.setting (fixed_of (tree_at s at stop)) ≡ false → among (value_of (fixed_of (tree_at s at stop))) (sources_in u.collected) ≡ true))
      (λ x. import_second x.setting (fixed_of (tree_at s at stop)) (parts_of (tree_at s at stop))) t out o t' out' k →
      Steps encodes (ItemRead s at stop) (λ x. item_act x.setting s at stop) t out o t' out' k
  import-two a d q m =
      import-walked q (steps-by (λ x. walk (tree_at s at stop) x.setting false at) m
      (λ x u v w.
      let e = x.setting in
      let two = second-is e.pass (sym d ∙ a.is u v) in (
        (
          w.read,
          known-here e (tree_at s at stop) u (read-tag w.read ∙ q)
              (ready-second at stop u (Imports (tree_at s at stop) (Known e.externals (sources_in u.collected))) two w.ready),
        ),
        import-walk e w.read q u ∙ ap (λ (b : Pass). after_import b e (fixed_of (tree_at s at stop)) (parts_of (tree_at s at stop)) at u) two ∙ import-second e _ _ at u,
      )))
