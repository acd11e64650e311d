-- Trees within the grammar, whatever their lengths, and the parts of those fields that the rules take apart.
use Rattle.std.specs.Prelude.{Option, None, Some}
use Prim.Native.Nat.{ℕ, ◌≤◌}
use mathlib.Core.Path.{◌≡◌, refl, sym, ap, subst, ◌∙◌}
use mathlib.Core.Logic.{◌⊎◌, inl, inr, ⊎_elim}
use mathlib.Core.Bool.{Bool, true, false, not, cond, ◌&&◌, ◌||◌, true≢false}
use mathlib.Core.List.{List, [], ◌∷◌, ◌++◌}
use native.Mathlib.Omega.{arith}
use lib.Dec.{leb, eqb}
use lib.ListN.{length}
use borrow.Author.Tests.{leb-true, eqb-true, eqb-false, eq-eqb, ne_eqb}
use Rattle.tree.specs.declared.grammar.Set.TheVariants.{Specifier, Attributes, Attribute, Expression, Member, Target}
use Rattle.tree.specs.declared.grammar.Slot.TheVariants.{Nothing, One, Maybe}
use Rattle.tree.specs.declared.grammar.Rule.{Rule}
use Rattle.tree.specs.Layout.{skip_at}
use Rattle.tree.specs.Access.{value_at, piece_at, then_piece, fixed_at}
use Rattle.tree.specs.Tree.{Field, field, Fields, none, more, tag_of, fixed_of, parts_of, size, sizes, depth, depths}
use Rattle.tree.specs.Grammar.{within, holds_at, parts0, parts1, pieces_of, rule_of, slot_at, step_by, step_at, done_at}
use Rattle.tree.specs.Within.{Exact, Formed, FormedAll}
use Rattle.tree.proofs.GrammarLaws.{no-step, step-one, many-slot}
use Rattle.tree.proofs.TreeLaws.{content-size, depth-parts, depth-none, depth-most, row-size}
use Rattle.tree.proofs.WidthLaws.{plain-width}
use Rattle.tree.specs.declared.grammar.Value.TheVariants.{Atom}
use Rattle.metadata.specs.Metadata.{Metadata, append, attributes_for, with_metadata, context_attribute}
use Rattle.inputs.specs.Fields.{has, keep, find_field}
use Rattle.scope.specs.Id.{export}
use Rattle.extraction_rules.specs.State.{Usage}
use Rattle.extraction_rules.specs.First.{specifiers_in, attributes_in, attributes_of, with_context}
use Rattle.extraction_rules.specs.Second.{specifiers_from}
use Rattle.extraction_rules.proofs.ListLaws.{All}
use Rattle.extraction_rules.proofs.RuleLaws.{many-step, maybe-step, only-step}
use Rattle.extraction_rules.proofs.ExactLaws.{property-exact, attribute-exact}
use Rattle.extraction_rules.proofs.KeepLaws.{Each}

-- ---- Within the grammar

abbrev mutual
  -- `Formed` without the bound on the content's length
  pub Shaped : Field → Type 0
  Shaped (field t x cs) = Exact t x × ShapedAll cs (rule_of t)

  pub ShapedAll : Fields → Rule → Type 0
  ShapedAll none q = done_at q ≡ true
  ShapedAll (more f fs) q = (q' : Rule) × (step_at q (tag_of f) ≡ Some q') × Shaped f × ShapedAll fs q'

mutual
  pub formed-shaped : (f : Field) → Formed f → Shaped f
  formed-shaped (field t x cs) h = (h.1, formed-shaped-all cs (rule_of t) h.2)

  pub formed-shaped-all : (fs : Fields) (q : Rule) → FormedAll fs q → ShapedAll fs q
  formed-shaped-all none q h = h
  formed-shaped-all (more f fs) q h = (h.0, h.1, formed-shaped f h.2, formed-shaped-all fs h.0 h.3)

-- a shaped tree whose content two bytes can measure is formed: all in it is shorter
mutual
  pub shaped-formed : (f : Field) → size f ≤ 65538 → Shaped f → Formed f
  shaped-formed (field t x cs) l h = let z = content-size t x cs in (omega arith, h.0, shaped-formed-all cs (rule_of t) (omega arith) h.1)

  pub shaped-formed-all : (fs : Fields) (q : Rule) → sizes fs ≤ 65538 → ShapedAll fs q → FormedAll fs q
  shaped-formed-all none q l h = h
  shaped-formed-all (more f fs) q l h =
      let z = row-size f fs in
      (h.0, h.1, shaped-formed f (omega arith) h.2, shaped-formed-all fs h.0 (omega arith) h.3)

pub shaped-each : (fs : Fields) (q : Rule) → ShapedAll fs q → Each Shaped fs
shaped-each none q h = tt
shaped-each (more f fs) q h = (h.2, shaped-each fs h.0 h.3)

-- ---- Steps

pub shaped-none : (cs : Fields) → ShapedAll cs parts0 → cs ≡ none
shaped-none none h = refl
shaped-none (more f fs) h = absurd (no-step (tag_of f) h.1)

pub within-is : (lo hi t : ℕ) → within lo hi t ≡ true → (lo ≤ t) × (t ≤ hi)
unfolding within
within-is lo hi t e = go (leb lo t) (leb t hi) refl refl e
  where
    go : (a b : Bool) → leb lo t ≡ a → leb t hi ≡ b → a && b ≡ true → (lo ≤ t) × (t ≤ hi)
    go true true p q e = (leb-true lo t p, leb-true t hi q)
    go true false p q e = absurd (true≢false (sym e))
    go false b p q e = absurd (true≢false (sym e))

pub specifier-is : (t : ℕ) → holds_at Specifier t ≡ true → (0x20 ≤ t) × (t ≤ 0x22)
unfolding holds_at
specifier-is t h = within-is 0x20 0x22 t h

-- 'import: L, (20|21|22)*, 2F?'
abbrev pub ImportStep : ℕ → Rule → Type 0
ImportStep t q = ((holds_at Specifier t ≡ true) × (q ≡ rule_of 0x10)) ⊎ ((t ≡ 0x2F) × (q ≡ parts0))

pub import-step : (t : ℕ) (q : Rule) → step_at (rule_of 0x10) t ≡ Some q → ImportStep t q
unfolding rule_of within holds_at
import-step t q e =
    ⊎_elim (λ w. inl w) (λ w. ⊎_elim (λ v. inr (eqb-true t 0x2F v.0, v.1)) (λ v. absurd (no-step t v))
    (maybe-step Attributes Nothing Nothing Nothing t q w))
    (many-step Specifier (Maybe Attributes) Nothing Nothing t q e)

specifier-step : (t : ℕ) → holds_at Specifier t ≡ true → step_at (rule_of 0x10) t ≡ Some (rule_of 0x10)
unfolding rule_of within
specifier-step t h = many-slot Specifier (Maybe Attributes) Nothing Nothing t ∙ rw h

attributes-step : step_at (rule_of 0x10) 0x2F ≡ Some parts0
unfolding step_at step_by slot_at rule_of within holds_at
attributes-step = refl

-- '2F attributes: 30*.'
pub attribute-step : (t : ℕ) (q : Rule) → step_at (rule_of 0x2F) t ≡ Some q → (t ≡ 0x30) × (q ≡ rule_of 0x2F)
unfolding rule_of within holds_at
attribute-step t q e = let w = only-step Attribute t q e in (eqb-true t 0x30 w.0, w.1)

attribute-stays : step_at (rule_of 0x2F) 0x30 ≡ Some (rule_of 0x2F)
unfolding step_at step_by slot_at rule_of within holds_at
attribute-stays = refl

-- '66 assignment: 50|63, expression'
target-is : (t : ℕ) → holds_at Target t ≡ true → (t ≡ 0x50) ⊎ (t ≡ 0x63)
unfolding holds_at
target-is t h = go (eqb t 0x50) refl h
  where
    go : (a : Bool) → eqb t 0x50 ≡ a → a || eqb t 0x63 ≡ true → (t ≡ 0x50) ⊎ (t ≡ 0x63)
    go true w h = inl (eqb-true t 0x50 w)
    go false w h = inr (eqb-true t 0x63 h)

pub target-step : (t : ℕ) (q : Rule) → step_at (rule_of 0x66) t ≡ Some q → ((t ≡ 0x50) ⊎ (t ≡ 0x63)) × (q ≡ parts1 (One Expression))
unfolding rule_of within
target-step t q e = let w = step-one Target (One Expression) Nothing Nothing t q e in (target-is t w.0, w.1)

-- '63 member: object expression, 70|71|72'
pub member-first : (t : ℕ) (q : Rule) → step_at (rule_of 0x63) t ≡ Some q → q ≡ parts1 (One Member)
unfolding rule_of within
member-first t q e = (step-one Expression (One Member) Nothing Nothing t q e).1

pub member-second : (t : ℕ) (q : Rule) → step_at (parts1 (One Member)) t ≡ Some q → (0x70 ≤ t) × (t ≤ 0x72)
unfolding holds_at
member-second t q e = within-is 0x70 0x72 t (step-one Member Nothing Nothing Nothing t q e).0

-- ---- A member's name

pub name-width : (q : Field) → Shaped q → tag_of q ≡ 0x70 → length (fixed_of q) ≡ 2
name-width (field t x cs) h e = plain-width 0x70 Atom refl x e h.0

-- the member of a 63 that is neither computed nor private
pub member-width : (o q : Field) (qs : Fields) → ShapedAll (more o (more q qs)) (rule_of 0x63) → has 0x71 q ≡ false → has 0x72 q ≡ false →
    length (fixed_of q) ≡ 2
member-width o q qs h a b =
    let m = h.3 in
    let s = subst (λ (r : Rule). step_at r (tag_of q) ≡ Some m.0) (member-first (tag_of o) h.0 h.1) m.1 in
    let w = member-second (tag_of q) m.0 s in
    let x = eqb-false (tag_of q) 0x71 a in
    let y = eqb-false (tag_of q) 0x72 b in
    name-width q m.2 (between (tag_of q) w.0 w.1 x y)
  where
    between : (t : ℕ) → 0x70 ≤ t → t ≤ 0x72 → (t ≡ 0x71 → ⊥) → (t ≡ 0x72 → ⊥) → t ≡ 0x70
    between t a b c d = omega arith

-- ---- An import's parts

-- specifiers, each whole
abbrev pub Specifiers : Fields → Type 0
Specifiers none = Unit {0}
Specifiers (more f fs) = ((holds_at Specifier (tag_of f) ≡ true) × Shaped f) × Specifiers fs

abbrev ImportParts : Bool → Field → Fields → Type 0
ImportParts b f fs = Specifiers (cond (not b) (more f (specifiers_in fs)) (specifiers_in fs)) × ShapedAll
    (cond b (more f (attributes_in fs)) (attributes_in fs)) (rule_of 0x10)

-- the specifiers of a shaped import, and its attributes
pub import-parts : (cs : Fields) → ShapedAll cs (rule_of 0x10) → Specifiers (specifiers_in cs) × ShapedAll (attributes_in cs) (rule_of 0x10)
unfolding keep
import-parts none h = (tt, h)
import-parts (more f fs) h = go (import-step (tag_of f) h.0 h.1) (λ w. import-parts fs w)
  where
    go : ImportStep (tag_of f) h.0 →
        (ShapedAll fs (rule_of 0x10) → Specifiers (specifiers_in fs) × ShapedAll (attributes_in fs) (rule_of 0x10)) → ImportParts (has 0x2F f) f fs
    go (inl w) ih =
        let i = specifier-is (tag_of f) w.0 in
        let r = ih (subst (ShapedAll fs) w.1 h.3) in
        let n : has 0x2F f ≡ false = ne_eqb (tag_of f) 0x2F (λ e. omega arith) in
        rw n (((w.0, h.2), r.0), r.1)
    go (inr w) ih =
        let e : fs ≡ none = shaped-none fs (subst (ShapedAll fs) w.1 h.3) in
        let y : has 0x2F f ≡ true = eq-eqb (tag_of f) 0x2F w.0 in
        rw (y, e) (tt, (parts0, subst (λ (k : ℕ). step_at (rule_of 0x10) k ≡ Some parts0) (sym w.0) attributes-step, h.2, refl))

-- specifiers, then attributes, are the parts of an import
pub import-from : (fs gs : Fields) → Specifiers fs → ShapedAll gs (rule_of 0x10) → ShapedAll (append fs gs) (rule_of 0x10)
unfolding append
import-from none gs h k = k
import-from (more f fs) gs h k = (rule_of 0x10, specifier-step (tag_of f) h.0.0, h.0.1, import-from fs gs h.1 k)

-- a part that is found is whole
pub shaped-found : (t : ℕ) (cs : Fields) (q : Rule) (f : Field) → ShapedAll cs q → find_field (has t) cs ≡ Some f → Shaped f × (tag_of f ≡ t)
unfolding find_field
shaped-found t none q f h e = absurd (let z : ◌≡◌ {A = ℕ} 0 1 = cc in omega arith)
shaped-found t (more g gs) q f h e = go (has t g) refl e (λ w. shaped-found t gs h.0 f h.3 w)
  where
    go : (b : Bool) → has t g ≡ b → cond b (Some g) (find_field (has t) gs) ≡ Some f →
        (find_field (has t) gs ≡ Some f → Shaped f × (tag_of f ≡ t)) → Shaped f × (tag_of f ≡ t)
    go true w e k = let r : g ≡ f = cc in (subst Shaped r h.2, ap tag_of (sym r) ∙ eqb-true (tag_of g) t w)
    go false w e k = k e

attributes-done : done_at (rule_of 0x2F) ≡ true
unfolding rule_of within
attributes-done = refl

attribute-shaped : (c : ℕ) → Shaped (context_attribute c)
unfolding context_attribute rule_of within
attribute-shaped c = (attribute-exact c, refl)

attributes-one : (c : ℕ) → ShapedAll (more (context_attribute c) none) (rule_of 0x2F)
unfolding context_attribute
attributes-one c = (rule_of 0x2F, attribute-stays, attribute-shaped c, attributes-done)

attributes-more : (old : Fields) (c : ℕ) → ShapedAll old (rule_of 0x2F) → ShapedAll (append old (more (context_attribute c) none)) (rule_of 0x2F)
unfolding append
attributes-more none c h = attributes-one c
attributes-more (more f fs) c h =
    let w = attribute-step (tag_of f) h.0 h.1 in (
      rule_of 0x2F,
      subst (λ (k : ℕ). step_at (rule_of 0x2F) k ≡ Some (rule_of 0x2F)) (sym w.0) attribute-stays,
      h.2,
      attributes-more fs c
          (subst (ShapedAll fs) w.1 h.3),
    )

pub shaped-parts : (f : Field) (t : ℕ) → Shaped f → tag_of f ≡ t → ShapedAll (parts_of f) (rule_of t)
shaped-parts (field u x cs) t h e = subst (λ (k : ℕ). ShapedAll cs (rule_of k)) e h.1

empty-exact : Exact 0x2F []
unfolding fixed_at piece_at value_at pieces_of skip_at then_piece
empty-exact = refl

old-shaped : (o : Option Field) (cs : Fields) → ShapedAll cs (rule_of 0x10) → find_field (has 0x2F) cs ≡ o → ShapedAll (attributes_of o) (rule_of 0x2F)
old-shaped None cs h e = attributes-done
old-shaped (Some f) cs h e = let w = shaped-found 0x2F cs (rule_of 0x10) f h e in shaped-parts f 0x2F w.0 w.1

metadata-shaped : (old : Fields) (c : ℕ) → ShapedAll old (rule_of 0x2F) → Shaped (with_metadata (record { injected = false; context = Some c }) old)
unfolding with_metadata attributes_for append
metadata-shaped old c h = (empty-exact, attributes-more old c h)

metadata-tag : (m : Metadata) (old : Fields) → tag_of (with_metadata m old) ≡ 0x2F
unfolding with_metadata
metadata-tag m old = refl

-- 'if resolved, append metadata': the attributes of an import stay whole
pub context-shaped : (o : Option ℕ) (cs : Fields) → ShapedAll cs (rule_of 0x10) → ShapedAll (with_context o cs) (rule_of 0x10)
unfolding with_context
context-shaped None cs h = (import-parts cs h).1
context-shaped (Some n) cs h =
    let m : Metadata = record { injected = false; context = Some (export n) } in
    let old = attributes_of (find_field (has 0x2F) cs) in (
      parts0,
      ap (step_at (rule_of 0x10)) (metadata-tag m old) ∙ attributes-step,
      metadata-shaped old (export n)
          (old-shaped (find_field (has 0x2F) cs) cs h refl),
      refl,
    )

-- 'usages become its specifiers'
named-done : done_at (rule_of 0x20) ≡ true
unfolding rule_of within
named-done = refl

pub named-specifier : (x : List ℕ) → Exact 0x20 x → (holds_at Specifier 0x20 ≡ true) × Shaped (field 0x20 x none)
unfolding holds_at within
named-specifier x h = (refl, (h, named-done))

pub usages-specifiers : (us : List Usage) → All (λ u. length u.property ≡ 6) us → Specifiers (specifiers_from us)
unfolding specifiers_from
usages-specifiers [] h = tt
usages-specifiers (u ∷ us) h = (named-specifier (u.property ++ 0 ∷ []) (property-exact u.property h.0), usages-specifiers us h.1)

-- ---- How deep an import is

pub one-of : (t : ℕ) → 0x20 ≤ t → t ≤ 0x22 → (P : ℕ → Type 0) → P 0x20 → P 0x21 → P 0x22 → P t
one-of t a b P p q r = go (eqb t 0x20) (eqb t 0x21) refl refl
  where
    go : (c d : Bool) → eqb t 0x20 ≡ c → eqb t 0x21 ≡ d → P t
    go true d w v = subst P (sym (eqb-true t 0x20 w)) p
    go false true w v = subst P (sym (eqb-true t 0x21 v)) q
    go false false w v = let x = eqb-false t 0x20 w in let y = eqb-false t 0x21 v in subst P (last t a b x y) r
      where
        last : (t : ℕ) → 0x20 ≤ t → t ≤ 0x22 → (t ≡ 0x20 → ⊥) → (t ≡ 0x21 → ⊥) → 0x22 ≡ t
        last t a b x y = omega arith

pub specifier-rule : (t : ℕ) → holds_at Specifier t ≡ true → rule_of t ≡ parts0
unfolding rule_of within
specifier-rule t h = let w = specifier-is t h in one-of t w.0 w.1 (λ k. rule_of k ≡ parts0) refl refl refl

pub attribute-rule : rule_of 0x30 ≡ parts0
unfolding rule_of within
attribute-rule = refl

pub leaf-depth : (f : Field) → rule_of (tag_of f) ≡ parts0 → Shaped f → depth f ≡ 1
leaf-depth (field t x cs) e h =
    let n : cs ≡ none = shaped-none cs (subst (ShapedAll cs) e h.1) in
    let z = depth-none in
    let y = depth-parts t x cs in
    let w = ap depths n in
    omega arith

attributes-depth : (cs : Fields) → ShapedAll cs (rule_of 0x2F) → depths cs ≤ 1
attributes-depth none h = let z = depth-none in omega arith
attributes-depth (more f fs) h =
    let w = attribute-step (tag_of f) h.0 h.1 in
    let l = leaf-depth f (ap rule_of w.0 ∙ attribute-rule) h.2 in
    depth-most f fs 1 (omega arith) (attributes-depth fs (subst (ShapedAll fs) w.1 h.3))

import-rest : (cs : Fields) → ShapedAll cs (rule_of 0x10) → depths cs ≤ 2
import-rest none h = let z = depth-none in omega arith
import-rest (more f fs) h = depth-most f fs 2 (here f (import-step (tag_of f) h.0 h.1) h.2)
    (later (import-step (tag_of f) h.0 h.1) (λ w. import-rest fs w))
  where
    here : (f : Field) → ImportStep (tag_of f) h.0 → Shaped f → depth f ≤ 2
    here f (inl w) s = let l = leaf-depth f (specifier-rule (tag_of f) w.0) s in omega arith
    here (field t x cs) (inr w) s = let y = depth-parts t x cs in let d =
        attributes-depth cs (subst (λ (k : ℕ). ShapedAll cs (rule_of k)) w.0 s.1) in omega arith

    later : ImportStep (tag_of f) h.0 → (ShapedAll fs (rule_of 0x10) → depths fs ≤ 2) → depths fs ≤ 2
    later (inl w) k = k (subst (ShapedAll fs) w.1 h.3)
    later (inr w) k = let e = ap depths (shaped-none fs (subst (ShapedAll fs) w.1 h.3)) in let z = depth-none in omega arith

pub import-depth : (x : List ℕ) (cs : Fields) → Shaped (field 0x10 x cs) → depth (field 0x10 x cs) ≤ 3
import-depth x cs h = let y = depth-parts 0x10 x cs in let d = import-rest cs h.1 in omega arith
