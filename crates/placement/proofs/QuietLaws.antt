-- The imports of a tree within the grammar hold ids in their specifiers alone, and no uses: below a 10 stand specifiers without parts, and
-- attributes, which hold no id; no use stands in a field of another tag than 23, 60 or 63 (`Quiet`).
use Prim.Native.Nat.{ℕ}
use mathlib.Core.Path.{◌≡◌, refl, sym, subst, ◌∙◌, ap, ap₂}
use mathlib.Core.Logic.{inl, inr}
use mathlib.Core.Bool.{Bool, false, not, cond}
use mathlib.Core.List.{List, [], ◌++◌}
use borrow.Author.Tests.{eqb-true, ne_eqb}
use native.Mathlib.Omega.{arith}
use Rattle.tree.specs.Tree.{Field, field, Fields, none, more, tag_of, parts_of}
use Rattle.tree.specs.declared.grammar.Rule.{Rule}
use Rattle.tree.specs.Grammar.{rule_of}
use Rattle.inputs.specs.Lists.{filter}
use Rattle.inputs.specs.Fields.{has, keep}
use Rattle.extraction_rules.specs.First.{specifiers_in}
use Rattle.extraction_rules.specs.Walk.{children, parts_for}
use Rattle.extraction_rules.proofs.KeepLaws.{Each}
use Rattle.extraction_rules.proofs.SeekLaws.{filter-append}
use Rattle.extraction_rules.proofs.ShapeLaws.{Shaped, ShapedAll, shaped-none, ImportStep, import-step, specifier-is, specifier-rule, attribute-step, attribute-rule}
use Rattle.extraction_rules.proofs.ShapeLaws.{shaped-parts}
use Rattle.extraction_rules.proofs.WalkLaws.{parts-children}
use Rattle.placement.specs.Stands.{How, ids_in, is_use, properties}
use Rattle.placement.proofs.WaysLaws.{met, ways, ways_all}
use Rattle.placement.proofs.HowLaws.{properties-append, Neutral, unused-neutral, ids-unused}

-- ---- Imports hold no use

pub neutral-append : (l m : List How) → Neutral l → Neutral m → Neutral (l ++ m)
neutral-append l m h k = (filter-append is_use l m ∙ rw (h.0, k.0), properties-append l m ∙ rw (h.1, k.1))

abbrev mutual
  -- none of the tags that a use needs
  pub Quiet : Field → Type 0
  Quiet (field t x cs) = (t ≡ 0x23 → ⊥) × (t ≡ 0x60 → ⊥) × (parts_for t ≡ children) × QuietAll cs

  pub QuietAll : Fields → Type 0
  QuietAll none = Unit {0}
  QuietAll (more f fs) = Quiet f × QuietAll fs

mutual
  unfolding ways filter properties

  pub quiet-neutral : (f : Field) (i : List ℕ) (object : Bool) → Quiet f → Neutral (ways f i object)
  quiet-neutral (field t x cs) i object h =
      rw h.2
      (neutral-append (met (ids_in t x object) i) (ways_all cs i object)
      (unused-neutral (ids_in t x object) i (ids-unused t x object (ne_eqb t 0x23 h.0) (λ q. absurd (h.1 (eqb-true t 0x60 q)))))
      (quiet_all-neutral cs i object h.3))

  pub quiet_all-neutral : (fs : Fields) (i : List ℕ) (object : Bool) → QuietAll fs → Neutral (ways_all fs i object)
  quiet_all-neutral none i object h = (refl, refl)
  quiet_all-neutral (more f fs) i object h = neutral-append (ways f i object) (ways_all fs i object) (quiet-neutral f i object h.0) (quiet_all-neutral fs i object h.1)

pub import-ways : (f : Field) (i : List ℕ) → tag_of f ≡ 0x10 → ways f i false ≡ ways_all (parts_of f) i false
unfolding ways ids_in met parts_for
import-ways (field t x cs) i q = rw q

-- ---- Attributes

attribute-ways : (t : ℕ) (x : List ℕ) (cs : Fields) (i : List ℕ) → t ≡ 0x30 → cs ≡ none → ways (field t x cs) i false ≡ []
unfolding ways ids_in met parts_for
attribute-ways t x cs i q k = rw (q, k)

attributes-ways : (cs : Fields) (i : List ℕ) → ShapedAll cs (rule_of 0x2F) → ways_all cs i false ≡ []
unfolding ways
attributes-ways none i h = refl
attributes-ways (more (field t x ds) fs) i h =
    let w = attribute-step t h.0 h.1 in
    let n : ds ≡ none = shaped-none ds (subst (ShapedAll ds) (ap rule_of w.0 ∙ attribute-rule) h.2.1) in
    ap₂ {C = List How} (λ a b. a ++ b) (attribute-ways t x ds i w.0 n) (attributes-ways fs i (subst (ShapedAll fs) w.1 h.3))

block-ways : (t : ℕ) (x : List ℕ) (cs : Fields) (i : List ℕ) → t ≡ 0x2F → ways_all cs i false ≡ [] → ways (field t x cs) i false ≡ []
unfolding ways ids_in met parts_for
block-ways t x cs i q k = rw q k

-- ---- An import's parts

-- where the id stands in no specifier, it stands nowhere in the import
pub tidy-parts : (cs : Fields) (i : List ℕ) → ShapedAll cs (rule_of 0x10) → Each (λ f. ways f i false ≡ []) (specifiers_in cs) → ways_all cs i false ≡ []
unfolding ways keep
tidy-parts none i h k = refl
tidy-parts (more f fs) i h k = go (import-step (tag_of f) h.0 h.1) k (tidy-parts fs i)
  where
    attributes : (f : Field) → tag_of f ≡ 0x2F → Shaped f → ways f i false ≡ []
    attributes (field t x cs) q s = block-ways t x cs i q (attributes-ways cs i (shaped-parts (field t x cs) 0x2F s q))

    go : ImportStep (tag_of f) h.0 → Each (λ f. ways f i false ≡ []) (cond (not (has 0x2F f)) (more f (specifiers_in fs)) (specifiers_in fs)) →
        (ShapedAll fs (rule_of 0x10) → Each (λ f. ways f i false ≡ []) (specifiers_in fs) → ways_all fs i false ≡ []) → ways f i false ++ ways_all fs i false ≡ []
    go (inl w) k ih =
        let b = specifier-is (tag_of f) w.0 in
        let n : has 0x2F f ≡ false = ne_eqb (tag_of f) 0x2F (λ e. omega arith) in
        let m : ways f i false ≡ [] × Each (λ f. ways f i false ≡ []) (specifiers_in fs) = rw n at k in
        ap₂ {C = List How} (λ a b. a ++ b) m.0 (ih (subst (ShapedAll fs) w.1 h.3) m.1)
    go (inr w) k ih =
        let n : fs ≡ none = shaped-none fs (subst (ShapedAll fs) w.1 h.3) in
        ap₂ {C = List How} (λ a b. a ++ b) (attributes f w.0 h.2) (ap (λ (l : Fields). ways_all l i false) n)

-- no use stands in an import
children-at : (t u : ℕ) → parts_for u ≡ children → t ≡ u → parts_for t ≡ children
children-at t u k q = ap parts_for q ∙ k

attribute-quiet : (f : Field) → tag_of f ≡ 0x30 → Shaped f → Quiet f
unfolding parts_for
attribute-quiet (field t x cs) q s =
    let n : cs ≡ none = shaped-none cs (subst (ShapedAll cs) (ap rule_of q ∙ attribute-rule) s.1) in
    ((λ z. let v : ◌≡◌ {A = ℕ} 0x30 0x23 = sym q ∙ z in omega arith), (λ z. let v : ◌≡◌ {A = ℕ} 0x30 0x60 = sym q ∙ z in omega arith), children-at t 0x30 refl q, rw n tt)

attributes-quiet : (cs : Fields) → ShapedAll cs (rule_of 0x2F) → QuietAll cs
attributes-quiet none h = tt
attributes-quiet (more f fs) h = let w = attribute-step (tag_of f) h.0 h.1 in (attribute-quiet f w.0 h.2, attributes-quiet fs (subst (ShapedAll fs) w.1 h.3))

part-quiet : (f : Field) (q : Rule) → ImportStep (tag_of f) q → Shaped f → Quiet f
part-quiet (field t x cs) q (inl w) s =
    let b = specifier-is t w.0 in
    let n : cs ≡ none = shaped-none cs (subst (ShapedAll cs) (specifier-rule t w.0) s.1) in
    ((λ z. omega arith), (λ z. omega arith), parts-children t (λ z. omega arith) (λ z. omega arith) (λ z. omega arith) (λ z. omega arith) (λ z. omega arith), rw n tt)
part-quiet (field t x cs) q (inr w) s =
    let b : t ≡ 0x2F = w.0 in (
      (λ z. omega arith),
      (λ z. omega arith),
      parts-children t (λ z. omega arith) (λ z. omega arith) (λ z. omega arith) (λ z. omega arith)
          (λ z. omega arith),
      attributes-quiet cs (shaped-parts (field t x cs) 0x2F s b),
    )

pub import-quiet : (cs : Fields) → ShapedAll cs (rule_of 0x10) → QuietAll cs
import-quiet none h = tt
import-quiet (more f fs) h = (part-quiet f h.0 (import-step (tag_of f) h.0 h.1) h.2, go (import-step (tag_of f) h.0 h.1) (import-quiet fs))
  where
    go : ImportStep (tag_of f) h.0 → (ShapedAll fs (rule_of 0x10) → QuietAll fs) → QuietAll fs
    go (inl w) ih = ih (subst (ShapedAll fs) w.1 h.3)
    go (inr w) ih = subst QuietAll (sym (shaped-none fs (subst (ShapedAll fs) w.1 h.3))) tt
