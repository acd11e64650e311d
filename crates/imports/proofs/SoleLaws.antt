-- The namespace that an import's only specifier is.
use Rattle.std.specs.Prelude.{Option, None, Some}
use Prim.Native.Nat.{ℕ}
use native.Mathlib.Omega.{arith}
use mathlib.Core.Path.{◌≡◌, refl, sym, ap, ◌∙◌}
use mathlib.Core.Logic.{⊎_elim}
use mathlib.Core.Bool.{Bool, cond}
use mathlib.Core.List.{List}
use borrow.Author.Tests.{eq-eqb, ne_eqb}
use Rattle.tree.specs.Tree.{Field, Fields, none, more, tag_of, fixed_of}
use Rattle.tree.specs.Grammar.{rule_of}
use Rattle.tree.specs.Rows.{GivesPart, tree_of, fields_of}
use Rattle.tree.specs.Standing.{row_at, Row as Standing}
use Rattle.tree.specs.declared.row.Part.{Part}
use Rattle.tree.specs.declared.row.Row.{Row}
use Rattle.tree.proofs.PartLaws.{fields-none, part_tag, part_fixed, part-short}
use Rattle.tree.proofs.StandingLaws.{tree-upto}
use Rattle.scope.specs.declared.id.Id.{Id}
use Rattle.inputs.specs.Fields.{sole}
use Rattle.extraction_rules.specs.First.{specifiers_in}
use Rattle.extraction_rules.proofs.KeepLaws.{keep-none}
use Rattle.steps.specs.Step.{ident_by}
use Rattle.imports.specs.declared.note.Specifier.TheVariants.{Namespace}
use Rattle.imports.specs.Parts.{SpecifierIs, Ends, namespace_in, namespace_by}
use Rattle.imports.proofs.PartsLaws.{PartsRow, LastPart, part-cases, first-specifiers, last-specifiers}

-- ---- The id of a 22

namespace-yes : (f : Field) → tag_of f ≡ 0x22 → namespace_in f ≡ Some (fixed_of f)
namespace-yes f e = ap (λ (b : Bool). cond b (Some (fixed_of f)) None) (eq-eqb (tag_of f) 0x22 e)

namespace-no : (f : Field) → (tag_of f ≡ 0x22 → ⊥) → namespace_in f ≡ None
namespace-no f e = ap (λ (b : Bool). cond b (Some (fixed_of f)) None) (ne_eqb (tag_of f) 0x22 e)

module _ (p : Part) where
  pub namespace-is : (id : Id) → SpecifierIs (tree_of p) (Namespace id) → ident_by (Some id) ≡ namespace_in (tree_of p)
  namespace-is id w = ap Some w.1 ∙ sym (namespace-yes (tree_of p) w.0)

  pub namespace-other : {from : ℕ} → part_fixed p ≡ Some from → (part_tag p ≡ 0x22 → ⊥) → ident_by None ≡ namespace_in (tree_of p)
  namespace-other {from} e n =
      sym (namespace-no (tree_of p) (λ z. n (sym (ap tag_of (tree-upto p.bytes.now p.at p.stop from e)) ∙ z)))

  pub namespace-short : part_fixed p ≡ None → ident_by None ≡ namespace_in (tree_of p)
  namespace-short e = sym (ap namespace_in (part-short p e))

-- ---- The only specifier

abbrev Sole : List ℕ → ℕ → ℕ → (Option Id) → Type 0
Sole s from end r = Standing s from end (rule_of 0x10) → ident_by r ≡ namespace_by (sole (specifiers_in (row_at s from end)))

sole-none : namespace_by (sole none) ≡ None
unfolding sole
sole-none = refl

sole-one : (f : Field) → namespace_by (sole (more f none)) ≡ namespace_in f
unfolding sole
sole-one f = refl

sole-two : (f g : Field) (gs : Fields) → namespace_by (sole (more f (more g gs))) ≡ None
unfolding sole
sole-two f g gs = refl

-- the row r of the fields from `from` up to end
module _ {s : List ℕ} {from end : ℕ} (r r' : Row) (m : (r.bytes.now ≡ s) × (r.at ≡ from) × (r.end ≡ end)) where
  pub sole-short : GivesPart r None r' → Sole s from end None
  sole-short g = rw (m.0, m.1, m.2) at (λ (w : PartsRow r). sym (ap (λ (fs : Fields). namespace_by (sole fs)) (ap specifiers_in (fields-none r r' g) ∙ keep-none _) ∙ sole-none))

  module _ (p : Part) (g : GivesPart r (Some p) r') where
    -- of what stands behind the first
    behind : {k : ℕ} → Ends s p.stop end k → Ends r'.bytes.now r'.at r'.end k
    behind v = rw (g.2 ∙ m.0, g.3, g.4 ∙ m.2) v

    last-sole : LastPart r p → namespace_by (sole (specifiers_in (fields_of r))) ≡ None
    last-sole l = ap (λ (fs : Fields). namespace_by (sole fs)) (last-specifiers l) ∙ sole-none

    is-row : (x : Option Id) {k : ℕ} → k ≡ r'.at → Ends r'.bytes.now r'.at r'.end k → ident_by x ≡ namespace_in (tree_of p) → PartsRow r →
        ident_by x ≡ namespace_by (sole (specifiers_in (fields_of r)))
    is-row x q v w a =
        ⊎_elim (λ f.
        w ∙ sym (ap (λ (fs : Fields). namespace_by (sole fs)) (first-specifiers f ∙ ap (more (tree_of p)) (v.stays f.rest q)) ∙ sole-one (tree_of p)))
        (λ l. w ∙ namespace-no (tree_of p) (λ z. let j = l.tag in omega arith) ∙ sym (last-sole l))
        (part-cases r p r' g a)

    more-row : {k : ℕ} → (k ≡ r'.at → ⊥) → Ends r'.bytes.now r'.at r'.end k → PartsRow r → ident_by None ≡ namespace_by (sole (specifiers_in (fields_of r)))
    more-row n v a =
        ⊎_elim (λ f.
        let h = v.after in
        let g = v.goes f.rest (omega arith) in
        sym (ap (λ (fs : Fields). namespace_by (sole fs)) (first-specifiers f ∙ ap (more (tree_of p)) g.2) ∙ sole-two (tree_of p) g.0 g.1))
        (λ l. sym (last-sole l))
        (part-cases r p r' g a)

    pub sole-is : {k : ℕ} (x : Option Id) → k ≡ p.stop → Ends s p.stop end k → ident_by x ≡ namespace_in (tree_of p) → Sole s from end x
    sole-is x q v w = rw (m.0, m.1, m.2) at (is-row x (q ∙ sym g.3) (behind v) w)

    pub sole-more : {k : ℕ} → (k ≡ p.stop → ⊥) → Ends s p.stop end k → Sole s from end None
    sole-more n v = rw (m.0, m.1, m.2) at (more-row (λ q. n (q ∙ g.3)) (behind v))
