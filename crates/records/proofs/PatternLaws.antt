-- The binding ids of the pattern that stands in bytes, and their bytes: way by way through the code that writes them.
use Rattle.std.specs.Prelude.{None, Some}
use Prim.Native.Nat.{ℕ, ◌+◌, ◌≤◌}
use mathlib.Core.Path.{◌≡◌, refl, sym, ap, ◌∙◌}
use mathlib.Core.Logic.{◌⊎◌, inl, inr}
use mathlib.Core.List.{List, [], ◌∷◌, ◌++◌}
use native.Mathlib.Omega.{arith}
use lib.Seq.{slice}
use borrow.Author.Tests.{ne_eqb}
use Rattle.tree.specs.Layout.{id_at}
use Rattle.tree.specs.Tree.{Field, field, Fields, none, more, encode, encodes}
use Rattle.tree.specs.Standing.{row_at}
use Rattle.tree.specs.Rows.{GivesPart, tree_of, fields_of}
use Rattle.tree.specs.declared.row.Part.{Part}
use Rattle.tree.specs.declared.row.Row.{Row}
use Rattle.tree.proofs.SliceLaws.{take-slice}
use Rattle.tree.proofs.AccessLaws.{upto-in}
use Rattle.tree.proofs.StandingLaws.{tree-upto}
use Rattle.tree.proofs.PartLaws.{fields-none, fields-more, part_tag, part_fixed, part-short, part-tree}
use Rattle.tree.proofs.WidthLaws.{plain-ends}
use Rattle.tree.proofs.TreeLaws.{encodes-one}
use Rattle.tree.specs.declared.grammar.Value.TheVariants.{Id}
use Rattle.metadata.proofs.EncodeLaws.{encodes-append}
use Rattle.writer.specs.Wrote.{Wrote}
use Rattle.writer.proofs.Wrote.{wrote-none, wrote-then, wrote-as}
use Rattle.extraction_rules.specs.First.{Binding, bound, left, below, binding_of, bindings, bindings_all, bindings_first}
use Rattle.extraction_rules.proofs.RecordedLaws.{bindings_by}

bindings-by : (t : ℕ) (x : List ℕ) (cs : Fields) (b : Binding) → binding_of t ≡ b → bindings (field t x cs) ≡ bindings_by b x cs
unfolding bindings
bindings-by t x cs b e = ap (λ (k : Binding). bindings_by k x cs) e

bound-50 : binding_of 0x50 ≡ bound
unfolding binding_of
bound-50 = refl

bound-54 : binding_of 0x54 ≡ bound
unfolding binding_of
bound-54 = refl

left-55 : binding_of 0x55 ≡ left
unfolding binding_of
left-55 = refl

below-other : (t : ℕ) → (t ≡ 0x50 → ⊥) → (t ≡ 0x54 → ⊥) → (t ≡ 0x55 → ⊥) → binding_of t ≡ below
unfolding binding_of
below-other t a b c = rw (ne_eqb t 0x50 a, ne_eqb t 0x54 b, ne_eqb t 0x55 c)

module _ (p : Part) where
  -- a field that is not whole
  pub bindings-short : {l : List ℕ} {o : ℕ} → part_fixed p ≡ None → Wrote l o (encodes (bindings (tree_of p))) l o
  unfolding bindings binding_of encodes
  bindings-short e = wrote-as wrote-none (sym (ap (λ (f : Field). encodes (bindings f)) (part-short p e)))

  module _ (b : ℕ) (e : part_fixed p ≡ Some b) where
    -- its parts stand behind its fixed bytes
    pub parts-behind : (p.at + 3 ≤ b) × (b ≤ p.stop)
    parts-behind = upto-in p.bytes.now (part_tag p) (p.at + 3) p.stop p.whole.0 e

    -- a binding: its id is all
    pub bound-ends : (part_tag p ≡ 0x50) ⊎ (part_tag p ≡ 0x54) → b ≡ p.at + 3 + 6
    bound-ends (inl h) = plain-ends 0x50 Id refl p.bytes.now (part_tag p) (p.at + 3) p.stop b h e
    bound-ends (inr h) = plain-ends 0x54 Id refl p.bytes.now (part_tag p) (p.at + 3) p.stop b h e

    pub bindings-bound : {l l' x : List ℕ} {o q : ℕ} → (part_tag p ≡ 0x50) ⊎ (part_tag p ≡ 0x54) → x ≡ id_at p.bytes.now (p.at + 3) →
        Wrote l o (encode (field 0x20 (x ++ 0 ∷ []) none)) l' q → Wrote l o (encodes (bindings (tree_of p))) l' q
    bindings-bound {x = x} h i v =
        let w = bound-ends h in
        let k = parts-behind in
        let u = p.whole.1 in
        wrote-as v
        (sym (encodes-one (field 0x20 (x ++ 0 ∷ []) none))
        ∙ ap (λ (y : List ℕ). encodes (more (field 0x20 (y ++ 0 ∷ []) none) none)) (i ∙ sym (take-slice 6 (p.at + 3) b p.bytes.now (omega arith) (omega arith)))
        ∙ ap encodes
        (sym (ap bindings (tree-upto p.bytes.now p.at p.stop b e) ∙ bindings-by (part_tag p) (slice (p.at + 3) b p.bytes.now) (row_at p.bytes.now b p.stop) bound (is h))))
      where
        is : (part_tag p ≡ 0x50) ⊎ (part_tag p ≡ 0x54) → binding_of (part_tag p) ≡ bound
        is (inl k) = ap binding_of k ∙ bound-50
        is (inr k) = ap binding_of k ∙ bound-54

    module _ (r : Row) (m : (r.bytes.now ≡ p.bytes.now) × (r.at ≡ b) × (r.end ≡ p.stop)) where
      by-tag : (k : Binding) → binding_of (part_tag p) ≡ k → bindings (tree_of p) ≡ bindings_by k (slice (p.at + 3) b p.bytes.now) (fields_of r)
      by-tag k h = ap bindings (part-tree p r e m) ∙ bindings-by (part_tag p) (slice (p.at + 3) b p.bytes.now) (fields_of r) k h

      -- the left pattern
      pub bindings-left : {l l' : List ℕ} {o q : ℕ} → part_tag p ≡ 0x55 → Wrote l o (encodes (bindings_first (fields_of r))) l' q →
          Wrote l o (encodes (bindings (tree_of p))) l' q
      bindings-left h v = wrote-as v (ap encodes (sym (by-tag left (ap binding_of h ∙ left-55))))

      -- all parts
      pub bindings-below : {l l' : List ℕ} {o q : ℕ} → (part_tag p ≡ 0x50 → ⊥) → (part_tag p ≡ 0x54 → ⊥) → (part_tag p ≡ 0x55 → ⊥) →
          Wrote l o (encodes (bindings_all (fields_of r))) l' q → Wrote l o (encodes (bindings (tree_of p))) l' q
      bindings-below x y z v = wrote-as v (ap encodes (sym (by-tag below (below-other (part_tag p) x y z))))

-- ---- Rows

module _ (r r' : Row) (g : GivesPart r None r') {l : List ℕ} {o : ℕ} where
  pub first-none : Wrote l o (encodes (bindings_first (fields_of r))) l o
  unfolding bindings_first encodes
  first-none = wrote-as wrote-none (sym (ap (λ (fs : Fields). encodes (bindings_first fs)) (fields-none r r' g)))

  pub all-none : Wrote l o (encodes (bindings_all (fields_of r))) l o
  unfolding bindings_all encodes
  all-none = wrote-as wrote-none (sym (ap (λ (fs : Fields). encodes (bindings_all fs)) (fields-none r r' g)))

module _ (r : Row) (p : Part) (r' : Row) (g : GivesPart r (Some p) r') where
  pub first-more : {l l' : List ℕ} {o q : ℕ} → Wrote l o (encodes (bindings (tree_of p))) l' q → Wrote l o (encodes (bindings_first (fields_of r))) l' q
  unfolding bindings_first
  first-more v = wrote-as v (sym (ap (λ (fs : Fields). encodes (bindings_first fs)) (fields-more r p r' g)))

  pub all-more : {l l' l'' : List ℕ} {o q q' : ℕ} → Wrote l o (encodes (bindings (tree_of p))) l' q →
      Wrote l' q (encodes (bindings_all (fields_of r'))) l'' q' → Wrote l o (encodes (bindings_all (fields_of r))) l'' q'
  unfolding bindings_all
  all-more v w =
      wrote-as (wrote-then v w)
      (sym (ap (λ (fs : Fields). encodes (bindings_all fs)) (fields-more r p r' g) ∙ encodes-append (bindings (tree_of p)) (bindings_all (fields_of r'))))
