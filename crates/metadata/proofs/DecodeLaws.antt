-- What attributes in bytes tell: whether a content starts with given bytes, what it tells, and what a row of attributes tells.
use Rattle.std.specs.Prelude.{Option, None, Some}
use Rattle.std.specs.Option.{MatchOption}
use denote.Ref.{Bor}
use Prim.Native.Nat.{ℕ, ◌+◌, ◌≤◌, ◌<◌}
use native.Mathlib.Omega.{arith}
use mathlib.Core.Path.{◌≡◌, refl, sym, ap, ◌∙◌}
use mathlib.Core.Bool.{Bool, true, false, ◌&&◌}
use mathlib.Core.List.{List, [], ◌∷◌, ◌++◌}
use lib.Dec.{eqb}
use lib.ListN.{length, take, length-take, drop}
use lib.Pointwise.{pointwise}
use lib.Seq.{slice}
use Rattle.tree.specs.Layout.{same}
use Rattle.tree.specs.Tree.{fixed_of, Field, Fields, parts_of}
use Rattle.tree.proofs.LayoutLaws.{same-pointwise, same-equal}
use Rattle.metadata.specs.Decimal.{parsed}
use Rattle.metadata.specs.Metadata.{injected_key, context_key, header, injected_attribute, starts_with, context_in, Metadata, told, merged, unset, decode_from, decode}
use Rattle.tree.specs.Rows.{GivesPart, tree_of, fields_of}
use Rattle.tree.specs.declared.row.Part.{Part}
use Rattle.tree.specs.declared.row.Row.{Row}
use Rattle.tree.proofs.PartLaws.{fields-none, fields-more, part_fixed, part-short, part-tree}
use Rattle.tree.proofs.StandingLaws.{tree-upto}
use Rattle.metadata.specs.Calls.{attributes_in}

-- runs of different lengths differ; so a content that starts with a key is as long, and a shorter one starts with none
pub other-length : (x y : List ℕ) → (length x ≡ length y → ⊥) → same x y ≡ false
other-length x y h = go (same x y) refl
  where
    go : (b : Bool) → same x y ≡ b → same x y ≡ false
    go true e = absurd (h (ap length (same-equal x y e)))
    go false e = e

pub starts-short : (h x : List ℕ) → length x < length h → starts_with h x ≡ false
unfolding starts_with
starts-short h x l = other-length (take (length h) x) h (λ e. let n = length-take (length h) x in omega arith)

pub starts-long : (h x : List ℕ) → starts_with h x ≡ true → length h ≤ length x
unfolding starts_with
starts-long h x e =
    let n = length-take (length h) x in
    let m = ap length (same-equal (take (length h) x) h e) in
    omega arith

-- a run is two runs behind one another just where its front is the first and its back the second
same-split : (h v x : List ℕ) → same x (h ++ v) ≡ same (take (length h) x) h && same (drop (length h) x) v
unfolding same
same-split [] v x = refl
same-split (b ∷ h) v [] = refl
same-split (b ∷ h) v (a ∷ x) = ap (λ (t : Bool). eqb a b && t) (same-split h v x) ∙ and-assoc (eqb a b) (same (take (length h) x) h) (same (drop (length h) x) v)
  where
    and-assoc : (p q r : Bool) → p && (q && r) ≡ (p && q) && r
    and-assoc true q r = refl
    and-assoc false q r = refl

-- by the library's test of a front, and of the value behind it
abbrev front : List ℕ → List ℕ → Bool
front h x = pointwise eqb (take (length h) x) h

abbrev Rest : Bor (List ℕ) → List ℕ → Type 0
Rest v x = length v.now + length (header injected_key) ≡ length x

module _ (x : List ℕ) where
  module _ (b : Bool) (e : front (header injected_key) x ≡ b) where
    injected-by : b && same (drop (length (header injected_key)) x) (49 ∷ []) ≡ same x (fixed_of injected_attribute)
    unfolding injected_attribute
    injected-by =
        ap (λ (t : Bool). t && same (drop (length (header injected_key)) x) (49 ∷ [])) (sym e ∙ same-pointwise (take (length (header injected_key)) x) (header injected_key))
        ∙ sym (same-split (header injected_key) (49 ∷ []) x)

  pub injected-untold : front (header injected_key) x ≡ false → false ≡ same x (fixed_of injected_attribute)
  injected-untold e = injected-by false e

  pub injected-told : {value : List ℕ} → front (header injected_key) x ≡ true → value ≡ drop (length (header injected_key)) x →
      pointwise eqb value (49 ∷ []) ≡ same x (fixed_of injected_attribute)
  injected-told {value} e v = same-pointwise value (49 ∷ []) ∙ ap (λ (y : List ℕ). same y (49 ∷ [])) v ∙ injected-by true e

  -- by the library's answers: what is left behind the key, and what a test of it says
  pub injected-is : (o : Option (Bor (List ℕ))) (r : Bool) (Says : Bor (List ℕ) → Type 0) →
      MatchOption o (front (header injected_key) x ≡ false) (λ v. (front (header injected_key) x ≡ true) × (v.now ≡ drop (length (header injected_key)) x) × Rest v x) →
      MatchOption o (r ≡ false) Says → ((v : Bor (List ℕ)) → Says v → r ≡ pointwise eqb v.now (49 ∷ [])) → r ≡ same x (fixed_of injected_attribute)
  injected-is None r Says p q k = q ∙ injected-untold p
  injected-is (Some v) r Says p q k = k v q ∙ injected-told p.0 p.1

  starts : starts_with (header context_key) x ≡ front (header context_key) x
  unfolding starts_with
  starts = sym (same-pointwise (take (length (header context_key)) x) (header context_key))

  pub context-told : {value : List ℕ} → front (header context_key) x ≡ true → value ≡ drop (length (header context_key)) x → context_in x ≡ parsed value
  unfolding context_in
  context-told e v = rw (starts ∙ e) (ap parsed (sym v))

  pub context-untold : front (header context_key) x ≡ false → context_in x ≡ None
  unfolding context_in
  context-untold e = rw (starts ∙ e)

-- ---- A row of attributes

-- a field tells what its fixed bytes tell, and nothing where they are short
module _ (p : Part) where
  pub told-upto : {b : ℕ} → part_fixed p ≡ Some b → told (slice (p.at + 3) b p.bytes.now) ≡ told (fixed_of (tree_of p))
  told-upto {b} e = ap (λ (f : Field). told (fixed_of f)) (sym (tree-upto p.bytes.now p.at p.stop b e))

  pub told-short : part_fixed p ≡ None → unset ≡ told (fixed_of (tree_of p))
  unfolding told same starts_with context_in injected_attribute
  told-short e = ap (λ (f : Field). told (fixed_of f)) (sym (part-short p e))

-- in a walk over them: the field that it gave, and the fields behind it
module _ (r r' : Row) where
  pub decode-more : (m : Metadata) (p : Part) → GivesPart r (Some p) r' → decode_from m (fields_of r) ≡ decode_from (merged m (told (fixed_of (tree_of p)))) (fields_of r')
  unfolding decode_from
  decode-more m p g = ap (decode_from m) (fields-more r p r' g)

  pub decode-none : (m : Metadata) → GivesPart r None r' → decode_from m (fields_of r) ≡ m
  unfolding decode_from
  decode-none m g = ap (decode_from m) (fields-none r r' g)

  -- the parts of the first
  pub parts-none : GivesPart r None r' → unset ≡ decode (attributes_in (fields_of r))
  unfolding decode decode_from
  parts-none g = ap (λ (fs : Fields). decode (attributes_in fs)) (sym (fields-none r r' g))

  module _ (p : Part) (g : GivesPart r (Some p) r') where
    pub parts-short : part_fixed p ≡ None → unset ≡ decode (attributes_in (fields_of r))
    unfolding decode decode_from
    parts-short e =
        ap (λ (f : Field). decode (parts_of f)) (sym (part-short p e))
        ∙ ap (λ (fs : Fields). decode (attributes_in fs)) (sym (fields-more r p r' g))

    pub parts-upto : {b : ℕ} (q : Row) → part_fixed p ≡ Some b → (q.bytes.now ≡ p.bytes.now) × (q.at ≡ b) × (q.end ≡ p.stop) →
        decode (fields_of q) ≡ decode (attributes_in (fields_of r))
    parts-upto q e made =
        ap (λ (f : Field). decode (parts_of f)) (sym (part-tree p q e made))
        ∙ ap (λ (fs : Fields). decode (attributes_in fs)) (sym (fields-more r p r' g))
