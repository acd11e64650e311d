-- Where the literal of the one argument of a call stands, read off the bytes: one law for each way through sole_literal, argument_in and first_literal.
use Rattle.std.specs.Prelude.{Option, None, Some}
use Rattle.std.specs.Option.{is_some}
use Prim.Native.Nat.{ℕ, ◌+◌, ◌≤◌}
use mathlib.Core.Path.{◌≡◌, refl, ap, subst, ◌∙◌}
use mathlib.Core.Bool.{Bool, true, false, cond, ◌&&◌, and-false, and-true}
use mathlib.Core.List.{List, [], ◌∷◌}
use native.Mathlib.Omega.{arith}
use lib.Dec.{eqb}
use lib.ListN.{length, get_or}
use lib.Seq.{slice, length-slice}
use borrow.Author.Tests.{eq-eqb, ne_eqb}
use Rattle.tree.specs.Layout.{same}
use Rattle.tree.specs.Tree.{Field, field, Fields, none, more, fixed_of}
use Rattle.tree.specs.Standing.{row_at}
use Rattle.tree.specs.Rows.{GivesPart, tree_of, fields_of}
use Rattle.tree.specs.declared.row.Part.{Part}
use Rattle.tree.specs.declared.row.Row.{Row}
use Rattle.tree.proofs.AccessLaws.{upto-in}
use Rattle.tree.proofs.PartLaws.{fields-none, fields-more, part_tag, part_fixed, part-short, part-tree}
use Rattle.tree.proofs.SliceLaws.{get_d-slice}
use Rattle.tree.proofs.StandingLaws.{tree-upto}
use Rattle.tree.proofs.WidthLaws.{plain-ends}
use Rattle.tree.specs.declared.grammar.Value.TheVariants.{Literal as SixBytes}
use Rattle.inputs.specs.Fields.{has, sole}
use Rattle.extraction_rules.specs.First.{argument}
use Rattle.expressions.specs.Require.{Found, literal_first}

-- a literal that is told otherwise
found-as : {s : List ℕ} {l m : Option (List ℕ)} (r : Option ℕ) → m ≡ l → Found s l r → Found s m r
found-as (Some at) h f = record { is = (h ∙ f.is.0, f.is.1) }
found-as None h f = record { is = h ∙ f.is }

-- ---- The first of some fields

pub first-none : (row row' : Row) → GivesPart row None row' → Found row.bytes.now (literal_first (fields_of row)) None
unfolding literal_first
first-none row row' g = record { is = ap literal_first (fields-none row row' g) }

module _ (row : Row) (p : Part) (row' : Row) (g : GivesPart row (Some p) row') where
  pub first-short : part_fixed p ≡ None → Found row.bytes.now (literal_first (fields_of row)) None
  unfolding literal_first
  first-short x = record { is = ap literal_first (fields-more row p row' g ∙ ap (λ (f : Field). more f (fields_of row')) (part-short p x)) }

  first-is : (b : ℕ) → part_fixed p ≡ Some b → literal_first (fields_of row) ≡ cond (eqb (part_tag p) 0x61) (Some (slice (p.at + 3) b p.bytes.now)) None
  unfolding literal_first
  first-is b x =
      ap literal_first (fields-more row p row' g ∙ ap (λ (f : Field). more f (fields_of row')) (tree-upto p.bytes.now p.at p.stop b x))

  pub first-61 : {b : ℕ} → p.at + 9 ≤ length p.bytes.now → part_fixed p ≡ Some b → part_tag p ≡ 0x61 →
      Found row.bytes.now (literal_first (fields_of row)) (Some (p.at + 3))
  first-61 {b} fits x h =
      let w = plain-ends 0x61 SixBytes refl p.bytes.now (part_tag p) (p.at + 3) p.stop b h x in
      subst (λ (s : List ℕ). Found s (literal_first (fields_of row)) (Some (p.at + 3))) g.5
      (record { is = (first-is b x ∙ rw (eq-eqb (part_tag p) 0x61 h) (ap (λ (k : ℕ). Some (slice (p.at + 3) k p.bytes.now)) w), omega arith) })

  pub first-rest : {b : ℕ} → part_fixed p ≡ Some b → (part_tag p ≡ 0x61 → ⊥) → Found row.bytes.now (literal_first (fields_of row)) None
  first-rest {b} x h = record { is = first-is b x ∙ rw (ne_eqb (part_tag p) 0x61 h) }

-- ---- An argument

not-75 : (t : ℕ) (x : List ℕ) (cs : Fields) → (t ≡ 0x75 → ⊥) → argument (Some (field t x cs)) ≡ None
unfolding argument
not-75 t x none h = refl
not-75 t x (more f fs) h = rw (ne_eqb t 0x75 h)

and-middle : (a b c : Bool) → b ≡ false → (a && b && c) ≡ false
and-middle true b c h = ap (λ (d : Bool). d && c) h
and-middle false b c h = refl

not-plain : (t : ℕ) (x : List ℕ) (cs : Fields) → same x (0 ∷ []) ≡ false → argument (Some (field t x cs)) ≡ None
unfolding argument
not-plain t x none h = refl
not-plain t x (more f fs) h = ap (λ (b : Bool). cond b (Some (fixed_of f)) None) (and-middle (eqb t 0x75) (same x (0 ∷ [])) (has 0x61 f) h)

is_plain : (x : List ℕ) (cs : Fields) → same x (0 ∷ []) ≡ true → argument (Some (field 0x75 x cs)) ≡ literal_first cs
unfolding argument literal_first
is_plain x none h = refl
is_plain x (more f fs) h = ap (λ (b : Bool). cond (b && has 0x61 f) (Some (fixed_of f)) None) h

-- one byte that is 0
same-length : (x : List ℕ) → (length x ≡ 1 → ⊥) → same x (0 ∷ []) ≡ false
unfolding same
same-length [] h = refl
same-length (a ∷ []) h = absurd (h refl)
same-length (a ∷ (b ∷ x)) h = and-false (eqb a 0)

same-zero : (x : List ℕ) (a : ℕ) → length x ≡ 1 → get_or x 0 0 ≡ a → same x (0 ∷ []) ≡ eqb a 0
unfolding same
same-zero [] a h e = absurd (omega arith)
same-zero (b ∷ []) a h e = and-true (eqb b 0) ∙ ap (λ (k : ℕ). eqb k 0) e
same-zero (b ∷ (c ∷ x)) a h e = absurd (omega arith)

module _ (p : Part) where
  pub argument-other : (part_tag p ≡ 0x75 → ⊥) → Found p.bytes.now (argument (Some (tree_of p))) None
  argument-other h = record { is = go (part_fixed p) refl }
    where
      go : (r : Option ℕ) → part_fixed p ≡ r → argument (Some (tree_of p)) ≡ None
      go None e = ap (λ (f : Field). argument (Some f)) (part-short p e) ∙ not-75 0 [] none (λ z. omega arith)
      go (Some b) e =
          ap (λ (f : Field). argument (Some f)) (tree-upto p.bytes.now p.at p.stop b e)
          ∙ not-75 (part_tag p) (slice (p.at + 3) b p.bytes.now) (row_at p.bytes.now b p.stop) h

  pub argument-short : part_fixed p ≡ None → Found p.bytes.now (argument (Some (tree_of p))) None
  argument-short e = record { is = ap (λ (f : Field). argument (Some f)) (part-short p e) ∙ not-75 0 [] none (λ z. omega arith) }

  module _ {b : ℕ} (e : part_fixed p ≡ Some b) where
    argument-is : argument (Some (tree_of p)) ≡ argument (Some (field (part_tag p) (slice (p.at + 3) b p.bytes.now) (row_at p.bytes.now b p.stop)))
    argument-is = ap (λ (f : Field). argument (Some f)) (tree-upto p.bytes.now p.at p.stop b e)

    fixed-inside : (p.at + 3 ≤ b) × (b ≤ length p.bytes.now)
    fixed-inside =
        let j = upto-in p.bytes.now (part_tag p) (p.at + 3) p.stop p.whole.0 e in
        let k = p.whole.1 in
        (j.0, omega arith)

    pub argument-wide : (b ≡ p.at + 4 → ⊥) → Found p.bytes.now (argument (Some (tree_of p))) None
    argument-wide h =
        let i = fixed-inside in
        let x = slice (p.at + 3) b p.bytes.now in
        let l = length-slice (p.at + 3) b p.bytes.now i.1 in
        record { is = argument-is ∙ not-plain (part_tag p) x (row_at p.bytes.now b p.stop) (same-length x (λ z. h (omega arith))) }

    module _ (w : b ≡ p.at + 4) where
      spread : same (slice (p.at + 3) b p.bytes.now) (0 ∷ []) ≡ eqb (get_or p.bytes.now (p.at + 3) 0) 0
      spread =
          let i = fixed-inside in
          let l = length-slice (p.at + 3) b p.bytes.now i.1 in
          let z : p.at + 3 + 0 ≡ p.at + 3 = omega arith in
          same-zero (slice (p.at + 3) b p.bytes.now) (get_or p.bytes.now (p.at + 3) 0) (omega arith)
          (get_d-slice (p.at + 3) b p.bytes.now 0 (omega arith) ∙ ap (λ (k : ℕ). get_or p.bytes.now k 0) z)

      pub argument-spread : (get_or p.bytes.now (p.at + 3) 0 ≡ 0 → ⊥) → Found p.bytes.now (argument (Some (tree_of p))) None
      argument-spread h =
          record {
            is = argument-is
                ∙ not-plain (part_tag p) (slice (p.at + 3) b p.bytes.now) (row_at p.bytes.now b p.stop)
                (spread ∙ ne_eqb (get_or p.bytes.now (p.at + 3) 0) 0 h);
          }

      pub argument-plain : (r : Option ℕ) (row : Row) → part_tag p ≡ 0x75 → get_or p.bytes.now (p.at + 3) 0 ≡ 0 →
          (row.bytes.now ≡ p.bytes.now) × (row.at ≡ b) × (row.end ≡ p.stop) →
          Found row.bytes.now (literal_first (fields_of row)) r → Found p.bytes.now (argument (Some (tree_of p))) r
      argument-plain r row h k m f =
          let x = slice (p.at + 3) b p.bytes.now in
          found-as r (ap (λ (t : Field). argument (Some t)) (part-tree p row e m)
          ∙ ap (λ (t : ℕ). argument (Some (field t x (fields_of row)))) h
          ∙ is_plain x (fields_of row) (spread ∙ eq-eqb (get_or p.bytes.now (p.at + 3) 0) 0 k))
          (subst (λ (s : List ℕ). Found s (literal_first (fields_of row)) r) m.0 f)

-- ---- The one argument

pub sole-none : (row row' : Row) → GivesPart row None row' → Found row.bytes.now (argument (sole (fields_of row))) None
unfolding sole argument
sole-none row row' g = record { is = ap (λ (f : Fields). argument (sole f)) (fields-none row row' g) }

module _ (row : Row) (p : Part) (row' : Row) (g : GivesPart row (Some p) row') where
  pub sole-two : (q : Option Part) (row'' : Row) → GivesPart row' q row'' → true ≡ is_some q → Found row.bytes.now (argument (sole (fields_of row))) None
  unfolding sole argument
  sole-two None row'' h e = absurd (let z : ◌≡◌ {A = ℕ} 0 1 = cc in omega arith)
  sole-two (Some q) row'' h e =
      record { is = ap (λ (f : Fields). argument (sole f)) (fields-more row p row' g ∙ ap (more (tree_of p)) (fields-more row' q row'' h)) }

  pub sole-one : (r : Option ℕ) (row'' : Row) → GivesPart row' None row'' → Found p.bytes.now (argument (Some (tree_of p))) r →
      Found row.bytes.now (argument (sole (fields_of row))) r
  unfolding sole
  sole-one r row'' h f =
      found-as r (ap (λ (f : Fields). argument (sole f)) (fields-more row p row' g ∙ ap (more (tree_of p)) (fields-none row' row'' h)))
      (subst (λ (s : List ℕ). Found s (argument (Some (tree_of p))) r) g.5 f)
