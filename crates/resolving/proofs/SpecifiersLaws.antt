-- Specifiers, one by one as they are written.
use Rattle.std.specs.Prelude.{Option, None, Some, IsSome}
use Prim.Native.Nat.{ℕ, ◌+◌, ◌≤◌, ◌<◌}
use native.Mathlib.Omega.{arith}
use mathlib.Core.Path.{◌≡◌, refl, sym, ap, ap₂, subst, ◌∙◌}
use mathlib.Core.Bool.{Bool, true, false, cond, true≢false}
use mathlib.Core.List.{List, [], ◌∷◌, ◌++◌, append_assoc}
use mir.Val.{bool_byte}
use lib.Dec.{eqb, ltb}
use lib.ListN.{get_or}
use lib.Seq.{slice}
use borrow.Author.Tests.{ne_eqb, eqb-true, ltb-true}
use Rattle.tree.specs.declared.grammar.Piece.TheVariants.{Outside}
use Rattle.tree.specs.declared.grammar.Value.{Value}
use Rattle.tree.specs.Layout.{skip_at, two, four}
use Rattle.tree.specs.Grammar.{pieces_of}
use Rattle.tree.specs.Tree.{Field, field, Fields, none, encode, size}
use Rattle.tree.specs.Access.{value_at, choice_of, on_choice, kind_at, piece_at, then_piece, fixed_at}
use Rattle.tree.specs.Rows.{GivesPart, tree_of, fields_of}
use Rattle.tree.specs.declared.row.Part.{Part}
use Rattle.tree.specs.declared.row.Row.{Row}
use Rattle.tree.proofs.AccessLaws.{ReachIn, cond-ind, value_in}
use Rattle.tree.proofs.FixedLaws.{no-upto}
use Rattle.tree.proofs.PartLaws.{fields-none, fields-more, part_tag, part_fixed}
use Rattle.tree.proofs.SliceLaws.{get_d-slice}
use Rattle.tree.proofs.StandingLaws.{tree-upto, whole-step}
use Rattle.tree.proofs.WidthLaws.{skip-ends}
use Rattle.inputs.specs.Outcome.{Outcome, done, refused}
use Rattle.resolving_rules.specs.Resolve.{resolved_named, resolved_default, resolved_namespace, resolved_specifier, resolved_specifiers}
use Rattle.resolving.specs.declared.specifiers.Outside.TheVariants.{Nothing, Name, Text}
use Rattle.resolving.specs.declared.specifiers.Specifier.{Specifier}
use Rattle.resolving.specs.declared.specifiers.Specifier.TheVariants.{Named, Default, Namespace}
use Rattle.resolving.specs.Records.{FieldRead}
use Rattle.resolving.specs.Specifiers.{outside_of, specifier_at, named_by}
use Rattle.resolving.proofs.WritesLaws.{consed, Cons}

-- ---- A 20

choice-ends : (c : Option Value) (at stop b : ℕ) → at ≤ stop → on_choice c at stop ≡ Some b → at ≤ b
unfolding on_choice
choice-ends None at stop b h e = absurd (no-upto e)
choice-ends (Some v) at stop b h e = (subst (ReachIn at stop) e (value_in v at stop h)).0

kind-ends : (s : List ℕ) (at stop b : ℕ) → kind_at s Outside at stop ≡ Some b → at + 1 ≤ b
unfolding kind_at
kind-ends s at stop b =
    cond-ind (λ (r : Option ℕ). r ≡ Some b → at + 1 ≤ b) (ltb at stop) (on_choice (choice_of Outside (get_or s at 0)) (at + 1) stop) None
    (λ q e. let h = ltb-true at stop q in choice-ends (choice_of Outside (get_or s at 0)) (at + 1) stop b (omega arith) e) (λ _ e. absurd (no-upto e))

outside-ends : (n at stop b : ℕ) (s : List ℕ) (r : Option ℕ) → skip_at at n stop ≡ r → then_piece r s Outside stop ≡ Some b → at + n + 1 ≤ b
unfolding then_piece piece_at
outside-ends n at stop b s None w e = absurd (no-upto e)
outside-ends n at stop b s (Some c) w e = let i = skip-ends at n stop c w in let j = kind-ends s c stop b e in omega arith

-- it has its id and a kind byte
ends-20 : (s : List ℕ) (t at stop b : ℕ) → t ≡ 0x20 → fixed_at s t at stop ≡ Some b → at + 7 ≤ b
unfolding fixed_at piece_at value_at pieces_of
ends-20 s t at stop b h e =
    let z = outside-ends 6 at stop b s (skip_at at 6 stop) refl (subst (λ (k : ℕ). fixed_at s k at stop ≡ Some b) h e) in omega arith

-- by its outside name
by-outside : (x : List ℕ) (p k : ℕ) → get_or x 6 0 ≡ k → resolved_named x p ≡ named_by (outside_of k) x p
unfolding resolved_named outside_of
by-outside x p k e = ap (λ (b : ℕ). cond (eqb b 2) (refused 6 p) (done (field 0x91 x none))) e ∙ go (eqb k 0) (eqb k 2) (λ u. ne_eqb k 2 (λ v. let z = eqb-true k 0 u in absurd (omega arith)))
  where
    go : (a b : Bool) → (a ≡ true → b ≡ false) → cond b (refused 6 p) (done (field 0x91 x none)) ≡ named_by (cond a Nothing (cond b Text Name)) x p
    go true true h = absurd (true≢false (h refl))
    go true false h = refl
    go false true h = refl
    go false false h = refl

-- ---- A 21

pub default-bytes : (x : List ℕ) → encode (field 0x91 (x ++ (1 ∷ 0 ∷ 3 ∷ 0 ∷ 0 ∷ 0 ∷ 0 ∷ [])) none) ≡ encode (resolved_default x)
default-bytes x = ap (λ (y : List ℕ). encode (field 0x91 y none)) (sym (append_assoc x (1 ∷ two 3) (four 0)))

-- ---- A 22

pub namespace-bytes : (all : Bool) (x : List ℕ) → encode (field 0x92 (x ++ (bool_byte all ∷ [])) none) ≡ encode (resolved_namespace all x)
namespace-bytes true x = refl
namespace-bytes false x = refl

-- ---- By the code's test

-- a specifier with the fixed bytes x, resolved
abbrev resolved_by : Specifier → Bool → List ℕ → ℕ → Outcome Field
resolved_by (Named outside) all x p = named_by outside x p
resolved_by Default all x p = done (resolved_default x)
resolved_by Namespace all x p = done (resolved_namespace all x)

module _ (all : Bool) (p : Part) (b : ℕ) (e : part_fixed p ≡ Some b) where
  -- a 20 has its kind byte
  pub named-inside : part_tag p ≡ 0x20 → p.at + 9 < b
  named-inside h = let z = ends-20 p.bytes.now (part_tag p) (p.at + 3) p.stop b h e in omega arith

  abbrev here : List ℕ
  here = slice (p.at + 3) b p.bytes.now

  name-kind : part_tag p ≡ 0x20 → get_or here 6 0 ≡ get_or p.bytes.now (p.at + 9) 0
  name-kind h =
      let i = named-inside h in
      let z : p.at + 3 + 6 ≡ p.at + 9 = omega arith in
      get_d-slice (p.at + 3) b p.bytes.now 6 (omega arith) ∙ ap (λ (k : ℕ). get_or p.bytes.now k 0) z

  pub specifier-by : {r : Specifier} → specifier_at p.bytes.now p.at ≡ r → resolved_specifier all (tree_of p) p.at ≡ resolved_by r all here p.at
  unfolding resolved_specifier specifier_at
  specifier-by {r} q =
      ap (λ (f : Field). resolved_specifier all f p.at) (tree-upto p.bytes.now p.at p.stop b e)
      ∙ go (eqb (part_tag p) 0x20) (eqb (part_tag p) 0x21) refl
      ∙ ap (λ (i : Specifier). resolved_by i all here p.at) q
    where
      go : (c d : Bool) → eqb (part_tag p) 0x20 ≡ c →
          cond c (resolved_named here p.at) (cond d (done (resolved_default here)) (done (resolved_namespace all here)))
          ≡ resolved_by (cond c (Named (outside_of (get_or p.bytes.now (p.at + 9) 0))) (cond d Default Namespace)) all here p.at
      go true d t = by-outside here p.at (get_or p.bytes.now (p.at + 9) 0) (name-kind (eqb-true (part_tag p) 0x20 t))
      go false true t = refl
      go false false t = refl

-- the fixed bytes of a field that was read are whole
pub read-fixed : {p : Part} → FieldRead p → {o : Option ℕ} → o ≡ part_fixed p → IsSome o
read-fixed {p = p} r e = let w = whole-step p.bytes.now p.at p.stop r.whole in rw (e ∙ w.1)

-- ---- All of them

module _ (all : Bool) (r r' : Row) where
  pub specifiers-end : GivesPart r None r' → resolved_specifiers all (fields_of r) r.at ≡ done none
  unfolding resolved_specifiers
  specifiers-end g = ap (λ (fs : Fields). resolved_specifiers all fs r.at) (fields-none r r' g)

  -- the one that a walk over them gave, and the others
  pub specifiers-more : {p : Part} → GivesPart r (Some p) r' → FieldRead p →
      Cons (resolved_specifiers all (fields_of r) r.at) (resolved_specifier all (tree_of p) p.at) (resolved_specifiers all (fields_of r') r'.at)
  unfolding resolved_specifiers
  specifiers-more {p} g w =
      let l = w.long in
      let i = p.whole.0 in
      let at = g.1 in
      let next = g.3 in
      let z : r.at + size (tree_of p) ≡ r'.at = omega arith in
      record {
        is =
            ap (λ (fs : Fields). resolved_specifiers all fs r.at) (fields-more r p r' g)
            ∙ ap₂ (λ (m n : ℕ). consed (resolved_specifier all (tree_of p) m) (resolved_specifiers all (fields_of r') n)) (sym g.1) z;
      }
