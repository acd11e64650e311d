-- The fixed bytes of imports, specifiers and export specifiers: how long they are, and where their bytes stand in the tree.
use Rattle.std.specs.Prelude.{Option, None, Some}
use Prim.Native.Nat.{ℕ, ◌+◌, ◌-◌, ◌≤◌, ◌<◌}
use native.Mathlib.Omega.{arith}
use mathlib.Core.Path.{◌≡◌, refl, sym, ap, subst, ◌∙◌}
use mathlib.Core.Bool.{Bool, true, false, cond}
use mathlib.Core.List.{List}
use lib.Dec.{ltb, eqb}
use lib.ListN.{length, get_or, drop}
use lib.Seq.{slice, length-slice}
use borrow.Author.Tests.{eqb-true, ne_eqb}
use Rattle.tree.specs.declared.grammar.Value.TheVariants.{Atom}
use Rattle.tree.specs.declared.grammar.Piece.TheVariants.{Outside}
use Rattle.tree.specs.Layout.{skip_at}
use Rattle.tree.specs.Tree.{field}
use Rattle.tree.specs.Grammar.{pieces_of}
use Rattle.tree.specs.Access.{value_at, kinds, choice_of, on_choice, kind_at, piece_at, then_piece, fixed_at}
use Rattle.tree.specs.Standing.{tree_at, row_at}
use Rattle.tree.specs.declared.row.Part.{Part}
use Rattle.tree.specs.Within.{Exact}
use Rattle.tree.proofs.AccessLaws.{upto-in}
use Rattle.tree.proofs.FixedLaws.{no-upto, fixed-same}
use Rattle.tree.proofs.PartLaws.{part_tag, part_fixed}
use Rattle.tree.proofs.SliceLaws.{get_d-slice, take-slice, drop-slice}
use Rattle.tree.proofs.StandingLaws.{tree-upto}
use Rattle.tree.proofs.WidthLaws.{skip-ends}
use Rattle.imports.specs.Parts.{Framed}

-- ---- Bytes of a part

pub byte-of : (a b : ℕ) (s : List ℕ) (k j : ℕ) → a + k ≡ j → j < b → get_or (slice a b s) k 0 ≡ get_or s j 0
byte-of a b s k j e h = get_d-slice a b s k (omega arith) ∙ ap (λ (n : ℕ). get_or s n 0) e

pub slice-of : (a b : ℕ) (s : List ℕ) (i j k l : ℕ) → a + i ≡ k → a + j ≡ l → l ≤ b → b ≤ length s → slice i j (slice a b s) ≡ slice k l s
slice-of a b s i j k l e f h g =
    ap (drop i) (take-slice j a b s (omega arith) g) ∙ drop-slice i a (a + j) s ∙ ap (λ (n : ℕ). slice n (a + j) s) e ∙ ap (λ (n : ℕ). slice k n s) f

-- ---- Fixed bytes that were found

pub framing : (p : Part) {from : ℕ} → part_fixed p ≡ Some from → Framed p.bytes.now p.at p.stop from
framing p f = record { room = p.whole.0; fits = p.whole.1; fixed = f }

-- where the tag is known
pub framing-as : (p : Part) {from tag : ℕ} → part_tag p ≡ tag → fixed_at p.bytes.now tag (p.at + 3) p.stop ≡ Some from → Framed p.bytes.now p.at p.stop from
framing-as p {from} e f = framing p (subst (λ (k : ℕ). fixed_at p.bytes.now k (p.at + 3) p.stop ≡ Some from) (sym e) f)

module _ {s : List ℕ} {at stop from : ℕ} (w : Framed s at stop from) where
  pub framed-in : (at + 3 ≤ from) × (from ≤ stop) × (from ≤ length s)
  framed-in =
      let i = upto-in s (get_or s at 0) (at + 3) stop w.room w.fixed in
      let f = w.fits in
      (i.0, i.1, omega arith)

  -- just those of the tag
  pub framed-exact : Exact (get_or s at 0) (slice (at + 3) from s)
  framed-exact =
      let x = slice (at + 3) from s in
      let i = framed-in in
      let n : length x ≡ from - (at + 3) = length-slice (at + 3) from s i.2 in
      let e₁ : from ≡ at + 3 + length x = omega arith in
      let e₂ : 0 + length x ≡ length x = omega arith in
      fixed-same (get_or s at 0) s x (at + 3) 0 (length x) stop (length x) w.room
      (λ k h. let u : 0 + k ≡ k = omega arith in sym (ap (λ (j : ℕ). get_or x j 0) u ∙ get_d-slice (at + 3) from s k (omega arith)))
      (omega arith) (λ _. e₂) (w.fixed ∙ ap Some e₁) ∙ ap Some e₂

  pub framed-tree : tree_at s at stop ≡ field (get_or s at 0) (slice (at + 3) from s) (row_at s from stop)
  framed-tree = tree-upto s at stop from w.fixed

  pub framed-length : length (slice (at + 3) from s) ≡ from - (at + 3)
  framed-length = length-slice (at + 3) from s framed-in.2

-- ---- How long they are

-- the third kind of an outside name
text-is : (x : List ℕ) (b stop : ℕ) → kind_at x Outside b stop ≡ Some stop → (get_or x b 0 ≡ 0 → ⊥) → (get_or x b 0 ≡ 1 → ⊥) → (get_or x b 0 ≡ 2) × (stop ≡ b + 3)
unfolding kind_at choice_of kinds on_choice value_at
text-is x b stop e n m = go (ltb b stop) e
  where
    kind : (c : Bool) → eqb (get_or x b 0) 2 ≡ c → on_choice (cond c (Some Atom) None) (b + 1) stop ≡ Some stop → (get_or x b 0 ≡ 2) × (stop ≡ b + 3)
    kind true w e = (eqb-true (get_or x b 0) 2 w, let z = skip-ends (b + 1) 2 stop stop e in omega arith)
    kind false w e = absurd (no-upto e)

    go : (c : Bool) → cond c (on_choice (choice_of Outside (get_or x b 0)) (b + 1) stop) None ≡ Some stop → (get_or x b 0 ≡ 2) × (stop ≡ b + 3)
    go true e = kind (eqb (get_or x b 0) 2) refl (rw (ne_eqb (get_or x b 0) 0 n, ne_eqb (get_or x b 0) 1 m) at e)
    go false e = absurd (no-upto e)

then-text : (x : List ℕ) (r : Option ℕ) → skip_at 0 6 (length x) ≡ r → then_piece r x Outside (length x) ≡ Some (length x) →
    (get_or x 6 0 ≡ 0 → ⊥) → (get_or x 6 0 ≡ 1 → ⊥) → (get_or x 6 0 ≡ 2) × (length x ≡ 9)
unfolding then_piece piece_at
then-text x None w e n m = absurd (no-upto e)
then-text x (Some b) w e n m =
    let q : b ≡ 6 = skip-ends 0 6 (length x) b w in
    text-is x 6 (length x) (subst (λ (k : ℕ). kind_at x Outside k (length x) ≡ Some (length x)) q e) n m

pub width-text : (x : List ℕ) → Exact 0x20 x → (get_or x 6 0 ≡ 0 → ⊥) → (get_or x 6 0 ≡ 1 → ⊥) → (get_or x 6 0 ≡ 2) × (length x ≡ 9)
unfolding fixed_at piece_at value_at pieces_of
width-text x h n m = then-text x (skip_at 0 6 (length x)) refl h n m
