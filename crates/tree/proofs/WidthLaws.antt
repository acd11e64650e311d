-- Tags whose fixed bytes are one plain value: where these end, how many they are, and the tree that stands there if they are none.
-- So the items of a module stand from 3 on.
use Rattle.std.specs.Prelude.{Option, Some, None}
use Prim.Native.Nat.{ℕ, ◌+◌, ◌-◌, ◌≤◌}
use mathlib.Core.Path.{◌≡◌, refl, sym, ap, ◌∙◌, subst}
use mathlib.Core.List.{List, []}
use native.Mathlib.Omega.{arith}
use lib.Dec.{leb}
use lib.ListN.{length, get_or, take, length-take, drop_of_length-le}
use lib.Seq.{slice}
use borrow.Author.Tests.{le-leb}
use Rattle.tree.specs.declared.grammar.Value.{Value}
use Rattle.tree.specs.declared.grammar.Value.TheVariants.{Empty, Byte, Atom, Id, Literal, Number}
use Rattle.tree.specs.declared.grammar.Piece.TheVariants.{Plain}
use Rattle.tree.specs.declared.grammar.Pieces.{Pieces}
use Rattle.tree.specs.Layout.{skip_at, literal_end}
use Rattle.tree.specs.Tree.{field, Field, Fields, none, more}
use Rattle.tree.specs.Grammar.{find, only, fixed_parts, pieces_of, rule_of}
use Rattle.tree.specs.Access.{value_at, piece_at, then_piece, fixed_at}
use Rattle.tree.specs.Width.{value_width}
use Rattle.tree.specs.Standing.{tree_at, row_at, Row}
use Rattle.tree.specs.Within.{Exact}
use Rattle.tree.proofs.FixedLaws.{no-upto, upto-inj}
use Rattle.tree.proofs.AccessLaws.{cond-ind}
use Rattle.tree.proofs.StandingLaws.{tree-upto, whole-step, read-field}
use Rattle.tree.proofs.GrammarLaws.{module-tag}
use Rattle.tree.specs.declared.grammar.Set.TheVariants.{Module}
use Rattle.tree.specs.Read.{fine, read}

-- the table gives k the one value v: `refl` for a tag in figures
abbrev pub Plainly : ℕ → Value → Type 0
Plainly k v = find k fixed_parts (only (Plain Empty)) ≡ only (Plain v)

pub skip-ends : (at n stop b : ℕ) → skip_at at n stop ≡ Some b → b ≡ at + n
unfolding skip_at
skip-ends at n stop b =
    cond-ind (λ (r : Option ℕ). r ≡ Some b → b ≡ at + n) (leb n (stop - at)) (Some (at + n)) None (λ _ e. sym (upto-inj e))
    (λ _ e. absurd (no-upto e))

skip-upto : (at n stop : ℕ) → at + n ≤ stop → skip_at at n stop ≡ Some (at + n)
unfolding skip_at
skip-upto at n stop h = rw (le-leb n (stop - at) (omega arith))

pub value-skips : (v : Value) (at stop : ℕ) → value_at v at stop ≡ skip_at at (value_width v) stop
unfolding value_at literal_end
value-skips Empty at stop = refl
value-skips Byte at stop = refl
value-skips Atom at stop = refl
value-skips Id at stop = refl
value-skips Literal at stop = refl
value-skips Number at stop = refl

then-ends : (at n stop b : ℕ) (s : List ℕ) (r : Option ℕ) → skip_at at n stop ≡ r → then_piece r s (Plain Empty) stop ≡ Some b → b ≡ at + n
unfolding then_piece piece_at value_at
then-ends at n stop b s None w e = absurd (no-upto e)
then-ends at n stop b s (Some c) w e = let i = skip-ends at n stop c w in let j = skip-ends c 0 stop b e in omega arith

then-upto : (at n stop : ℕ) (s : List ℕ) → at + n ≤ stop → then_piece (skip_at at n stop) s (Plain Empty) stop ≡ Some (at + n)
unfolding then_piece piece_at value_at
then-upto at n stop s h =
    let z : at + n + 0 ≡ at + n = omega arith in
    ap (λ (r : Option ℕ). then_piece r s (Plain Empty) stop) (skip-upto at n stop h) ∙ skip-upto (at + n) 0 stop (omega arith) ∙ ap Some z

fixed-plain : (k : ℕ) (v : Value) → Plainly k v → {t : ℕ} → t ≡ k → (s : List ℕ) (at stop : ℕ) →
    fixed_at s t at stop ≡ then_piece (skip_at at (value_width v) stop) s (Plain Empty) stop
unfolding fixed_at piece_at pieces_of
fixed-plain k v p q s at stop =
    ap (λ (x : Pieces). then_piece (piece_at s x.first at stop) s x.second stop) (ap pieces_of q ∙ p)
    ∙ ap (λ (r : Option ℕ). then_piece r s (Plain Empty) stop) (value-skips v at stop)

-- ---- Where they end

pub plain-ends : (k : ℕ) (v : Value) → Plainly k v → (s : List ℕ) (t at stop b : ℕ) → t ≡ k → fixed_at s t at stop ≡ Some b → b ≡ at + value_width v
plain-ends k v p s t at stop b q e = then-ends at (value_width v) stop b s (skip_at at (value_width v) stop) refl (sym (fixed-plain k v p q s at stop) ∙ e)

pub plain-upto : (k : ℕ) (v : Value) → Plainly k v → (s : List ℕ) (t at stop : ℕ) → t ≡ k → at + value_width v ≤ stop →
    fixed_at s t at stop ≡ Some (at + value_width v)
plain-upto k v p s t at stop q h = fixed-plain k v p q s at stop ∙ then-upto at (value_width v) stop s h

-- ---- How many they are

pub plain-width : (k : ℕ) (v : Value) → Plainly k v → {t : ℕ} (x : List ℕ) → t ≡ k → Exact t x → length x ≡ value_width v
plain-width k v p {t} x q e = let h = plain-ends k v p x t 0 (length x) (length x) q e in omega arith

pub plain-exact : (k : ℕ) (v : Value) → Plainly k v → (x : List ℕ) → length x ≡ value_width v → Exact k x
plain-exact k v p x e = let z : 0 + value_width v ≡ length x = omega arith in plain-upto k v p x k 0 (length x) refl (omega arith) ∙ ap Some z

-- ---- A tag without fixed bytes

pub bare-upto : (k : ℕ) → Plainly k Empty → (s : List ℕ) (t at stop : ℕ) → t ≡ k → at ≤ stop → fixed_at s t at stop ≡ Some at
bare-upto k p s t at stop q h = let z : at + 0 ≡ at = omega arith in plain-upto k Empty p s t at stop q (omega arith) ∙ ap Some z

pub tree-bare : (k : ℕ) → Plainly k Empty → (s : List ℕ) (at stop : ℕ) → at + 3 ≤ stop → get_or s at 0 ≡ k →
    tree_at s at stop ≡ field k [] (row_at s (at + 3) stop)
tree-bare k p s at stop h q =
    let empty : slice (at + 3) (at + 3) s ≡ [] = drop_of_length-le (take (at + 3) s) {i = at + 3} (simp length-take (omega arith)) in
    tree-upto s at stop (at + 3) (bare-upto k p s (get_or s at 0) (at + 3) stop q h)
    ∙ ap (λ (n : ℕ). field n (slice (at + 3) (at + 3) s) (row_at s (at + 3) stop)) q
    ∙ ap (λ (x : List ℕ). field k x (row_at s (at + 3) stop)) empty

-- ---- A module that was read

-- its items stand from 3 on
pub record ModuleAt (s : List ℕ) (fs : Fields) : Type 0 where
  pub room : 3 ≤ length s
  pub tree : fs ≡ more (field 0x01 [] (row_at s 3 (length s))) none
  pub row : Row s 3 (length s) (rule_of 0x01)

pub read-module : (s : List ℕ) (fs : Fields) → read Module s ≡ fine fs → ModuleAt s fs
read-module s fs e =
    let r = read-field Module s fs e in
    let w = whole-step s 0 (length s) r.whole in
    let t : get_or s 0 0 ≡ 0x01 = module-tag (get_or s 0 0) r.tag in
    let b : w.0 ≡ 3 = plain-ends 0x01 Empty refl s (get_or s 0 0) 3 (length s) w.0 t w.1 in
    record {
      room = r.room;
      tree = r.tree ∙ ap (λ (f : Field). more f none) (tree-bare 0x01 refl s 0 (length s) r.room t);
      row = subst (λ (k : ℕ). Row s 3 (length s) (rule_of k)) t (subst (λ (k : ℕ). Row s k (length s) (rule_of (get_or s 0 0))) b w.2);
    }
