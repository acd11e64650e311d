-- Fixed bytes by their width. The widths in the table are those of the grammar: this is computed for each of the 256 tags. Below 9 no piece has a
-- kind byte, and skipping two values is skipping the sum of their widths. A 75 has a spread byte alone.
use Rattle.std.specs.Prelude.{Option, Some, None}
use Prim.Native.Nat.{ℕ, zero, suc, ◌+◌, ◌-◌, ◌≤◌, ◌<◌}
use mathlib.Core.Path.{◌≡◌, refl, sym, ap, ◌∙◌}
use mathlib.Core.Bool.{Bool, true, false, cond}
use mathlib.Core.List.{List}
use native.Mathlib.Omega.{arith}
use lib.Dec.{leb, ltb, eqb}
use lib.ListN.{get_or}
use borrow.Author.Tests.{le-leb, lt-leb, leb-true, leb-false, eqb-true, lt-ltb, le-ltb, ne_eqb}
use Rattle.tree.specs.declared.grammar.Value.{Value}
use Rattle.tree.specs.declared.grammar.Value.TheVariants.{Empty}
use Rattle.tree.specs.declared.grammar.Piece.{Piece}
use Rattle.tree.specs.declared.grammar.Piece.TheVariants.{Plain, Source, Original, Outside, Spread, KeyValue}
use Rattle.tree.specs.Layout.{skip_at}
use Rattle.tree.specs.Grammar.{pieces_of}
use Rattle.tree.specs.Access.{value_at, kinds, choice_of, on_choice, kind_at, piece_at, then_piece, fixed_at}
use Rattle.tree.specs.Width.{value_width, piece_width, width_at}
use Rattle.tree.specs.declared.access.TheConstants.{WIDTHS}
use Rattle.tree.proofs.Table.{all_below, below}
use Rattle.tree.proofs.WidthLaws.{value-skips}

width_agrees : ℕ → Bool
width_agrees t = eqb (get_or WIDTHS t 0) (width_at t)

all-widths : all_below width_agrees 256 ≡ true
unfolding width_agrees width_at pieces_of
all-widths = refl

pub width-is : (t : ℕ) → t < 256 → get_or WIDTHS t 0 ≡ width_at t
unfolding width_agrees
width-is t h = eqb-true (get_or WIDTHS t 0) (width_at t) (below width_agrees 256 all-widths t h)

module _ (s : List ℕ) (at stop : ℕ) (inside : at ≤ stop) where
  -- a bytes and b more are a + b
  skip-more : (a b : ℕ) (y : Bool) → a ≤ stop - at → leb b (stop - (at + a)) ≡ y → skip_at (at + a) b stop ≡ skip_at at (a + b) stop
  unfolding skip_at
  skip-more a b true h e =
      let l = leb-true b (stop - (at + a)) e in
      let z : at + a + b ≡ at + (a + b) = omega arith in
      rw (e, le-leb (a + b) (stop - at) (omega arith)) (ap Some z)
  skip-more a b false h e =
      let l = leb-false b (stop - (at + a)) e in
      rw (e, lt-leb (a + b) (stop - at) (omega arith))

  then-skip : (a : ℕ) (v : Value) (x : Bool) → leb a (stop - at) ≡ x →
      then_piece (skip_at at a stop) s (Plain v) stop ≡ skip_at at (a + value_width v) stop
  unfolding skip_at then_piece piece_at
  then-skip a v true e = rw e (value-skips v (at + a) stop ∙ skip-more a (value_width v) _ (leb-true a (stop - at) e) refl)
  then-skip a v false e = let l = leb-false a (stop - at) e in rw (e, lt-leb (a + value_width v) (stop - at) (omega arith))

  pieces-skip : (p q : Piece) → piece_width p + piece_width q < 9 →
      then_piece (piece_at s p at stop) s q stop ≡ skip_at at (piece_width p + piece_width q) stop
  unfolding piece_at
  pieces-skip (Plain v) (Plain w) h =
      ap (λ (r : Option ℕ). then_piece r s (Plain w) stop) (value-skips v at stop) ∙ then-skip (value_width v) w _ refl
  pieces-skip (Plain v) Source h = absurd (omega arith)
  pieces-skip (Plain v) Original h = absurd (omega arith)
  pieces-skip (Plain v) Outside h = absurd (omega arith)
  pieces-skip (Plain v) Spread h = absurd (omega arith)
  pieces-skip (Plain v) KeyValue h = absurd (omega arith)
  pieces-skip Source q h = absurd (omega arith)
  pieces-skip Original q h = absurd (omega arith)
  pieces-skip Outside q h = absurd (omega arith)
  pieces-skip Spread q h = absurd (omega arith)
  pieces-skip KeyValue q h = absurd (omega arith)

  width-by : (n : ℕ) (y : Bool) → ltb n 9 ≡ y → cond y n 9 < 9 → (cond y n 9 ≡ n) × (n < 9)
  width-by n true e h = (refl, h)
  width-by n false e h = absurd (omega arith)

  -- below 9, the fixed bytes are as many as the width says
  pub fixed-skip : (t : ℕ) → width_at t < 9 → fixed_at s t at stop ≡ skip_at at (width_at t) stop
  unfolding fixed_at width_at
  fixed-skip t h =
      let w = width-by (piece_width (pieces_of t).first + piece_width (pieces_of t).second) _ refl h in
      pieces-skip (pieces_of t).first (pieces_of t).second w.1 ∙ ap (λ (n : ℕ). skip_at at n stop) (sym w.0)

-- a spread byte is 0 or 1
spread-good : (s : List ℕ) (b at stop : ℕ) → b < 2 → at ≤ stop → then_piece (on_choice (choice_of Spread b) at stop) s (Plain Empty) stop ≡ Some at
unfolding on_choice choice_of kinds value_at skip_at then_piece piece_at
spread-good s zero at stop h l =
    let y : at + 0 + 0 ≡ at = omega arith in
    rw (le-leb 0 (stop - at) (omega arith), le-leb 0 (stop - (at + 0)) (omega arith)) (ap Some y)
spread-good s (suc zero) at stop h l =
    let y : at + 0 + 0 ≡ at = omega arith in
    rw (le-leb 0 (stop - at) (omega arith), le-leb 0 (stop - (at + 0)) (omega arith)) (ap Some y)
spread-good s (suc (suc b)) at stop h l = absurd (omega arith)

spread-wrong : (b : ℕ) → 2 ≤ b → choice_of Spread b ≡ None
unfolding choice_of kinds
spread-wrong b h = rw (ne_eqb b 0 (λ e. omega arith), ne_eqb b 1 (λ e. omega arith))

module _ (s : List ℕ) (at stop : ℕ) where
  pub spread-upto : at < stop → get_or s at 0 < 2 → fixed_at s 0x75 at stop ≡ Some (at + 1)
  unfolding fixed_at pieces_of piece_at kind_at
  spread-upto h b = rw (lt-ltb at stop h) (spread-good s (get_or s at 0) (at + 1) stop b (omega arith))

  pub spread-bad : at < stop → 2 ≤ get_or s at 0 → fixed_at s 0x75 at stop ≡ None
  unfolding fixed_at pieces_of piece_at kind_at on_choice then_piece
  spread-bad h b = rw (lt-ltb at stop h, spread-wrong (get_or s at 0) b)

  pub spread-cut : stop ≤ at → fixed_at s 0x75 at stop ≡ None
  unfolding fixed_at pieces_of piece_at kind_at then_piece
  spread-cut h = rw (le-ltb at stop h)
