-- Where a field and its fixed bytes end: inside what they were looked for in.
use Rattle.std.specs.Prelude.{Option, Some, None}
use Prim.Native.Nat.{ℕ, ◌+◌, ◌-◌, ◌≤◌}
use mathlib.Core.Path.{◌≡◌, refl, subst}
use mathlib.Core.Bool.{Bool, true, false, cond}
use mathlib.Core.List.{List}
use lib.Dec.{ltb, leb}
use lib.ListN.{get_or}
use borrow.Author.Tests.{leb-true, ltb-true}
use native.Mathlib.Omega.{arith}
use Rattle.tree.specs.declared.grammar.Value.{Value}
use Rattle.tree.specs.declared.grammar.Value.TheVariants.{Empty, Byte, Atom, Id, Literal, Number}
use Rattle.tree.specs.declared.grammar.Piece.{Piece}
use Rattle.tree.specs.declared.grammar.Piece.TheVariants.{Plain, Source, Original, Outside, Spread, KeyValue}
use Rattle.tree.specs.Layout.{skip_at, literal_end}
use Rattle.tree.specs.Grammar.{pieces_of}
use Rattle.tree.specs.Access.{value_at, choice_of, on_choice, kind_at, key_at, piece_at, then_piece, fixed_at, length_at, extent_at}

pub cond-ind : {A : Type 0} (P : A → Type 0) (b : Bool) (x y : A) → (b ≡ true → P x) → (b ≡ false → P y) →
    P (cond b x y)
cond-ind P true x y f g = f refl
cond-ind P false x y f g = g refl

abbrev pub ReachIn : ℕ → ℕ → Option ℕ → Type 0
ReachIn at stop None = Unit
ReachIn at stop (Some b) = (at ≤ b) × (b ≤ stop)

pub skip-in : (at n stop : ℕ) → at ≤ stop → ReachIn at stop (skip_at at n stop)
unfolding skip_at
skip-in at n stop h =
    cond-ind (ReachIn at stop) (leb n (stop - at)) (Some (at + n)) None
    (λ e. let q = leb-true n (stop - at) e in (omega arith, omega arith)) (λ e. tt)

wider : (at at' stop : ℕ) (r : Option ℕ) → at ≤ at' → ReachIn at' stop r → ReachIn at stop r
wider at at' stop None h r = tt
wider at at' stop (Some b) h r = (omega arith, r.1)

pub value_in : (v : Value) (at stop : ℕ) → at ≤ stop → ReachIn at stop (value_at v at stop)
unfolding value_at literal_end
value_in Empty at stop h = skip-in at 0 stop h
value_in Byte at stop h = skip-in at 1 stop h
value_in Atom at stop h = skip-in at 2 stop h
value_in Id at stop h = skip-in at 6 stop h
value_in Literal at stop h = skip-in at 6 stop h
value_in Number at stop h = skip-in at 8 stop h

choice-in : (c : Option Value) (at stop : ℕ) → at ≤ stop → ReachIn at stop (on_choice c at stop)
unfolding on_choice
choice-in None at stop h = tt
choice-in (Some v) at stop h = value_in v at stop h

kind-in : (s : List ℕ) (p : Piece) (at stop : ℕ) → at ≤ stop → ReachIn at stop (kind_at s p at stop)
unfolding kind_at
kind-in s p at stop h =
    let c = choice_of p (get_or s at 0) in
    cond-ind (ReachIn at stop) (ltb at stop) (on_choice c (at + 1) stop) None
    (λ e. let q = ltb-true at stop e in wider at (at + 1) stop (on_choice c (at + 1) stop) (omega arith) (choice-in c (at + 1) stop (omega arith))) (λ e. tt)

key-in : (s : List ℕ) (at stop : ℕ) → at ≤ stop → ReachIn at stop (key_at s at stop)
unfolding key_at
key-in s at stop h =
    let P = ReachIn at stop in
    cond-ind P (ltb (stop - at) 3) None _ (λ _. tt)
    (λ _. cond-ind P (ltb 1 (get_or s at 0)) None _ (λ _. tt)
    (λ _. cond-ind P (ltb 1 (get_or s (at + 1) 0)) None _ (λ _. tt)
    (λ _. cond-ind P (leb (get_or s (at + 2) 0) (stop - (at + 3))) (Some stop) None (λ _. (h, omega arith)) (λ _. tt))))

pub piece-in : (s : List ℕ) (p : Piece) (at stop : ℕ) → at ≤ stop → ReachIn at stop (piece_at s p at stop)
unfolding piece_at
piece-in s (Plain v) at stop h = value_in v at stop h
piece-in s KeyValue at stop h = key-in s at stop h
piece-in s Source at stop h = kind-in s Source at stop h
piece-in s Original at stop h = kind-in s Original at stop h
piece-in s Outside at stop h = kind-in s Outside at stop h
piece-in s Spread at stop h = kind-in s Spread at stop h

then-in : (s : List ℕ) (r : Option ℕ) (p : Piece) (at stop : ℕ) → ReachIn at stop r →
    ReachIn at stop (then_piece r s p stop)
unfolding then_piece
then-in s None p at stop h = tt
then-in s (Some b) p at stop h = wider at b stop (piece_at s p b stop) h.0 (piece-in s p b stop h.1)

pub fixed-in : (s : List ℕ) (tag at stop : ℕ) → at ≤ stop → ReachIn at stop (fixed_at s tag at stop)
unfolding fixed_at
fixed-in s tag at stop h =
    then-in s (piece_at s (pieces_of tag).first at stop) (pieces_of tag).second at stop (piece-in s (pieces_of tag).first at stop h)

pub extent-in : (s : List ℕ) (at end : ℕ) → at ≤ end → ReachIn (at + 3) end (extent_at s at end)
unfolding extent_at
extent-in s at end h =
    cond-ind (ReachIn (at + 3) end) (leb 3 (end - at)) (skip_at (at + 3) (length_at s at) end) None
    (λ e. let q = leb-true 3 (end - at) e in skip-in (at + 3) (length_at s at) end (omega arith)) (λ e. tt)

pub upto-in : (s : List ℕ) (tag at stop : ℕ) {b : ℕ} → at ≤ stop → fixed_at s tag at stop ≡ Some b →
    ReachIn at stop (Some b)
upto-in s tag at stop le e = subst (ReachIn at stop) e (fixed-in s tag at stop le)

pub extent-upto : (s : List ℕ) (at end : ℕ) {stop : ℕ} → at ≤ end → extent_at s at end ≡ Some stop →
    ReachIn (at + 3) end (Some stop)
extent-upto s at end le e = subst (ReachIn (at + 3) end) e (extent-in s at end le)

-- a piece that is neither a value nor a key with its value is a kind byte with what it chooses
pub kind-piece : (s : List ℕ) (p : Piece) (at stop : ℕ) → ((v : Value) → p ≡ Plain v → ⊥) → (p ≡ KeyValue → ⊥) → piece_at s p at stop ≡ kind_at s p at stop
unfolding piece_at
kind-piece s (Plain v) at stop f g = absurd (f v refl)
kind-piece s KeyValue at stop f g = absurd (g refl)
kind-piece s Source at stop f g = refl
kind-piece s Original at stop f g = refl
kind-piece s Outside at stop f g = refl
kind-piece s Spread at stop f g = refl
