-- The fixed bytes of a field depend on those bytes alone: they can be moved to another place and another list.
use Rattle.std.specs.Prelude.{Option, Some, None}
use Prim.Native.Nat.{ℕ, ◌+◌, ◌-◌, ◌≤◌, ◌<◌}
use mathlib.Core.Path.{◌≡◌, refl, sym, ap, subst, ◌∙◌}
use mathlib.Core.Bool.{Bool, true, false, ◌||◌, cond}
use mathlib.Core.List.{List}
use native.Mathlib.Omega.{arith}
use lib.Dec.{ltb, leb}
use lib.ListN.{get_or}
use borrow.Author.Tests.{leb-true, ltb-true, ltb-false, le-leb, lt-ltb, le-ltb}
use Rattle.tree.specs.declared.grammar.Value.{Value}
use Rattle.tree.specs.declared.grammar.Value.TheVariants.{Empty, Byte, Atom, Id, Literal, Number}
use Rattle.tree.specs.declared.grammar.Piece.{Piece}
use Rattle.tree.specs.declared.grammar.Piece.TheVariants.{Plain, Source, Original, Outside, Spread, KeyValue}
use Rattle.tree.specs.declared.grammar.Pieces.{Pieces}
use Rattle.tree.specs.Layout.{skip_at, literal_end}
use Rattle.tree.specs.Grammar.{pieces_of}
use Rattle.tree.specs.Access.{value_at, choice_of, on_choice, kind_at, key_at, piece_at, then_piece, fixed_at}
use Rattle.tree.proofs.AccessLaws.{ReachIn, value_in, piece-in}

pub no-upto : {b : ℕ} → None ≡ Some b → ⊥
no-upto e = cc

pub upto-inj : {a b : ℕ} → Some a ≡ Some b → a ≡ b
upto-inj e = cc

-- a test that was passed, and one that failed
passed : (c : Bool) (r : Option ℕ) {b : ℕ} → cond c r None ≡ Some b → (c ≡ true) × (r ≡ Some b)
passed true r e = (refl, e)
passed false r e = absurd (no-upto e)

failed : (c : Bool) (r : Option ℕ) {b : ℕ} → cond c None r ≡ Some b → (c ≡ false) × (r ≡ Some b)
failed true r e = absurd (no-upto e)
failed false r e = (refl, e)

-- w bytes agree, from `at` in s and from at' in s'
abbrev pub Same : List ℕ → ℕ → List ℕ → ℕ → ℕ → Type 0
Same s at s' at' w = (k : ℕ) → k < w → get_or s (at + k) 0 ≡ get_or s' (at' + k) 0

skip-same : (n at at' w stop stop' : ℕ) → at' + w ≤ stop' → skip_at at n stop ≡ Some (at + w) →
    skip_at at' n stop' ≡ Some (at' + w)
unfolding skip_at
skip-same n at at' w stop stop' h e =
    let p = passed (leb n (stop - at)) (Some (at + n)) e in
    let q = upto-inj p.1 in
    let le : n ≤ stop' - at' = omega arith in
    let eq : at' + n ≡ at' + w = omega arith in
    rw (le-leb n (stop' - at') le) (ap Some eq)

value-same : (v : Value) (at at' w stop stop' : ℕ) → at' + w ≤ stop' → value_at v at stop ≡ Some (at + w) →
    value_at v at' stop' ≡ Some (at' + w)
unfolding value_at literal_end
value-same Empty at at' w stop stop' h e = skip-same 0 at at' w stop stop' h e
value-same Byte at at' w stop stop' h e = skip-same 1 at at' w stop stop' h e
value-same Atom at at' w stop stop' h e = skip-same 2 at at' w stop stop' h e
value-same Id at at' w stop stop' h e = skip-same 6 at at' w stop stop' h e
value-same Literal at at' w stop stop' h e = skip-same 6 at at' w stop stop' h e
value-same Number at at' w stop stop' h e = skip-same 8 at at' w stop stop' h e

choice-same : (c : Option Value) (at at' w stop stop' : ℕ) → at + 1 ≤ stop → at' + w ≤ stop' →
    on_choice c (at + 1) stop ≡ Some (at + w) →
    (0 < w) × (on_choice c (at' + 1) stop' ≡ Some (at' + w))
unfolding on_choice
choice-same None at at' w stop stop' l h e = absurd (no-upto e)
choice-same (Some v) at at' w stop stop' l h e =
    let i : ReachIn (at + 1) stop (Some (at + w)) = subst (ReachIn (at + 1) stop) e (value_in v (at + 1) stop l) in
    let a : at + w ≡ at + 1 + (w - 1) = omega arith in
    let b : at' + 1 + (w - 1) ≡ at' + w = omega arith in
    (omega arith, value-same v (at + 1) (at' + 1) (w - 1) stop stop' (omega arith) (e ∙ ap Some a) ∙ ap Some b)

first-byte : (s s' : List ℕ) (at at' w : ℕ) → Same s at s' at' w → 0 < w → get_or s at 0 ≡ get_or s' at' 0
first-byte s s' at at' w g h =
    let a : at ≡ at + 0 = omega arith in
    let b : at' + 0 ≡ at' = omega arith in
    ap (λ (n : ℕ). get_or s n 0) a ∙ g 0 h ∙ ap (λ (n : ℕ). get_or s' n 0) b

kind-same : (p : Piece) (s s' : List ℕ) (at at' w stop stop' : ℕ) → Same s at s' at' w → at' + w ≤ stop' →
    kind_at s p at stop ≡ Some (at + w) →
    kind_at s' p at' stop' ≡ Some (at' + w)
unfolding kind_at
kind-same p s s' at at' w stop stop' g h e =
    let c = choice_of p (get_or s at 0) in
    let q = passed (ltb at stop) (on_choice c (at + 1) stop) e in
    let lt = ltb-true at stop q.0 in
    let r = choice-same c at at' w stop stop' (omega arith) h q.1 in
    let lt' : at' < stop' = omega arith in
    rw (lt-ltb at' stop' lt') (ap (λ (b : ℕ). on_choice (choice_of p b) (at' + 1) stop') (sym (first-byte s s' at at' w g r.0)) ∙ r.1)

-- what a key and its value tell
record KeyIs (s : List ℕ) (at stop : ℕ) : Type 0 where
  room : 3 ≤ stop - at
  first : get_or s at 0 ≤ 1
  second : get_or s (at + 1) 0 ≤ 1
  third : get_or s (at + 2) 0 ≤ stop - (at + 3)

key-is : (s : List ℕ) (at stop b : ℕ) → key_at s at stop ≡ Some b → (stop ≡ b) × KeyIs s at stop
unfolding key_at
key-is s at stop b e =
    let p = failed (ltb (stop - at) 3) _ e in
    let q = failed (ltb 1 (get_or s at 0)) _ p.1 in
    let r = failed (ltb 1 (get_or s (at + 1) 0)) _ q.1 in
    let u = passed (leb (get_or s (at + 2) 0) (stop - (at + 3))) (Some stop) r.1 in
    (upto-inj u.1, record { room = ltb-false _ _ p.0; first = ltb-false _ _ q.0; second = ltb-false _ _ r.0; third = leb-true _ _ u.0 })

key-from : (s : List ℕ) (at stop : ℕ) → KeyIs s at stop → key_at s at stop ≡ Some stop
unfolding key_at
key-from s at stop k =
    rw (
      le-ltb (stop - at) 3 k.room,
      le-ltb 1 (get_or s at 0) k.first,
      le-ltb 1 (get_or s (at + 1) 0) k.second,
      le-leb (get_or s (at + 2) 0) (stop - (at + 3)) k.third,
    )

key-same : (s s' : List ℕ) (at at' w stop stop' : ℕ) → Same s at s' at' w → at' + w ≡ stop' →
    key_at s at stop ≡ Some (at + w) → key_at s' at' stop' ≡ Some (at' + w)
key-same s s' at at' w stop stop' g h e =
    let q = key-is s at stop (at + w) e in
    let k = q.1 in
    let n = q.0 in
    let r = k.room in
    let b₀ = first-byte s s' at at' w g (omega arith) in
    let b₁ = g 1 (omega arith) in
    let b₂ = g 2 (omega arith) in
    let f = k.first in
    let d = k.second in
    let t = k.third in
    key-from s' at' stop' (record { room = omega arith; first = omega arith; second = omega arith; third = omega arith }) ∙ ap Some (sym h)

-- a piece that takes all up to the end of the content
abbrev pub open_piece : Piece → Bool
open_piece (Plain v) = false
open_piece Source = false
open_piece Original = false
open_piece Outside = false
open_piece Spread = false
open_piece KeyValue = true

pub piece-same : (p : Piece) (s s' : List ℕ) (at at' w stop stop' : ℕ) → Same s at s' at' w → at' + w ≤ stop' →
    (open_piece p ≡ true → at' + w ≡ stop') →
    piece_at s p at stop ≡ Some (at + w) → piece_at s' p at' stop' ≡ Some (at' + w)
unfolding piece_at
piece-same (Plain v) s s' at at' w stop stop' g h o e = value-same v at at' w stop stop' h e
piece-same KeyValue s s' at at' w stop stop' g h o e = key-same s s' at at' w stop stop' g (o refl) e
piece-same Source s s' at at' w stop stop' g h o e = kind-same Source s s' at at' w stop stop' g h e
piece-same Original s s' at at' w stop stop' g h o e = kind-same Original s s' at at' w stop stop' g h e
piece-same Outside s s' at at' w stop stop' g h o e = kind-same Outside s s' at at' w stop stop' g h e
piece-same Spread s s' at at' w stop stop' g h o e = kind-same Spread s s' at at' w stop stop' g h e

false-true : {A : Type 0} → false ≡ true → A
false-true e = cc

open-ends : (p : Piece) (s : List ℕ) (at stop b : ℕ) → piece_at s p at stop ≡ Some b → open_piece p ≡ true → b ≡ stop
unfolding piece_at
open-ends (Plain v) s at stop b e o = false-true o
open-ends KeyValue s at stop b e o = sym (key-is s at stop b e).0
open-ends Source s at stop b e o = false-true o
open-ends Original s at stop b e o = false-true o
open-ends Outside s at stop b e o = false-true o
open-ends Spread s at stop b e o = false-true o

abbrev pub opens : Pieces → Bool
opens ps = open_piece ps.first || open_piece ps.second

pub or-left : (a b : Bool) → a ≡ true → a || b ≡ true
or-left true b e = refl
or-left false b e = false-true e

pub or-right : (a b : Bool) → b ≡ true → a || b ≡ true
or-right true b e = refl
or-right false b e = e

then-same : (r : Option ℕ) (p q : Piece) (s s' : List ℕ) (at at' w stop stop' : ℕ) → at ≤ stop → Same s at s' at' w →
    at' + w ≤ stop' →
    (open_piece p || open_piece q ≡ true → at' + w ≡ stop') → piece_at s p at stop ≡ r →
    then_piece r s q stop ≡ Some (at + w) →
    then_piece (piece_at s' p at' stop') s' q stop' ≡ Some (at' + w)
unfolding then_piece
then-same None p q s s' at at' w stop stop' le g h o x e = absurd (no-upto e)
then-same (Some b) p q s s' at at' w stop stop' le g h o x e =
    let i : ReachIn at stop (Some b) = subst (ReachIn at stop) x (piece-in s p at stop le) in
    let j : ReachIn b stop (Some (at + w)) = subst (ReachIn b stop) e (piece-in s q b stop i.1) in
    let e₁ : b ≡ at + (b - at) = omega arith in
    let e₂ : at + w ≡ b + (w - (b - at)) = omega arith in
    let e₃ : at' + (b - at) + (w - (b - at)) ≡ at' + w = omega arith in
    let ends₁ : open_piece p ≡ true → at' + (b - at) ≡ stop' =
    λ m. let y = open-ends p s at stop b x m in let z = o (or-left (open_piece p) (open_piece q) m) in omega arith
    in
    let ends₂ : open_piece q ≡ true → at' + (b - at) + (w - (b - at)) ≡ stop' = λ m. e₃ ∙ o (or-right (open_piece p) (open_piece q) m) in
    let first = piece-same p s s' at at' (b - at) stop stop' (λ k l. g k (omega arith)) (omega arith) ends₁ (x ∙ ap Some e₁) in
    let rest =
    piece-same q s s' b (at' + (b - at)) (w - (b - at)) stop stop'
    (λ k l. let a : b + k ≡ at + (b - at + k) = omega arith in let c : at' + (b - at + k) ≡ at' + (b - at) + k = omega arith in
    ap (λ (y : ℕ). get_or s y 0) a ∙ g (b - at + k) (omega arith) ∙ ap (λ (y : ℕ). get_or s' y 0) c) (omega arith) ends₂ (e ∙ ap Some e₂)
    in
    rw first (rest ∙ ap Some e₃)

pub fixed-same : (t : ℕ) (s s' : List ℕ) (at at' w stop stop' : ℕ) → at ≤ stop → Same s at s' at' w → at' + w ≤ stop' →
    (opens (pieces_of t) ≡ true → at' + w ≡ stop') →
    fixed_at s t at stop ≡ Some (at + w) → fixed_at s' t at' stop' ≡ Some (at' + w)
unfolding fixed_at
fixed-same t s s' at at' w stop stop' le g h o e =
    then-same (piece_at s (pieces_of t).first at stop) (pieces_of t).first (pieces_of t).second s s' at at' w stop stop' le g h o refl e
