-- Literals by their places, as they stand in the trees.
use Prim.Native.Nat.{ℕ, ◌+◌, ◌-◌, ◌≤◌, ◌<◌}
use native.Mathlib.Omega.{arith}
use mathlib.Core.Path.{◌≡◌, sym, ap, ◌∙◌}
use mathlib.Core.Bool.{Bool, false, cond}
use mathlib.Core.List.{List, []}
use lib.Dec.{eqb}
use lib.ListN.{length, take, drop}
use Rattle.std.proofs.lemmas.List.{drop-take}
use lib.Seq.{drop-cons, length-take-le}
use borrow.Author.Tests.{le-leb, lt-leb, lt-ltb, le-ltb}
use Rattle.tree.specs.Layout.{Bytes, two, two_at, same, value_of, literal_value, literal_at}
use Rattle.tree.proofs.SliceLaws.{take-slice}
use Rattle.tree.proofs.LayoutLaws.{two_at-is, same-two}
use denote.Ref.{Bor}
use Rattle.std.specs.Prelude.{Option, None, Some}
use Rattle.std.specs.Slice.{IsGetRangeResult}
use Rattle.std.specs.Option.{UnwrapsOrElse}
use mathlib.Core.Logic.{◌⊎◌, inl, inr}
use Rattle.records.specs.Writes.{literal_on, literal_in}

module _ (s : List ℕ) (at : ℕ) where
  pub literal-here : at + 6 ≤ length s → literal_on s at ≡ literal_at s at
  unfolding literal_on
  literal-here h = ap (λ (b : Bool). cond b (literal_at s at) []) (le-leb (at + 6) (length s) h)

  pub literal-past : length s < at + 6 → literal_on s at ≡ []
  unfolding literal_on
  literal-past h = ap (λ (b : Bool). cond b (literal_at s at) []) (lt-leb (at + 6) (length s) h)

  -- a literal is not nothing
  pub differs-past : (r : List ℕ) (q : ℕ) → at + 6 ≤ length s → literal_on r q ≡ [] → false ≡ same (literal_at s at) (literal_on r q)
  unfolding same
  differs-past r q h e =
      let l : length (take (at + 6) s) ≡ at + 6 = length-take-le (at + 6) s h in
      sym (ap (same (literal_at s at)) e ∙ ap (λ (x : List ℕ). same x []) (drop-cons (take (at + 6) s) at 0 (omega arith)))

  -- its value as a number
  pub value-at : Bytes s → at + 6 ≤ length s → value_of (literal_at s at) ≡ two (literal_value s at)
  value-at b h = take-slice 2 at (at + 6) s (omega arith) h ∙ sym (two_at-is s at b (omega arith))

  pub value-test : (a : ℕ) → Bytes s → at + 6 ≤ length s → a < 65536 → same (value_of (literal_at s at)) (two a) ≡ eqb (literal_value s at) a
  value-test a b h k =
      let x = b at in
      let y = b (at + 1) in
      ap (λ (l : List ℕ). same l (two a)) (value-at b h) ∙ same-two (two_at s at) a (omega arith) k

-- places below 65536 are in the lent tree, the others in the tree after the first pass
module _ (tree work : List ℕ) where
  pub literal-tree : (q : ℕ) → q < 65536 → literal_in tree work q ≡ literal_on tree q
  unfolding literal_in
  literal-tree q h = ap (λ (b : Bool). cond b (literal_on tree q) (literal_on work (q - 65536))) (lt-ltb q 65536 h)

  pub literal-work : (q : ℕ) → 65536 ≤ q → literal_in tree work q ≡ literal_on work (q - 65536)
  unfolding literal_in
  literal-work q h = ap (λ (b : Bool). cond b (literal_on tree q) (literal_on work (q - 65536))) (le-ltb q 65536 h)

-- the bytes that a look at its place gives, none where there are too few
pub literal-got : (s : List ℕ) (at : ℕ) (r : Option (Bor (List ℕ))) (x : Bor (List ℕ)) → IsGetRangeResult s at (at + 6) r → UnwrapsOrElse r (λ y. y.now ≡ []) x → x.now ≡ literal_on s at
literal-got s at None x g u = u ∙ sym (literal-past s at (by g.0))
  where
    by : (at + 6 < at) ⊎ (length s < at + 6) → length s < at + 6
    by (inl h) = absurd (omega arith)
    by (inr h) = h
literal-got s at (Some y) x g u =
    let e : at + 6 - at ≡ 6 = omega arith in
    ap (λ (z : Bor (List ℕ)). z.now) u ∙ g.0.2 ∙ ap (λ (n : ℕ). take n (drop at s)) e ∙ sym (drop-take at 6 s) ∙ sym (literal-here s at g.0.1)
