-- Ids as numbers and as the bytes that are read and written.
use Prim.Native.Nat.{ℕ, ◌+◌, ◌*◌, ◌/◌, ◌%◌, ◌≤◌, ◌<◌}
use native.Mathlib.Omega.{arith}
use mathlib.Core.Path.{◌≡◌, refl, ap, ap₂, ◌∙◌}
use mathlib.Core.List.{List, ◌++◌}
use lib.ListN.{length}
use lib.Seq.{slice}
use Rattle.tree.specs.Layout.{Bytes, two, four, two_at, four_at, id_at}
use Rattle.tree.proofs.LayoutLaws.{two_at-is, four-at}
use Rattle.tree.proofs.SliceLaws.{slice-join}
use Rattle.state.specs.Cells.{id_of}

pub id-made : (a c : ℕ) → c < 4294967296 → id_of (a * 4294967296 + c) ≡ two a ++ four c
unfolding id_of
id-made a c h =
    let x : (a * 4294967296 + c) / 4294967296 ≡ a = omega arith in
    let y : (a * 4294967296 + c) % 4294967296 ≡ c = omega arith in
    rw (x, y)

-- the id at a place, from the numbers there
pub id-stands : (s : List ℕ) (at : ℕ) → Bytes s → at + 6 ≤ length s → two (two_at s at) ++ four (four_at s (at + 2)) ≡ id_at s at
id-stands s at b h =
    let e : at + 2 + 4 ≡ at + 6 = omega arith in
    ap₂ ◌++◌ (two_at-is s at b (omega arith)) (four-at s (at + 2) b (omega arith)) ∙ ap (λ (n : ℕ). slice at (at + 2) s ++ slice (at + 2) n s) e ∙
    slice-join at (at + 2) (at + 6) s (omega arith) (omega arith) h

-- an id from a number
pub id-split : (n : ℕ) → two (n / 4294967296) ++ four (n % 4294967296) ≡ id_of n
unfolding id_of
id-split n = refl
