-- What an accepted outcome says of the steps that gave it.
use Rattle.std.specs.Prelude.{None}
use Prim.Native.Nat.{ℕ}
use mathlib.Core.Path.{◌≡◌, refl, sym}
use mathlib.Core.Bool.{Bool, true, false, not}
use mathlib.Core.List.{List}
use native.Mathlib.Omega.{arith}
use Rattle.inputs.specs.Outcome.{Outcome, done, refused, onto, placeless, refuse_if, refusal_in}
use Rattle.tree.specs.Tree.{Field, size}
use Rattle.writer.specs.Finished.{has_room}
use Rattle.inputs.specs.Buffer.{fits}
use Rattle.inputs.specs.Table.{Row, rows_in, repeats, table_of}

pub done-inj : {A : Type 0} {a b : A} → done a ≡ done b → a ≡ b
done-inj e = cc

pub done-refused : {A B : Type 0} {a : A} {n p : ℕ} → refused n p ≡ done a → B
done-refused {a = a} e = absurd (let z : ◌≡◌ {A = ℕ} 0 1 = cc in omega arith)

-- without a refusal there is a value
pub refusal-none : {A : Type 0} (m : Outcome A) → refusal_in m ≡ None → (a : A) × (m ≡ done a)
refusal-none (done a) e = (a, refl)
refusal-none (refused n p) e = absurd (let z : ◌≡◌ {A = ℕ} 0 1 = cc in omega arith)

-- a step that is accepted, and the next
pub onto-done : {A B : Type 0} (m : Outcome A) (f : A → Outcome B) (b : B) → onto m f ≡ done b → (a : A) × (m ≡ done a) × (f a ≡ done b)
onto-done (done a) f b e = (a, refl, e)
onto-done (refused n p) f b e = done-refused e

pub placeless-done : {A : Type 0} (m : Outcome A) (a : A) → placeless m ≡ done a → m ≡ done a
placeless-done (done b) a e = e
placeless-done (refused n p) a e = done-refused e

-- a table that is accepted has the rows that its bytes say
pub table-rows : (t : List ℕ) (rows : List Row) → table_of t ≡ done rows → rows ≡ rows_in t
unfolding table_of
table-rows t rows e = sym (done-inj (onto-done (refuse_if (repeats (rows_in t)) 2) _ rows e).2)

-- a field that was accepted has room
pub fits-room : (f : Field) (room : ℕ) (u : Unit {0}) → fits f room ≡ done u → has_room (size f) room ≡ true
unfolding fits
fits-room f room u e = go (has_room (size f) room) e
  where
    go : (b : Bool) → refuse_if (not b) 9 ≡ done u → b ≡ true
    go true e = refl
    go false e = done-refused e
