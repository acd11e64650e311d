-- The entries of lent lists, two or four bytes at a time, and the searches among them.
use Rattle.std.specs.Prelude.{Option, Some}
use Rattle.std.specs.List.{list_any, find as first}
use Rattle.std.specs.Slice.Iter.{chunks_exact_rest, chunks_exact_size, chunks_exact_steps}
use Rattle.std.proofs.lemmas.Iterator.{YieldsList}
use Rattle.std.proofs.lemmas.Iterator.Splits.{YieldsList-from_shown_while}
use Prim.Native.Nat.{ℕ, suc, ◌+◌, ◌*◌, ◌/◌, ◌%◌, ◌≤◌, ◌<◌}
use native.Mathlib.Omega.{arith}
use mathlib.Core.Path.{◌≡◌, refl, sym, ap, ap₂, subst, ◌∙◌}
use mathlib.Core.Bool.{Bool, cond, ◌||◌}
use mathlib.Core.List.{List, [], ◌∷◌, ◌++◌}
use Rattle.std.specs.declared.slice.ChunksExact.{ChunksExact}
use lib.Dec.{eqb}
use lib.ListN.{length, get_or, drop, length-drop}
use lib.Seq.{drop-cons}
use Rattle.tree.specs.Layout.{two, two_at, same}
use Rattle.tree.proofs.LayoutLaws.{same-two}
use Rattle.inputs.specs.Lists.{find, among, mapped}
use Rattle.inputs.specs.Table.{Row, atoms_in, rows_in, row_of, file_of}

-- two bytes are those of their number
pub bytes-two : (a b : ℕ) → a < 256 → b < 256 → a ∷ b ∷ [] ≡ two (a * 256 + b)
bytes-two a b p q =
    let x : a ≡ (a * 256 + b) / 256 % 256 = omega arith in
    let y : b ≡ (a * 256 + b) % 256 = omega arith in
    cc

pub small : (a b : ℕ) → a < 256 → b < 256 → a * 256 + b < 65536
small a b p q = omega arith

-- two bytes are the atom m just where their number is m
pub atom-is : (a b m : ℕ) → a < 256 → b < 256 → m < 65536 → same (a ∷ b ∷ []) (two m) ≡ eqb (a * 256 + b) m
atom-is a b m p q h = ap (λ (x : List ℕ). same x (two m)) (bytes-two a b p q) ∙ same-two (a * 256 + b) m (small a b p q) h

is-atom : (a b m : ℕ) → a < 256 → b < 256 → m < 65536 → same (two m) (a ∷ b ∷ []) ≡ eqb m (a * 256 + b)
is-atom a b m p q h = ap (same (two m)) (bytes-two a b p q) ∙ same-two m (a * 256 + b) h (small a b p q)

-- two elements in front
drop-two : (l : List ℕ) (i : ℕ) → i + 2 ≤ length l → drop i l ≡ get_or l i 0 ∷ get_or l (i + 1) 0 ∷ drop (i + 2) l
drop-two l i h =
    let one = drop-cons l i 0 (omega arith) in
    let two = drop-cons l (suc i) 0 (omega arith) in
    let a : suc i ≡ i + 1 = omega arith in
    let b : suc (suc i) ≡ i + 2 = omega arith in
    cc

-- ---- The entries of a list, two or four bytes each, as the code takes them off its front

pub atoms-cons : (x l : List ℕ) → length x ≡ 2 → atoms_in (x ++ l) ≡ x ∷ atoms_in l
unfolding atoms_in
atoms-cons [] l h = absurd (omega arith)
atoms-cons (a ∷ []) l h = absurd (omega arith)
atoms-cons (a ∷ (b ∷ [])) l h = refl
atoms-cons (a ∷ (b ∷ (c ∷ x))) l h = absurd (omega arith)

short-atoms : (l : List ℕ) → length l < 2 → atoms_in l ≡ []
unfolding atoms_in
short-atoms [] h = refl
short-atoms (a ∷ []) h = refl
short-atoms (a ∷ (b ∷ l)) h = absurd (omega arith)

-- the row that four bytes are
abbrev pub row_in : List ℕ → Row
row_in x = record { source = get_or x 0 0 ∷ get_or x 1 0 ∷ []; file = two_at x 2 }

pub rows-cons : (x l : List ℕ) → length x ≡ 4 → rows_in (x ++ l) ≡ row_in x ∷ rows_in l
unfolding rows_in
rows-cons [] l h = absurd (omega arith)
rows-cons (a ∷ []) l h = absurd (omega arith)
rows-cons (a ∷ (b ∷ [])) l h = absurd (omega arith)
rows-cons (a ∷ (b ∷ (c ∷ []))) l h = absurd (omega arith)
rows-cons (a ∷ (b ∷ (c ∷ (d ∷ [])))) l h = refl
rows-cons (a ∷ (b ∷ (c ∷ (d ∷ (e ∷ x))))) l h = absurd (omega arith)

pub short-rows : (l : List ℕ) → length l < 4 → rows_in l ≡ []
unfolding rows_in
short-rows [] h = refl
short-rows (a ∷ []) h = refl
short-rows (a ∷ (b ∷ [])) h = refl
short-rows (a ∷ (b ∷ (c ∷ []))) h = refl
short-rows (a ∷ (b ∷ (c ∷ (d ∷ l)))) h = absurd (omega arith)

-- `chunks_exact` gives these entries
module _ {s : ChunksExact ℕ} (l : List ℕ) (r : chunks_exact_rest s ≡ l) where
  pub atoms-yielded : chunks_exact_size s ≡ 2 → YieldsList chunks_exact_steps (λ x. x.now) s (atoms_in l)
  atoms-yielded h =
      subst (λ k. YieldsList chunks_exact_steps (λ x. x.now) s (atoms_in k)) r
      (YieldsList-from_shown_while chunks_exact_steps (λ x. x.now) (λ t. atoms_in (chunks_exact_rest t)) (λ t. chunks_exact_size t ≡ 2)
      (λ t u n p. ap length (short-atoms (chunks_exact_rest t) (omega (arith, p.1.0))))
      (λ t x u n p. (p.0 ∙ n, ap atoms_in p.1.0 ∙ atoms-cons x.now (chunks_exact_rest u) (p.1.1 ∙ n))) s h)

  pub rows-yielded : chunks_exact_size s ≡ 4 → YieldsList chunks_exact_steps (λ x. row_in x.now) s (rows_in l)
  rows-yielded h =
      subst (λ k. YieldsList chunks_exact_steps (λ x. row_in x.now) s (rows_in k)) r
      (YieldsList-from_shown_while chunks_exact_steps (λ x. row_in x.now) (λ t. rows_in (chunks_exact_rest t)) (λ t. chunks_exact_size t ≡ 4)
      (λ t u n p. ap length (short-rows (chunks_exact_rest t) (omega (arith, p.1.0))))
      (λ t x u n p. (p.0 ∙ n, ap rows_in p.1.0 ∙ rows-cons x.now (chunks_exact_rest u) (p.1.1 ∙ n))) s h)

-- ---- The searches, by the numbers that the code compares

module _ (m : ℕ) (h : m < 65536) where
  pub among-any : (l : List ℕ) → ((i : ℕ) → get_or l i 0 < 256) → list_any (λ x. eqb m (two_at x 0)) (atoms_in l) ≡ among (two m) (atoms_in l)
  unfolding atoms_in among
  among-any [] b = refl
  among-any (x ∷ []) b = refl
  among-any (x ∷ (y ∷ l)) b = ap₂ ◌||◌ (sym (is-atom x y m (b 0) (b 1) h)) (among-any l (λ i. b (suc (suc i))))

  pub row-found : (l : List ℕ) → ((i : ℕ) → get_or l i 0 < 256) → first (λ r. eqb (two_at r.source 0) m) (rows_in l) ≡ row_of (two m) (rows_in l)
  unfolding rows_in row_of find
  row-found [] b = refl
  row-found (x ∷ []) b = refl
  row-found (x ∷ (y ∷ [])) b = refl
  row-found (x ∷ (y ∷ (z ∷ []))) b = refl
  row-found (x ∷ (y ∷ (z ∷ (v ∷ l)))) b =
      let r : Row = record { source = x ∷ y ∷ []; file = z * 256 + v } in
      ap₂ (λ (t : Bool) (o : Option Row). cond t (Some r) o) (sym (atom-is x y m (b 0) (b 1) h)) (row-found l (λ i. b (suc (suc (suc (suc i))))))

pub file-of : (a : List ℕ) (rows : List Row) {o : Option Row} → o ≡ row_of a rows → mapped (λ r. r.file) o ≡ file_of a rows
unfolding file_of
file-of a rows e = ap (mapped (λ r. r.file)) e

-- ---- The same from a place on

pub rows-step : (l : List ℕ) (i : ℕ) → i + 4 ≤ length l →
    rows_in (drop i l) ≡ record { source = get_or l i 0 ∷ get_or l (i + 1) 0 ∷ []; file = two_at l (i + 2) } ∷ rows_in (drop (i + 4) l)
unfolding rows_in
rows-step l i h =
    let one = drop-two l i (omega arith) in
    let two = drop-two l (i + 2) (omega arith) in
    let a : i + 2 + 2 ≡ i + 4 = omega arith in
    rw (one, two, a)

pub rows-end : (l : List ℕ) (i : ℕ) → length l < i + 4 → rows_in (drop i l) ≡ []
rows-end l i h = short-rows (drop i l) (simp length-drop (omega arith))
