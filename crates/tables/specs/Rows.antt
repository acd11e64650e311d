-- The rows of a table: pairs of a key and a value, in the order in which they came, and what is asked of them.
use Rattle.std.specs.Prelude.{ℕ, zero, suc, ◌+◌, ◌*◌, ◌≤◌, ◌<◌, ◌≡◌, Bool, false, cond, ◌&&◌, List, [], ◌∷◌, ◌++◌, leb, ltb, eqb, length, get_or}
use Rattle.std.specs.Prelude.{Option, None, Some}
use Rattle.tables.specs.declared.Table.{Table}

abbrev pub Row : Type 0
Row = ℕ × ℕ

-- k rows from a cell on
unfoldable pub rows_from : ℕ → ℕ → List ℕ → List Row
rows_from zero at t = []
rows_from (suc k) at t = (get_or t at 0, get_or t (at + 1) 0) ∷ rows_from k (at + 2) t

-- row i anew, where rows start at base: those before it stay, and so does every cell outside it
pub record RowPut (base i key value : ℕ) (t t' : List ℕ) : Type 0 where
  pub put : rows_from (i + 1) base t' ≡ rows_from i base t ++ ((key, value) ∷ [])
  pub same : (j : ℕ) → (base + 2 * i ≤ j → j < base + 2 * (i + 1) → ⊥) → get_or t' j 0 ≡ get_or t j 0
  pub size : length t' ≡ length t

-- how many rows a table holds stands in its count cell
unfoldable pub rows : Table → List ℕ → List Row
rows b t = rows_from (get_or t b.count 0) b.base t

-- a table that lies in an array: its count cell stands before its rows, and it holds no more than it has room for
pub record Lies (b : Table) (t : List ℕ) : Type 0 where
  pub ends : b.base + 2 * b.room ≤ length t
  pub cell : b.count < b.base
  pub held : get_or t b.count 0 ≤ b.room

-- the place of the first row whose key is from lo to hi
abbrev pub next : Option ℕ → Option ℕ
next None = None
next (Some n) = Some (suc n)

abbrev pub between : ℕ → ℕ → ℕ → Bool
between lo hi k = leb lo k && leb k hi

unfoldable pub first_in : ℕ → ℕ → List Row → Option ℕ
first_in lo hi [] = None
first_in lo hi (r ∷ rs) = cond (between lo hi r.0) (Some zero) (next (first_in lo hi rs))

-- no row before a place has such a key
pub record NoneBefore (from lo hi : ℕ) (l : List Row) : Type 0 where
  pub passed : (i : ℕ) → i < from → i < length l → between lo hi (get_or l i (0, 0)).0 ≡ false

-- a row by its value
abbrev pub flip : Row → Row
flip r = (r.1, r.0)

-- the least value among the rows with a key
abbrev pub lesser : ℕ → Option ℕ → Option ℕ
lesser v None = Some v
lesser v (Some w) = Some (cond (ltb v w) v w)

unfoldable pub least_of : ℕ → List Row → Option ℕ
least_of k [] = None
least_of k (r ∷ rs) = cond (eqb r.0 k) (lesser r.1 (least_of k rs)) (least_of k rs)

-- the rows without those of a key
unfoldable pub without : ℕ → List Row → List Row
without k [] = []
without k (r ∷ rs) = cond (eqb r.0 k) (without k rs) (r ∷ without k rs)

-- the rows without one
unfoldable pub without_row : ℕ → List Row → List Row
without_row i [] = []
without_row zero (r ∷ l) = l
without_row (suc i) (r ∷ l) = r ∷ without_row i l

-- the rows with another value in one
unfoldable pub with_value : ℕ → ℕ → List Row → List Row
with_value i v [] = []
with_value zero v (r ∷ rs) = (r.0, v) ∷ rs
with_value (suc i) v (r ∷ rs) = r ∷ with_value i v rs
