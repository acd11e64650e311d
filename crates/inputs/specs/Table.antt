-- The lent lists of atoms and of sources with their files. Document 01, 'Where a call turns back', rows 1 and 2.
use Rattle.std.specs.Prelude.{ℕ, ◌+◌, ◌*◌, ◌%◌, Bool, false, not, ◌||◌, List, [], ◌∷◌, ltb, eqb, length, Option}
use Rattle.tree.specs.Layout.{same}
use Rattle.inputs.specs.Lists.{find, is_some, mapped}
use Rattle.inputs.specs.Outcome.{Outcome, done, ◌>>◌, refuse_if}

-- 'externals (A each)'
unfoldable pub atoms_in : List ℕ → List (List ℕ)
atoms_in [] = []
atoms_in (a ∷ []) = []
atoms_in (a ∷ (b ∷ l)) = (a ∷ b ∷ []) ∷ atoms_in l

-- 'table (source A, file A)'
pub record Row : Type 0 where
  pub source : List ℕ
  pub file : ℕ

unfoldable pub rows_in : List ℕ → List Row
rows_in [] = []
rows_in (a ∷ []) = []
rows_in (a ∷ (b ∷ [])) = []
rows_in (a ∷ (b ∷ (c ∷ []))) = []
rows_in (a ∷ (b ∷ (c ∷ (d ∷ l)))) = record { source = a ∷ b ∷ []; file = c * 256 + d } ∷ rows_in l

-- the row of a source
unfoldable pub row_of : List ℕ → List Row → Option Row
row_of a rows = find (λ (r : Row). same r.source a) rows

-- 'the file its table names'; none: the source is unresolved
unfoldable pub file_of : List ℕ → List Row → Option ℕ
file_of a rows = mapped (λ r. r.file) (row_of a rows)

-- 1: 'over 1,024 or odd'
unfoldable pub bad_externals : List ℕ → Bool
bad_externals s = ltb 1024 (length s) || not (eqb (length s % 2) 0)

-- 1: 'over 4,096 or not by fours'
unfoldable pub bad_table : List ℕ → Bool
bad_table s = ltb 4096 (length s) || not (eqb (length s % 4) 0)

-- 2: 'table names a source twice'
unfoldable pub repeats : List Row → Bool
repeats [] = false
repeats (r ∷ rows) = is_some (row_of r.source rows) || repeats rows

unfoldable pub table_of : List ℕ → Outcome (List Row)
table_of s = do
  refuse_if (repeats (rows_in s)) 2
  done (rows_in s)
