-- What a store into one table leaves alone: every cell outside it, and so every table apart from it.
use Rattle.std.specs.Prelude.{ℕ, ◌+◌, ◌*◌, ◌≤◌, ◌<◌, ◌≡◌, List, length, get_or}
use Rattle.tables.specs.declared.Table.{Table}

-- a cell that is neither the table's count nor in its rows
pub record Outside (b : Table) (i : ℕ) : Type 0 where
  pub cell : i ≡ b.count → ⊥
  pub row : b.base ≤ i → i < b.base + 2 * b.room → ⊥

-- only the cells of the table changed
pub record Only (b : Table) (t t' : List ℕ) : Type 0 where
  pub size : length t' ≡ length t
  pub same : (i : ℕ) → Outside b i → get_or t' i 0 ≡ get_or t i 0

-- no cell of the table c is one of b
pub record Apart (b c : Table) : Type 0 where
  pub cell : Outside b c.count
  pub row : (i : ℕ) → c.base ≤ i → i < c.base + 2 * c.room → Outside b i
