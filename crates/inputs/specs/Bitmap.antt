-- How the code finds a source that a table names twice: it notes the sources that it meets in a bitmap, first those below 32,768, then the
-- others, since one bitmap for all takes twice the stack. No rule speaks of it.
use Rattle.std.specs.Prelude.{ℕ, ◌/◌, ◌%◌, ◌^◌, Bool, ◌||◌, List, ◌≡◌, eqb, length, get_or}
use Rattle.tree.specs.Layout.{two_at}
use Rattle.inputs.specs.Lists.{filter}
use Rattle.inputs.specs.Table.{Row}

-- the bit n is 1; a cell has 64
unfoldable pub is_set : List ℕ → ℕ → Bool
is_set cells n = eqb (get_or cells (n / 64) 0 / 2 ^ (n % 64) % 2) 1

-- the bit n is 1 now, and each other is as it was
pub record WithBit (cells : List ℕ) (n : ℕ) (cells' : List ℕ) : Type 0 where
  pub size : length cells' ≡ length cells
  pub bits : (m : ℕ) → is_set cells' m ≡ (is_set cells m || eqb m n)

-- the rows with a source below 32,768 (0), or with another (1)
unfoldable pub half_of : ℕ → List Row → List Row
half_of half rows = filter (λ (r : Row). eqb (two_at r.source 0 / 32768) half) rows
