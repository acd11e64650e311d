-- The tree that stands in bytes, whatever they are; and what a walk may ask of them: that reading accepts them at some depth.
use Rattle.std.specs.Prelude.{ℕ, zero, suc, ◌+◌, ◌-◌, ◌≡◌, List, [], get_or, Option, Some, None}
use Rattle.std.proofs.Math.Seq.{slice}
use Rattle.tree.specs.declared.grammar.Rule.{Rule}
use Rattle.tree.specs.Tree.{Field, field, Fields, none, more}
use Rattle.tree.specs.Access.{fixed_at, extent_at}
use Rattle.tree.specs.Read.{fine, children_at, content_at}

abbrev pub Rows : Type 0
Rows = List ℕ → ℕ → ℕ → Fields

unfoldable pub tree_on : Option ℕ → Rows → List ℕ → ℕ → ℕ → Field
tree_on None k s at stop = field 0 [] none
tree_on (Some b) k s at stop = field (get_or s at 0) (slice (at + 3) b s) (k s b stop)

unfoldable pub tree_by : Rows → List ℕ → ℕ → ℕ → Field
tree_by k s at stop = tree_on (fixed_at s (get_or s at 0) (at + 3) stop) k s at stop

unfoldable pub row_on : Option ℕ → Rows → List ℕ → ℕ → ℕ → Fields
row_on None k s at end = none
row_on (Some stop) k s at end = more (tree_by k s at stop) (k s stop end)

unfoldable pub row : ℕ → Rows
row zero s at end = none
row (suc n) s at end = row_on (extent_at s at end) (row n) s at end

-- the fields from `at` up to end
unfoldable pub row_at : Rows
row_at s at end = row (suc (end - at)) s at end

-- the field at `at` up to stop
unfoldable pub tree_at : List ℕ → ℕ → ℕ → Field
tree_at s at stop = tree_by row_at s at stop

-- a field that reading accepts
abbrev pub Whole : List ℕ → ℕ → ℕ → Type 0
Whole s at stop = (d : ℕ) × (f : Field) × (content_at s at stop d ≡ fine f)

-- parts that reading accepts where the rule q is left
abbrev pub Row : List ℕ → ℕ → ℕ → Rule → Type 0
Row s at end q = (d : ℕ) × (p : ℕ) × (fs : Fields) × (children_at s at end d q p ≡ fine fs)
