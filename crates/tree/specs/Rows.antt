-- A row of fields, taken one by one.
use Rattle.std.specs.Prelude.{Option, None, Some}
use Rattle.std.specs.Prelude.{◌≡◌}
use Rattle.tree.specs.Access.{extent_at}
use Rattle.tree.specs.Tree.{Field, Fields}
use Rattle.tree.specs.Standing.{tree_at, row_at}
use Rattle.tree.specs.declared.row.Part.{Part}
use Rattle.tree.specs.declared.row.Row.{Row}

-- a row gave p and goes on as r': the field that stands first and what is behind it, or none where no field is whole
abbrev pub GivesPart : Row → Option Part → Row → Type 0
GivesPart r None r' = (extent_at r.bytes.now r.at r.end ≡ None) × (r'.bytes.now ≡ r.bytes.now)
GivesPart r (Some p) r' =
    (extent_at r.bytes.now r.at r.end ≡ Some p.stop) × (p.at ≡ r.at) × (r'.bytes.now ≡ r.bytes.now) × (r'.at ≡ p.stop) × (r'.end ≡ r.end)
    × (p.bytes.now ≡ r.bytes.now)

-- the field, and the fields, as the rules have them
abbrev pub tree_of : Part → Field
tree_of p = tree_at p.bytes.now p.at p.stop

abbrev pub fields_of : Row → Fields
fields_of r = row_at r.bytes.now r.at r.end
