-- A field whose tag has no fixed bytes: its parts are the row that starts behind its head.
use Prim.Native.Nat.{ℕ, ◌+◌}
use mathlib.Core.Path.{◌≡◌, sym, ap, ◌∙◌}
use mathlib.Core.List.{[]}
use Rattle.tree.specs.declared.grammar.Value.TheVariants.{Empty}
use Rattle.tree.specs.Tree.{field}
use Rattle.tree.specs.Rows.{tree_of, fields_of}
use Rattle.tree.specs.declared.row.Part.{Part}
use Rattle.tree.specs.declared.row.Row.{Row}
use Rattle.tree.proofs.PartLaws.{left-start, row-is, part_tag}
use Rattle.tree.proofs.WidthLaws.{Plainly, tree-bare}

pub bare-part : (k : ℕ) → Plainly k Empty → (p : Part) (row : Row) → part_tag p ≡ k →
    (row.bytes.now ≡ p.bytes.now) × (row.at ≡ p.at + 3) × (row.end ≡ p.stop) → tree_of p ≡ field k [] (fields_of row)
bare-part k e p row h m =
    tree-bare k e p.bytes.now p.at p.stop p.whole.0 h ∙ sym (ap (field k []) (row-is (left-start row m)))
