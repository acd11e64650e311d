-- `pieces_of`: the two pieces are those of the tag's packed number.
use mathlib.Core.Path.{refl}
use Rattle.tree.specs.PackedPieces.{fixed_rows}
use Rattle.tree.proofs.RunLaws.{nibble-is}
use Rattle.tree.proofs.PieceLaws.{pieces-are}
use borrow.Author.Rules.{rules}
use Rattle.tree.proofs.grammar.pieces_of.Goals as goal

pub returns : goal.returns
returns c =
    let t = c.args.tag in
    let n = nibble-is fixed_rows t c.fixed_row.result c.nibble_of-n.result refl c.fixed_row.ensures c.nibble_of-n.ensures in
    pieces-are t c.nibble_of-n.result _ _ (search rules) n c.first_piece-first.ensures c.second_piece-second.ensures
