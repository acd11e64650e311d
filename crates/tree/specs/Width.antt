-- How many fixed bytes a tag has, where no kind byte chooses. A model of the table in the code: `read` does not reach it, and TagWidthLaws
-- shows that the table says what Grammar says.
use Rattle.std.specs.Prelude.{ℕ, ◌+◌, cond, ltb}
use Rattle.tree.specs.declared.grammar.Value.{Value}
use Rattle.tree.specs.declared.grammar.Value.TheVariants.{Empty, Byte, Atom, Id, Literal, Number}
use Rattle.tree.specs.declared.grammar.Piece.{Piece}
use Rattle.tree.specs.declared.grammar.Piece.TheVariants.{Plain, Source, Original, Outside, Spread, KeyValue}
use Rattle.tree.specs.declared.grammar.Pieces.{Pieces}
use Rattle.tree.specs.Layout.{literal_width}
use Rattle.tree.specs.Grammar.{pieces_of}

-- how many bytes a value takes
abbrev pub value_width : Value → ℕ
value_width Empty = 0
value_width Byte = 1
value_width Atom = 2
value_width Id = 6
value_width Literal = literal_width
value_width Number = 8

-- 9 where a kind byte chooses
abbrev pub piece_width : Piece → ℕ
piece_width (Plain v) = value_width v
piece_width Source = 9
piece_width Original = 9
piece_width Outside = 9
piece_width Spread = 9
piece_width KeyValue = 9

-- how many fixed bytes the pieces have, if these are values; or else 9
abbrev pub pieces_width : Pieces → ℕ
pieces_width ps =
    cond (ltb (piece_width ps.first + piece_width ps.second) 9) (piece_width ps.first + piece_width ps.second) 9

unfoldable pub width_at : ℕ → ℕ
width_at t = pieces_width (pieces_of t)
