-- The fixed bytes of a tag packed into a number, as the code has it. A model of the table in the code: `read` does not reach it, and
-- PieceLaws shows that it says what Grammar says.
use Rattle.std.specs.Prelude.{ℕ, List, [], ◌∷◌}
use Rattle.tree.specs.declared.grammar.Value.{Value}
use Rattle.tree.specs.declared.grammar.Value.TheVariants.{Empty, Byte, Atom, Id, Literal, Number}
use Rattle.tree.specs.declared.grammar.Piece.{Piece}
use Rattle.tree.specs.declared.grammar.Piece.TheVariants.{Plain, Source, Original, Outside, Spread, KeyValue}
use Rattle.tree.specs.Runs.{Run, nibble_at}

-- a number for each piece
abbrev pub value_number : Value → ℕ
value_number Empty = 0
value_number Byte = 1
value_number Atom = 2
value_number Literal = 3
value_number Number = 4
value_number Id = 8

abbrev pub piece_number : Piece → ℕ
piece_number (Plain v) = value_number v
piece_number Source = 5
piece_number Spread = 6
piece_number KeyValue = 7
piece_number Original = 9
piece_number Outside = 10

-- the numbers of the first and the second piece of a tag, by the tag's number: 9 is an id and 10 an original, with a name outside
abbrev pub first_pieces : List Run
first_pieces =
    (1, 1, 1) ∷
    (2, 2, 2) ∷
    (3, 3, 3) ∷
    (4, 4, 4) ∷
    (5, 5, 5) ∷
    (6, 6, 6) ∷
    (7, 7, 7) ∷
    (8, 9, 8) ∷
    (10, 10, 9) ∷
    []

abbrev pub second_pieces : List Run
second_pieces = (9, 10, 10) ∷ []

-- the tags' numbers
abbrev pub fixed_rows : List Run
fixed_rows =
    (1, 1, 0x353) ∷
    (2, 2, 0x8a889) ∷
    (3, 3, 0x7) ∷
    (4, 4, 0x8000) ∷
    (5, 5, 0x82008) ∷
    (6, 6, 0x10100000000438) ∷
    (7, 7, 0x280600202) ∷
    (8, 8, 0x2333) ∷
    []

abbrev pub packed_pieces_at : ℕ → ℕ
packed_pieces_at t = nibble_at fixed_rows t
