-- Where a field ends and where its fixed bytes end.
use Rattle.std.specs.Prelude.{cond, ℕ, ◌+◌, ◌-◌, ◌*◌, List, [], ◌∷◌, ltb, leb, get_or, Option, Some, None}
use Rattle.tree.specs.declared.grammar.Value.{Value}
use Rattle.tree.specs.declared.grammar.Value.TheVariants.{Empty, Byte, Atom, Id, Literal, Number}
use Rattle.tree.specs.declared.grammar.Piece.{Piece}
use Rattle.tree.specs.declared.grammar.Piece.TheVariants.{Plain, Source, Original, Outside, Spread, KeyValue}
use Rattle.tree.specs.Layout.{skip_at, literal_end}
use Rattle.tree.specs.Grammar.{find, pieces_of}

-- where the value at `at` ends, inside stop
unfoldable pub value_at : Value → ℕ → ℕ → Option ℕ
value_at Empty at stop = skip_at at 0 stop
value_at Byte at stop = skip_at at 1 stop
value_at Atom at stop = skip_at at 2 stop
value_at Id at stop = skip_at at 6 stop
value_at Literal at stop = literal_end at stop
value_at Number at stop = skip_at at 8 stop

-- 'Kind bytes have only the listed values': each with what follows it
unfoldable pub kinds : Piece → List (ℕ × Option Value)
kinds Source = (0, Some Empty) ∷ (1, Some Literal) ∷ []
kinds Original = (1, Some Id) ∷ (2, Some Atom) ∷ []
kinds Outside = (0, Some Empty) ∷ (1, Some Id) ∷ (2, Some Atom) ∷ []
kinds Spread = (0, Some Empty) ∷ (1, Some Empty) ∷ []
kinds (Plain v) = []
kinds KeyValue = []

unfoldable pub choice_of : Piece → ℕ → Option Value
choice_of p b = find b (kinds p) None

unfoldable pub on_choice : Option Value → ℕ → ℕ → Option ℕ
on_choice None at stop = None
on_choice (Some v) at stop = value_at v at stop

-- a kind byte and what it chooses
unfoldable pub kind_at : List ℕ → Piece → ℕ → ℕ → Option ℕ
kind_at s p at stop = cond (ltb at stop) (on_choice (choice_of p (get_or s at 0)) (at + 1) stop) None

-- two kind bytes of 0 or 1, a length byte and that many bytes at least: all up to stop
unfoldable pub key_at : List ℕ → ℕ → ℕ → Option ℕ
key_at s at stop =
    cond (ltb (stop - at) 3) None
    (cond (ltb 1 (get_or s at 0)) None
    (cond (ltb 1 (get_or s (at + 1) 0)) None (cond (leb (get_or s (at + 2) 0) (stop - (at + 3))) (Some stop) None)))

unfoldable pub piece_at : List ℕ → Piece → ℕ → ℕ → Option ℕ
piece_at s (Plain v) at stop = value_at v at stop
piece_at s KeyValue at stop = key_at s at stop
piece_at s Source at stop = kind_at s Source at stop
piece_at s Original at stop = kind_at s Original at stop
piece_at s Outside at stop = kind_at s Outside at stop
piece_at s Spread at stop = kind_at s Spread at stop

unfoldable pub then_piece : Option ℕ → List ℕ → Piece → ℕ → Option ℕ
then_piece None s p stop = None
then_piece (Some b) s p stop = piece_at s p b stop

-- where the fixed bytes from `at` of a field with this tag end
unfoldable pub fixed_at : List ℕ → ℕ → ℕ → ℕ → Option ℕ
fixed_at s tag at stop = then_piece (piece_at s (pieces_of tag).first at stop) s (pieces_of tag).second stop

-- the length that stands behind the tag at `at`
unfoldable pub length_at : List ℕ → ℕ → ℕ
length_at s at = get_or s (at + 1) 0 * 256 + get_or s (at + 2) 0

-- where the field at `at` ends, if it is whole inside `end`
unfoldable pub extent_at : List ℕ → ℕ → ℕ → Option ℕ
extent_at s at end = cond (leb 3 (end - at)) (skip_at (at + 3) (length_at s at) end) None
