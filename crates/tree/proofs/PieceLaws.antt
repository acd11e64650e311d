-- The packed fixed bytes say what the grammar says: the numbers of both pieces are computed for each of the 256 tags, and a number is of one
-- piece alone.
use Prim.Native.Nat.{ℕ, ◌<◌}
use mathlib.Core.Path.{◌≡◌, refl, sym, ap, ◌∙◌}
use mathlib.Core.Bool.{Bool, true}
use mathlib.Core.List.{List, [], ◌∷◌}
use lib.Dec.{eqb}
use borrow.Author.Tests.{eqb-true}
use Rattle.tree.specs.declared.grammar.Value.TheVariants.{Empty, Byte, Atom, Id, Literal, Number}
use Rattle.tree.specs.declared.grammar.Piece.{Piece}
use Rattle.tree.specs.declared.grammar.Piece.TheVariants.{Plain, Source, Original, Outside, Spread, KeyValue}
use Rattle.tree.specs.declared.grammar.Pieces.{Pieces}
use Rattle.tree.specs.Grammar.{find, pieces, pieces_of}
use Rattle.tree.specs.Runs.{Run, lookup, Answers}
use Rattle.tree.specs.PackedPieces.{piece_number, first_pieces, second_pieces, packed_pieces_at}
use Rattle.tree.proofs.Table.{all_below, below}
use Rattle.tree.proofs.RunLaws.{rising, answer-is}

abbrev numbered : List (ℕ × Piece)
numbered =
    (1, Plain Byte) ∷
    (2, Plain Atom) ∷
    (3, Plain Literal) ∷
    (4, Plain Number) ∷
    (5, Source) ∷
    (6, Spread) ∷
    (7, KeyValue) ∷
    (8, Plain Id) ∷
    (9, Original) ∷
    (10, Outside) ∷
    []

abbrev piece_by : ℕ → Piece
piece_by n = find n numbered (Plain Empty)

back : (p : Piece) → piece_by (piece_number p) ≡ p
back (Plain Empty) = refl
back (Plain Byte) = refl
back (Plain Atom) = refl
back (Plain Id) = refl
back (Plain Literal) = refl
back (Plain Number) = refl
back Source = refl
back Original = refl
back Outside = refl
back Spread = refl
back KeyValue = refl

same-number : (p q : Piece) → piece_number p ≡ piece_number q → p ≡ q
same-number p q e = sym (back p) ∙ ap piece_by e ∙ back q

-- of the first pieces, and of the second
module _ (runs : List Run) (part : Pieces → Piece) where
  abbrev agrees : ℕ → Bool
  agrees t = eqb (lookup runs (packed_pieces_at t)) (piece_number (part (pieces_of t)))

  part-is : rising 0 runs ≡ true → all_below agrees 256 ≡ true → (t n : ℕ) (p : Piece) → t < 256 → n ≡ packed_pieces_at t →
      Answers runs n (piece_number p) → p ≡ part (pieces_of t)
  part-is up all t n p h e w =
      let m = answer-is runs n (piece_number p) up w ∙ ap (lookup runs) e in
      same-number p (part (pieces_of t)) (m ∙ eqb-true _ _ (below agrees 256 all t h))

all-first : all_below (agrees first_pieces (λ (ps : Pieces). ps.first)) 256 ≡ true
unfolding pieces_of
all-first = refl

all-second : all_below (agrees second_pieces (λ (ps : Pieces). ps.second)) 256 ≡ true
unfolding pieces_of
all-second = refl

pub pieces-are : (t n : ℕ) (p q : Piece) → t < 256 → n ≡ packed_pieces_at t → Answers first_pieces n (piece_number p) →
    Answers second_pieces n (piece_number q) → pieces p q ≡ pieces_of t
pieces-are t n p q h e v w =
    ap (λ (x : Piece). pieces x q) (part-is first_pieces (λ (ps : Pieces). ps.first) refl all-first t n p h e v)
    ∙ ap (λ (y : Piece). pieces (pieces_of t).first y) (part-is second_pieces (λ (ps : Pieces). ps.second) refl all-second t n q h e w)
