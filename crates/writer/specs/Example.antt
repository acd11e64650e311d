-- The definitions on a field of document 01's second card, `700002 0016`, computed.
use Rattle.std.specs.Prelude.{List, [], ◌∷◌, ◌≡◌, refl, ℕ}
use Rattle.writer.specs.Bytes.{two_bytes, four_bytes, framed}
use Rattle.writer.specs.Finished.{has_room, delivered}

name : List ℕ
name = 0x70 ∷ 0 ∷ 2 ∷ 0 ∷ 0x16 ∷ []

framed-name : framed 0x70 (two_bytes 0x16) ≡ name
unfolding framed name
framed-name = refl

four : four_bytes 0x01020304 ≡ 1 ∷ 2 ∷ 3 ∷ 4 ∷ []
four = refl

-- in seven bytes zeros stand behind it, in five none; four are too few
delivered-seven : delivered name 7 ≡ 0x70 ∷ 0 ∷ 2 ∷ 0 ∷ 0x16 ∷ 0 ∷ 0 ∷ []
unfolding delivered has_room name
delivered-seven = refl

delivered-five : delivered name 5 ≡ name
unfolding delivered has_room name
delivered-five = refl

delivered-four : delivered name 4 ≡ 0 ∷ 0 ∷ 0 ∷ 0 ∷ []
unfolding delivered has_room name
delivered-four = refl
