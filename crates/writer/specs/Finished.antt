-- The buffer that a call hands back (document 01, 'Where a call turns back': 9, "buffer too short, or content over 65,535";
-- "Refused: buffers all zero"; "every buffer has zeros behind").
use Rattle.std.specs.Prelude.{Bool, cond, List, ◌++◌, ◌≡◌, ℕ, ◌-◌, min, leb, length, take, replicate}

-- 9 is not due: a field of n bytes, so n - 3 of content, stands in a buffer of `room` bytes
unfoldable pub has_room : ℕ → ℕ → Bool
has_room n room = leb n (min 65538 room)

-- the first n bytes of l, and zeros behind
unfoldable pub zeroed_from : ℕ → List ℕ → List ℕ
zeroed_from n l = take n l ++ replicate (length l - n) 0

-- all zero
unfoldable pub zeroed : List ℕ → List ℕ
zeroed l = replicate (length l) 0

-- A field of n bytes is ended in the buffer l: the answer r says whether it has room.
pub record Finished (n : ℕ) (l : List ℕ) (r : Bool) (l' : List ℕ) : Type 0 where
  pub room : r ≡ has_room n (length l)
  pub buffer : l' ≡ cond r (zeroed_from n l) (zeroed l)

-- a buffer of `room` bytes that was lent for the field bs
unfoldable pub delivered : List ℕ → ℕ → List ℕ
delivered bs room = cond (has_room (length bs) room) (bs ++ replicate (room - length bs) 0) (replicate room 0)

-- The buffer l was lent for the field bs and is handed back as l': the answer r says whether bs stands in it.
pub record Delivered (bs l : List ℕ) (r : Bool) (l' : List ℕ) : Type 0 where
  pub room : r ≡ has_room (length bs) (length l)
  pub buffer : l' ≡ delivered bs (length l)
