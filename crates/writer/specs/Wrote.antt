-- What writing into a lent buffer is. Bytes are stored as far as there is room, and the position goes on past the end, so
-- that writing into a short or an empty buffer measures. Every output is one field, so at most 65,538 bytes long; a longer
-- one is refused whole once the walk is done (document 01, 'Where a call turns back', 9), so positions count only so far.
use Rattle.std.specs.Prelude.{cond, List, ◌≡◌, ℕ, ◌+◌, ◌-◌, ◌≤◌, min, leb, length, set}
use Rattle.std.proofs.lemmas.List.Edits.{sets}
use Rattle.writer.specs.Bytes.{two_bytes}

-- positions from 65,539 on are all one: an output that has come so far is too long, whatever follows
abbrev pub capped : ℕ → ℕ
capped n = min n 65539

-- Writing the bytes bs from o on makes l' of the buffer l and leads to the position p. A store past the end of l changes
-- nothing. Of the bytes of an output that is too long nothing is said: `finish` zeroes them.
pub record Wrote (l : List ℕ) (o : ℕ) (bs l' : List ℕ) (p : ℕ) : Type 0 where
  pub at : capped p ≡ capped (o + length bs)
  pub bytes : o + length bs ≤ 65538 → l' ≡ sets l o bs
  pub size : length l' ≡ length l

-- A field with tag t is opened at o: the tag stands there, and the content starts at c, behind two bytes for its length.
pub record Opened (l : List ℕ) (o t : ℕ) (l' : List ℕ) (c : ℕ) : Type 0 where
  pub at : capped c ≡ capped (o + 3)
  pub tag : l' ≡ set l o t

-- The field at o is closed: the length of its content, which ends at p, is filled in. One that is too long is left so.
unfoldable pub closed : List ℕ → ℕ → ℕ → List ℕ
closed l o p = cond (leb (o + 3) p) (cond (leb p 65538) (sets l (o + 1) (two_bytes (p - (o + 3)))) l) l
