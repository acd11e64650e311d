-- The lent buffers that calls fill. Document 01, 'Where a call turns back', row 9 and the last two sentences.
use Rattle.std.specs.Prelude.{ℕ, not, List, replicate}
use Rattle.tree.specs.Tree.{Field, encode, size}
use Rattle.writer.specs.Finished.{has_room, delivered}
use Rattle.inputs.specs.Outcome.{Outcome, done, refused, refuse_if}

-- 9: 'buffer too short, or content over 65,535'
unfoldable pub fits : Field → ℕ → Outcome (Unit {0})
fits f room = refuse_if (not (has_room (size f) room)) 9

-- the buffer for a field of the value: 'Refused: buffers all zero'; accepted: the field, and 'zeros behind'
abbrev pub buffer_of : {A : Type 0} → (A → Field) → Outcome A → ℕ → List ℕ
buffer_of f (done a) room = delivered (encode (f a)) room
buffer_of f (refused n p) room = replicate room 0
