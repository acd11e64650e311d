-- The two calls on lent bytes, with their refusals. Document 01, 'Metadata and detection' and 'Where a call turns back'.
use Rattle.std.specs.Prelude.{ℕ, cond, Result, Ok, Err, List, ◌≡◌, eqb, length, replicate}
use Rattle.tree.specs.declared.grammar.Set.TheVariants.{Attributes}
use Rattle.tree.specs.Read.{Unread}
use Rattle.tree.specs.Tree.{Fields, none, more, encode, parts_of}
use Rattle.tree.specs.Read.{Reading, fine, refused, mapped, read, refusal_of}
use Rattle.writer.specs.Finished.{has_room, delivered}
use Rattle.metadata.specs.declared.ExportMetadata.{ExportMetadata}
use Rattle.metadata.specs.declared.EncodeError.{EncodeError}
use Rattle.metadata.specs.declared.EncodeError.TheVariants.{Broken, NoRoom}
use Rattle.metadata.specs.Metadata.{Metadata, with_metadata, decode}
use Rattle.metadata.specs.MetadataValue.{metadata_of}

-- the attributes in a 2F
abbrev pub attributes_in : Fields → Fields
attributes_in none = none
attributes_in (more f fs) = parts_of f

-- 'Both calls read a lent 2F, empty bytes for none; a broken one gives 3'
unfoldable pub lent : List ℕ → Reading Fields
lent s = cond (eqb (length s) 0) (fine none) (mapped attributes_in (read Attributes s))

-- ---- Decode

unfoldable pub decode_call : List ℕ → Reading Metadata
decode_call s = mapped decode (lent s)

-- what an answer stands for
abbrev pub decoded : Result ExportMetadata Unread → Reading Metadata
decoded (Ok m) = fine (metadata_of m)
decoded (Err u) = refused u.why u.place

-- ---- Encode

-- the answer and the buffer of `room` bytes, by the attributes that were lent: '9 as above', refused: 'all zero', else 'zeros behind'
unfoldable pub answer_on : Reading Fields → Metadata → ℕ → Result ℕ EncodeError
answer_on (refused w p) m room = Err (Broken (record { why = w; place = p }))
answer_on (fine old) m room =
    let n = length (encode (with_metadata m old)) in cond (has_room n room) (Ok n) (Err NoRoom)

unfoldable pub out_on : Reading Fields → Metadata → ℕ → List ℕ
out_on (refused w p) m room = replicate room 0
out_on (fine old) m room = delivered (encode (with_metadata m old)) room

unfoldable pub encode_answer : Metadata → List ℕ → ℕ → Result ℕ EncodeError
encode_answer m s room = answer_on (lent s) m room

unfoldable pub encode_out : Metadata → List ℕ → ℕ → List ℕ
encode_out m s room = out_on (lent s) m room

-- metadata m is encoded onto the lent attributes s into the buffer l: the answer, and what is handed back of the buffer
pub record Encoding (m : Metadata) (s l : List ℕ) (r : Result ℕ EncodeError) (l' : List ℕ) : Type 0 where
  pub answer : r ≡ encode_answer m s (length l)
  pub buffer : l' ≡ encode_out m s (length l)

-- ---- Refusals

-- the number and the place of each answer: 0 and 0 where the call is accepted
abbrev pub encoded_number : Result ℕ EncodeError → ℕ
encoded_number (Ok n) = 0
encoded_number (Err (Broken u)) = refusal_of u.why
encoded_number (Err NoRoom) = 9

abbrev pub encoded_place : Result ℕ EncodeError → ℕ
encoded_place (Ok n) = 0
encoded_place (Err (Broken u)) = u.place
encoded_place (Err NoRoom) = 0

abbrev pub decoded_number : Result ExportMetadata Unread → ℕ
decoded_number (Ok m) = 0
decoded_number (Err u) = refusal_of u.why

abbrev pub decoded_place : Result ExportMetadata Unread → ℕ
decoded_place (Ok m) = 0
decoded_place (Err u) = u.place
