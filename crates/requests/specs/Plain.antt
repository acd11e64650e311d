-- The text of answers to requests without a scope, by what the calls answer and leave.
use Rattle.std.specs.Prelude.{ℕ, ◌/◌, ◌%◌, cond, ◌&&◌, ◌==◌, nat_lt, List, [], ◌∷◌, ◌++◌, codes, slice_index}
use Rattle.std.specs.Option.{is_some, unwrap_or}
use Rattle.std.specs.Fmt.{decimal}
use Rattle.modes.specs.Bits.{modes_of}
use Rattle.detection.specs.Detection.{detect}
use Rattle.metadata.specs.Metadata.{Metadata}
use Rattle.metadata.specs.Calls.{decode_call, encode_answer, encode_out}
use Rattle.tychodrel.specs.Answer.{detect_answer, encode_answer_of, decode_answer_of, metadata_bytes, metadata_given}
use Rattle.text.specs.Hex.{spelt}
use Rattle.answer_text.specs.Left.{zeros, shown, leftovers_text}
use Rattle.request_fields.specs.declared.DetectRequest.{DetectRequest}
use Rattle.request_fields.specs.declared.EncodeRequest.{EncodeRequest}
use Rattle.request_fields.specs.declared.DecodeRequest.{DecodeRequest}

-- an answer in one number is `no NUMBER PLACE` of its halves where the upper one is not zero
abbrev pub by_halves : ℕ → List ℕ → List ℕ → List ℕ
by_halves answer ok behind =
    cond (nat_lt answer 0x1_0000_0000) ok (codes "no " ++ (decimal (answer / 0x1_0000_0000) ++ 32 ∷ (decimal (answer % 0x1_0000_0000) ++ behind)))

-- `ok 0` or `ok 1`, or `no NUMBER PLACE`
abbrev pub detect_by : ℕ → List ℕ
detect_by answer = by_halves answer (codes "ok " ++ decimal answer) []

abbrev pub detect_text : DetectRequest → List ℕ
detect_text r = detect_by (detect_answer (detect (modes_of r.modes) r.tree.items))

-- `ok HEX` of the buffer that is left, or `no NUMBER PLACE`
abbrev pub encode_by : ℕ → List ℕ → List ℕ
encode_by answer out = by_halves answer (codes "ok " ++ spelt (shown out)) (leftovers_text (out ∷ []))

-- what is to be encoded
abbrev pub given : EncodeRequest → Metadata
given r = metadata_given r.injected (is_some r.context) (unwrap_or r.context 0)

abbrev pub encode_text : EncodeRequest → List ℕ
encode_text r = encode_by (encode_answer_of (encode_answer (given r) r.attributes.items r.out)) (encode_out (given r) r.attributes.items r.out)

-- the bytes of a context, behind a byte of `injected` and one that tells whether there is a context
abbrev pub context_in : List ℕ → List ℕ
context_in b = slice_index b 2 ∷ slice_index b 3 ∷ slice_index b 4 ∷ slice_index b 5 ∷ []

-- INJECTED CTX; without a context its bytes are zero
abbrev pub metadata_text : List ℕ → List ℕ
metadata_text b =
    decimal (slice_index b 0) ++ 32 ∷ cond (slice_index b 1 == 0 && zeros (context_in b)) (codes "-") (spelt (context_in b) ++ cond (slice_index b 1 == 1) [] (codes " without a context"))

-- `ok INJECTED CTX` or `no NUMBER PLACE`
abbrev pub decode_by : ℕ → List ℕ → List ℕ
decode_by answer metadata = by_halves answer (codes "ok " ++ metadata_text metadata) (leftovers_text (metadata ∷ []))

abbrev pub decode_text : DecodeRequest → List ℕ
decode_text r = decode_by (decode_answer_of (decode_call r.attributes.items)) (metadata_bytes (decode_call r.attributes.items))
