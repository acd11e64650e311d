-- Answers as numbers and bytes. Document 01: 'The host passes numbers and byte slices and gets the same back'.
use Rattle.std.specs.Prelude.{ℕ, ◌+◌, ◌-◌, ◌*◌, ◌%◌, Bool, cond, List, [], ◌∷◌, ◌++◌, length, replicate, Option, None, Some, Result}
use Rattle.report.specs.declared.Report.{Report}
use Rattle.scope.specs.Modules.{Module, Modules}
use Rattle.writer.specs.Bytes.{two_bytes, four_bytes}
use Rattle.detection.specs.Detection.{Outcome, answers, refuses}
use Rattle.metadata.specs.declared.EncodeError.{EncodeError}
use Rattle.metadata.specs.Calls.{encoded_number, encoded_place}
use Rattle.metadata.specs.Metadata.{Metadata}
use Rattle.tree.specs.Read.{Reading, fine, refused, refusal_of}

-- the refusal's number in the upper half, its place in the lower
abbrev pub packed : ℕ → ℕ → ℕ
packed number place = number * 4294967296 + place % 4294967296

-- of an answer that may be a refusal: 0 where it is none
abbrev pub packed_in : Option (ℕ × ℕ) → ℕ
packed_in None = 0
packed_in (Some r) = packed r.0 r.1

abbrev pub bit : Bool → ℕ
bit b = cond b 1 0

-- detection: 0 or 1 in the lower half
abbrev pub detect_answer : Outcome → ℕ
detect_answer (answers b) = bit b
detect_answer (refuses n p) = packed n p

abbrev pub encode_answer_of : Result ℕ EncodeError → ℕ
encode_answer_of r = packed (encoded_number r) (encoded_place r)

-- decoding: the answer, and injected, whether there is a context, and the context
abbrev pub decode_answer_of : Reading Metadata → ℕ
decode_answer_of (fine m) = 0
decode_answer_of (refused w p) = packed (refusal_of w) p

abbrev pub context_bytes : Option ℕ → List ℕ
context_bytes None = 0 ∷ 0 ∷ 0 ∷ 0 ∷ 0 ∷ []
context_bytes (Some c) = 1 ∷ four_bytes c

abbrev pub bytes_of : Metadata → List ℕ
bytes_of m = bit m.injected ∷ context_bytes m.context

abbrev pub metadata_bytes : Reading Metadata → List ℕ
metadata_bytes (fine m) = bytes_of m
metadata_bytes (refused w p) = 0 ∷ 0 ∷ 0 ∷ 0 ∷ 0 ∷ 0 ∷ []

-- what a context stands for that is told by a flag and a number
abbrev pub metadata_given : Bool → Bool → ℕ → Metadata
metadata_given injected known c = record { injected = injected; context = cond known (Some c) None }

-- ---- A report as bytes

-- every count has a place of two bytes or four; nothing is counted yet, and what has no count is zero
unfoldable pub report_bytes : Report → List ℕ
report_bytes r = replicate 32 0

-- ---- A scope as bytes

-- bit 0: loaded, 1: stored, 2: cjs, 3: wrapping
abbrev pub marks_of : Module → ℕ
marks_of m = bit m.loaded + 2 * bit m.stored + 4 * bit m.cjs + 8 * bit m.wrapping

-- each module's file in two bytes, and its marks in one
unfoldable pub modules_bytes : Modules → List ℕ
modules_bytes [] = []
modules_bytes (m ∷ ms) = two_bytes m.file ++ (marks_of m ∷ []) ++ modules_bytes ms

-- how many modules there are, and the modules
unfoldable pub listed : Modules → List ℕ
listed ms = two_bytes (length ms) ++ modules_bytes ms

-- and zeros behind: 256 modules fill the 770 bytes
unfoldable pub scope_bytes : Modules → List ℕ
scope_bytes ms = listed ms ++ replicate (770 - length (listed ms)) 0
