-- The text of the answer to a request.
use Rattle.std.specs.Prelude.{ℕ, ◌≡◌, List}
use Rattle.request_fields.specs.declared.Request.{Request}
use Rattle.request_fields.specs.declared.Request.TheVariants.{Extract, Resolve, Both, Detect, Encode, Decode}
use Rattle.scoped_requests.specs.declared.extracting.Extracted.{Extracted}
use Rattle.scoped_requests.specs.declared.listing.Resolved.{Resolved}
use Rattle.scoped_requests.specs.Texts.{extract_text, resolve_text, both_text}
use Rattle.requests.specs.Plain.{detect_text, encode_text, decode_text}

-- with a scope it is the text of what some calls have left
abbrev pub Answers : Request → List ℕ → Type 0
Answers (Extract r) s = (l : Extracted) × (s ≡ extract_text l)
Answers (Resolve r) s = (l : Resolved) × (s ≡ resolve_text l)
Answers (Both r) s = (l : Extracted) × (n : Resolved) × (s ≡ both_text l n)
Answers (Detect r) s = s ≡ detect_text r
Answers (Encode r) s = s ≡ encode_text r
Answers (Decode r) s = s ≡ decode_text r
