-- `encode`: a refusal is told by the halves of the answer, and so is what it leaves.
use Rattle.std.proofs.Common.{ℕ, ◌≡◌, Bool, List, [], ◌∷◌, ◌++◌, codes, length, take, string_bytes, ap, ap₂, ◌∙◌, arith, rules}
use Rattle.std.proofs.Math.Seq.{take-append_seam}
use Rattle.std.proofs.lemmas.Result.{IfOk-weaker}
use Rattle.std.specs.Option.{is_some, unwrap_or}
use Rattle.metadata.specs.Calls.{encode_answer, encode_out}
use Rattle.tychodrel.specs.Answer.{encode_answer_of, metadata_given}
use Rattle.request_fields.specs.declared.EncodeRequest.{EncodeRequest}
use Rattle.text.specs.Hex.{spelt}
use Rattle.answer_text.specs.Left.{leftovers_text, shown}
use Rattle.requests.specs.Plain.{encode_by, encode_text}
use Rattle.requests.proofs.PlainLaws.{told-left}
use Rattle.requests.proofs.plain.encode.Goals as goal

front : (new behind : List ℕ) (n : ℕ) → n ≡ length new → take n (new ++ behind) ≡ new
front new behind n e = ap (λ k. take k (new ++ behind)) e ∙ take-append_seam new behind

-- the text, by what the call is given
abbrev encoded : EncodeRequest → Bool → ℕ → List ℕ → ℕ → List ℕ
encoded r f n t k = encode_by (encode_answer_of (encode_answer (metadata_given r.injected f n) t k)) (encode_out (metadata_given r.injected f n) t k)

pub returns : goal.returns
returns c =
    let r : EncodeRequest = c.args.asked.now in
    let a : ℕ = c.tychodrel_encode_metadata-answer.result in
    let b : List ℕ = c.deref-in-Err.result.now in
    let n : ℕ = c.in-Err.refusal.number in
    let p : ℕ = c.in-Err.refusal.place in
    let left : c.leftovers.result.now ≡ leftovers_text (b ∷ []) = search rules in
    let told = told-left a n p c.in-Err.ensures.0 (omega arith) c.in-Err.ensures.1 (codes "ok " ++ spelt (shown b)) _ _ left in
    let buffer : b ≡ c.tychodrel_encode_metadata-answer.new.out = c.deref-in-Err.ensures.value ∙ front c.tychodrel_encode_metadata-answer.new.out _ _ (omega (arith, c.in_ok-out.ensures.len)) in
    let room : length c.deref_mut.result.now ≡ r.out = omega (arith, c.in_ok-out.ensures.len) in
    let is : encode_by a b ≡ encode_text r =
    ap₂ encode_by c.tychodrel_encode_metadata-answer.ensures.0 (buffer ∙ c.tychodrel_encode_metadata-answer.ensures.1)
    ∙ ap (λ (f : Bool). encoded r f c.unwrap_or.result c.deref.result.now (length c.deref_mut.result.now)) c.is_some.ensures
    ∙ ap (λ (m : ℕ). encoded r (is_some r.context) m c.deref.result.now (length c.deref_mut.result.now)) c.unwrap_or.ensures
    ∙ ap (λ (t : List ℕ). encoded r (is_some r.context) (unwrap_or r.context 0) t (length c.deref_mut.result.now)) c.deref.ensures.value
    ∙ ap (λ (k : ℕ). encoded r (is_some r.context) (unwrap_or r.context 0) r.attributes.items k) room in
    IfOk-weaker _ _ (λ s. string_bytes s ≡ encode_text r) (λ s text. text ∙ told ∙ is) c.format-in-Err.ensures.ok
