-- `decode`: a refusal is told by the halves of the answer, and so is what it leaves.
use Rattle.std.proofs.Common.{ℕ, ◌≡◌, List, [], ◌∷◌, ◌++◌, codes, string_bytes, ap, ap₂, ◌∙◌, arith, rules}
use Rattle.std.proofs.lemmas.Result.{IfOk-weaker}
use Rattle.metadata.specs.Calls.{decode_call}
use Rattle.tychodrel.specs.Answer.{decode_answer_of, metadata_bytes}
use Rattle.answer_text.specs.Left.{leftovers_text}
use Rattle.requests.specs.Plain.{metadata_text, decode_by, decode_text}
use Rattle.requests.proofs.PlainLaws.{told-left}
use Rattle.requests.proofs.plain.decode.Goals as goal

pub returns-in-Err : goal.returns-in-Err
returns-in-Err c =
    let a : ℕ = c.tychodrel_decode_metadata-answer.result in
    let b : List ℕ = c.tychodrel_decode_metadata-answer.new.metadata in
    let n : ℕ = c.in-Err.refusal.number in
    let p : ℕ = c.in-Err.refusal.place in
    let left : c.leftovers.result.now ≡ leftovers_text (b ∷ []) = search rules in
    let told = told-left a n p c.in-Err.ensures.0 (omega arith) c.in-Err.ensures.1 (codes "ok " ++ metadata_text b) _ _ left in
    let is : decode_by a b ≡ decode_text c.args.asked.now =
    ap₂ decode_by c.tychodrel_decode_metadata-answer.ensures.0 c.tychodrel_decode_metadata-answer.ensures.1
    ∙ ap (λ (t : List ℕ). decode_by (decode_answer_of (decode_call t)) (metadata_bytes (decode_call t))) c.deref.ensures.value in
    IfOk-weaker _ _ (λ s. string_bytes s ≡ decode_text c.args.asked.now) (λ s text. text ∙ told ∙ is) c.format.ensures.ok
