-- `detect`: a refusal is told by the halves of the answer.
use Rattle.std.proofs.Common.{ℕ, ◌≡◌, List, ◌++◌, codes, string_bytes, ap, ◌∙◌, arith, rules}
use Rattle.std.proofs.lemmas.Result.{IfOk-weaker}
use Rattle.std.specs.Fmt.{decimal}
use Rattle.modes.specs.Bits.{modes_of}
use Rattle.detection.specs.Detection.{detect}
use Rattle.tychodrel.specs.Answer.{detect_answer}
use Rattle.requests.specs.Plain.{detect_by, detect_text}
use Rattle.requests.proofs.PlainLaws.{told-alone}
use Rattle.requests.proofs.plain.detect.Goals as goal

pub returns-in-Err : goal.returns-in-Err
returns-in-Err c =
    let r = c.args.asked.now in
    let a : ℕ = c.tychodrel_detect.result in
    let n : ℕ = c.in-Err.refusal.number in
    let p : ℕ = c.in-Err.refusal.place in
    let is = c.tychodrel_detect.ensures ∙ ap (λ (t : List ℕ). detect_answer (detect (modes_of r.modes) t)) c.deref.ensures.value in
    let told = told-alone a n p c.in-Err.ensures.0 (omega arith) c.in-Err.ensures.1 (codes "ok " ++ decimal a) in
    IfOk-weaker _ _ (λ s. string_bytes s ≡ detect_text r) (λ s text. text ∙ told ∙ ap detect_by is) c.format-in-Err.ensures.ok

pub returns-in-Ok : goal.returns-in-Ok
returns-in-Ok c = search rules
