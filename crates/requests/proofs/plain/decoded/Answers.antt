-- `decoded`: the text by the second byte, and by whether the context is zero.
use Rattle.std.proofs.Common.{◌≡◌, ◌++◌, codes, string_bytes, sym, ap, ◌∙◌, arith}
use Rattle.std.proofs.lemmas.Result.{IfOk-weaker}
use Rattle.answer_text.proofs.LeftLaws.{zeros_is}
use Rattle.requests.specs.Plain.{context_in, metadata_text}
use Rattle.requests.proofs.PlainLaws.{no-context, some-context, not-zero, not-known}
use Rattle.requests.proofs.plain.decoded.Goals as goal
use Rattle.requests.proofs.plain.decoded.Goals.{in_default-via-in-0+else-is_zero, in_default-via-in_default-1}

pub returns-in-0 : goal.returns-in-0
returns-in-0 c =
    let b = c.args.metadata in
    let e = no-context b c.in-0.is (sym (zeros_is _ (context_in b) c.is_zero.ensures) ∙ c.if-is_zero.true) in
    IfOk-weaker _ _ (λ s. string_bytes s ≡ codes "ok " ++ metadata_text b) (λ s text. text ∙ sym (ap (λ l. codes "ok " ++ l) e)) c.format.ensures.ok

pub returns-in-1 : goal.returns-in-1
returns-in-1 c =
    let b = c.args.metadata in
    let e = some-context b c.in-1.is in
    IfOk-weaker _ _ (λ s. string_bytes s ≡ codes "ok " ++ metadata_text b) (λ s text. text ∙ sym (ap (λ l. codes "ok " ++ l) e)) c.format-in-1.ensures.ok

pub returns-in_default : goal.returns-in_default
returns-in_default c =
    let b = c.args.metadata in
    elim c.in_default.branch [
      | in_default-via-in-0+else-is_zero w ↦
          let e = not-zero b w.in-0.is (sym (zeros_is _ (context_in b) w.is_zero.ensures) ∙ w.if-is_zero.false) in
          IfOk-weaker _ _ (λ s. string_bytes s ≡ codes "ok " ++ metadata_text b) (λ s text. text ∙ sym (ap (λ l. codes "ok " ++ l) e)) c.format-in_default.ensures.ok
      | in_default-via-in_default-1 w ↦
          let e = not-known b (λ k. omega arith) (λ k. omega arith) in
          IfOk-weaker _ _ (λ s. string_bytes s ≡ codes "ok " ++ metadata_text b) (λ s text. text ∙ sym (ap (λ l. codes "ok " ++ l) e)) c.format-in_default.ensures.ok
    ]
