-- `both`: the text is of what both calls have left; where extraction refuses, no other call is told of.
use Rattle.std.proofs.Common.{ℕ, ◌≡◌, List, ◌∷◌, ◌++◌, codes, Result, Ok, sym, ap, ◌∙◌, string_bytes}
use Rattle.std.proofs.lemmas.Result.{IfOk-weaker}
use Rattle.answer_text.specs.Modules.{scope_text}
use Rattle.answer_text.specs.declared.Refusal.{Refusal}
use Rattle.scoped_requests.specs.Texts.{extracted_text, resolved_text, both_by, both_text}
use Rattle.scoped_requests.specs.declared.extracting.Extracted.{Extracted}
use Rattle.scoped_requests.specs.declared.listing.Resolved.{Resolved}
use Rattle.scoped_requests.proofs.pair.both.Goals as goal

pub returns-in-Err : goal.returns-in-Err
returns-in-Err c =
    let l : Extracted = c.in_ok-left.left in
    let n : Resolved = record { outcome = l.outcome; scope = l.scope; list = l.records } in
    let told = ap (λ (o : Result ℕ Refusal). both_by l n o n.outcome) c.in-Err.is in
    IfOk-weaker _ _ (λ s. (l : Extracted) × (n : Resolved) × (string_bytes s ≡ both_text l n)) (λ s text. (l, n, text ∙ sym told)) c.refused.ensures

pub returns-in-Ok : goal.returns-in-Ok
returns-in-Ok c =
    let l : Extracted = c.in_ok-left.left in
    let n : Resolved = c.in_ok-next.next in
    let told =
    ap (λ (o : Result ℕ Refusal). both_by l n o n.outcome) c.in_default.is
    ∙ ap (λ (o : Result ℕ Refusal). both_by l n (Ok c.in_default.field-0) o) c.in-Ok.is in
    let behind = ap (λ (b : List ℕ). codes "ok " ++ (extracted_text l ++ (b ++ 32 ∷ (resolved_text n ++ 32 ∷ scope_text n.scope.0)))) c.behind.ensures in
    IfOk-weaker _ _ (λ s. (l : Extracted) × (n : Resolved) × (string_bytes s ≡ both_text l n)) (λ s text. (l, n, text ∙ behind ∙ sym told)) c.format.ensures.ok

pub returns : goal.returns
returns c =
    let l : Extracted = c.in_ok-left.left in
    let n : Resolved = c.in_ok-next.next in
    let told =
    ap (λ (o : Result ℕ Refusal). both_by l n o n.outcome) c.in_default.is
    ∙ ap (λ (o : Result ℕ Refusal). both_by l n (Ok c.in_default.field-0) o) c.in-Err-outcome.is in
    IfOk-weaker _ _ (λ s. (l : Extracted) × (n : Resolved) × (string_bytes s ≡ both_text l n)) (λ s text. (l, n, text ∙ sym told)) c.refused-in-Err-outcome.ensures
