-- `resolve`: the text is of what the call has left.
use Rattle.std.proofs.Common.{◌≡◌, string_bytes}
use Rattle.std.proofs.lemmas.Result.{IfOk-weaker}
use Rattle.scoped_requests.specs.Texts.{resolve_text}
use Rattle.scoped_requests.specs.declared.listing.Resolved.{Resolved}
use Rattle.scoped_requests.proofs.listing.resolve.Goals as goal

pub returns : goal.returns
returns c = IfOk-weaker _ _ (λ s. (l : Resolved) × (string_bytes s ≡ resolve_text l)) (λ s text. (c.in_ok-call.field-0, text)) c.answer.ensures
