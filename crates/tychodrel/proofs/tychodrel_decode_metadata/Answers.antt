-- `tychodrel_decode_metadata`: by whether `decode` was done or broke off; its contract, with that answer put in, gives number and bytes.
use Rattle.std.specs.Prelude.{Result}
use Rattle.tree.specs.Read.{Unread}
use Rattle.metadata.specs.declared.ExportMetadata.{ExportMetadata}
use mathlib.Core.Path.{sym, ◌∙◌, ap}
use Rattle.metadata.specs.Calls.{decoded}
use Rattle.tychodrel.specs.Answer.{decode_answer_of, metadata_bytes}
use Rattle.tychodrel.proofs.tychodrel_decode_metadata.Goals as goal

pub returns-in-Ok : goal.returns-in-Ok
returns-in-Ok c = (
  sym (ap (λ (r : Result ExportMetadata Unread). decode_answer_of (decoded r)) c.in-Ok.is) ∙ ap decode_answer_of c.decode.ensures,
  c.bytes_of.ensures ∙ sym (ap (λ (r : Result ExportMetadata Unread). metadata_bytes (decoded r)) c.in-Ok.is) ∙ ap metadata_bytes c.decode.ensures,
)

pub returns-in-Err : goal.returns-in-Err
returns-in-Err c = (
  c.unread_answer.ensures
      ∙ sym (ap (λ (r : Result ExportMetadata Unread). decode_answer_of (decoded r)) c.in-Err.is)
      ∙ ap decode_answer_of c.decode.ensures,
  sym (ap (λ (r : Result ExportMetadata Unread). metadata_bytes (decoded r)) c.in-Err.is) ∙ ap metadata_bytes c.decode.ensures,
)
