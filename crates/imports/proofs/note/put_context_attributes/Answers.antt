-- `put_context_attributes`: one way; `context-put` says that the old attributes and the context one, framed as a 2F, are `with_metadata`.
use mathlib.Core.Path.{ap}
use Rattle.imports.proofs.AttributesLaws.{context-put}
use Rattle.imports.proofs.note.put_context_attributes.Goals as goal

pub returns : goal.returns
returns c =
    context-put c.args.n.0 (ap (λ c. c.0) c.export_ctxt.ensures) c.open_field-content.ensures c.put_attributes-old.ensures
    c.put_context-p.ensures c.close_field.ensures
