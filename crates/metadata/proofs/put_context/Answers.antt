-- `put_context`: the attribute's bytes are those of the field by the rule (`context-bytes`).
use Rattle.writer.proofs.Wrote.{wrote-as}
use Rattle.metadata.proofs.EncodeLaws.{context-bytes}
use Rattle.metadata.proofs.put_context.Goals as goal

pub returns : goal.returns
returns c =
    wrote-as c.put_attribute.ensures (context-bytes c.args.ctxt.0)
