-- `put_named`: a field is opened, the id and a 0 written, and the field closed (`wrote-field`); what stands there encodes a 20 without
-- parts (`framed-leaf`).
use Rattle.writer.proofs.Wrote.{wrote-then, wrote-as, wrote-field}
use Rattle.metadata.proofs.EncodeLaws.{framed-leaf}
use Rattle.state.proofs.ident.put_named.Goals as goal

pub returns : goal.returns
returns c =
    wrote-as (wrote-field c.open_field-c.ensures (wrote-then c.put_id-k.ensures c.put-p.ensures) c.close_field.ensures) (framed-leaf 0x20 _)
