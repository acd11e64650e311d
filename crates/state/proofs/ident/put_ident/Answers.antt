-- `put_ident`: a field is opened, the id written, and the field closed (`wrote-field`); what stands there encodes a 60 without parts
-- (`framed-leaf`).
use Rattle.writer.proofs.Wrote.{wrote-as, wrote-field}
use Rattle.metadata.proofs.EncodeLaws.{framed-leaf}
use Rattle.state.proofs.ident.put_ident.Goals as goal

pub returns : goal.returns
returns c =
    wrote-as (wrote-field c.open_field-c.ensures c.put_id-p.ensures c.close_field.ensures) (framed-leaf 0x60 _)
