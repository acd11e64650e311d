-- `put_outside`: the writes follow one another (`wrote-then`), and opening and closing around them frames the field (`wrote-field`).
use Rattle.writer.proofs.Wrote.{wrote-then, wrote-as, wrote-field}
use Rattle.metadata.proofs.EncodeLaws.{framed-leaf}
use Rattle.imports.proofs.note.put_outside.Goals as goal

pub returns : goal.returns
returns c =
    wrote-as
    (wrote-field c.open_field-content.ensures (wrote-then c.put_id-kind.ensures (wrote-then c.put-name.ensures c.put_id-p.ensures))
    c.close_field.ensures) (framed-leaf 0x20 _)
