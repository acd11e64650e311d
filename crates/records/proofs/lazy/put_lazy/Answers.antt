-- `put_lazy`: the writes follow one another (`wrote-then`), and opening and closing around them frames the field (`wrote-field`).
use Rattle.writer.proofs.Wrote.{wrote-then, wrote-as, wrote-field}
use Rattle.metadata.proofs.EncodeLaws.{framed-field}
use Rattle.records.proofs.lazy.put_lazy.Goals as goal

pub returns : goal.returns
returns c =
    wrote-as (wrote-field c.open_field-content.ensures (wrote-then c.put_literal-c.ensures c.put_placed-p.ensures) c.close_field.ensures) (framed-field 0x81 _ _)
