-- `put_attribute`: opening and closing around the header and the digits frames the field (`wrote-field`).
use Rattle.writer.proofs.Wrote.{wrote-then, wrote-field}
use Rattle.metadata.proofs.put_attribute.Goals as goal

pub returns : goal.returns
returns c =
    wrote-field c.open_field-content.ensures (wrote-then c.put_all-text.ensures c.put_decimal-p.ensures) c.close_field.ensures
