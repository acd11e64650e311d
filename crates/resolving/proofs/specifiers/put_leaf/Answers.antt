-- `put_leaf`: opening and closing around the two runs frames the field (`wrote-field`).
use Rattle.writer.proofs.Wrote.{wrote-as, wrote-then, wrote-field}
use Rattle.resolving.proofs.WritesLaws.{framed-leaf}
use Rattle.resolving.proofs.specifiers.put_leaf.Goals as goal

pub returns : goal.returns
returns c =
    wrote-as (wrote-field c.open_field-content.ensures (wrote-then c.put_all-rest.ensures c.put_all-p.ensures) c.close_field.ensures) (framed-leaf c.args.tag _)
