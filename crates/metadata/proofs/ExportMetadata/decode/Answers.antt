-- `decode`: by the verdict on what was lent.
use mathlib.Core.Path.{sym, ap, ◌∙◌}
use Rattle.std.proofs.lemmas.Result.{err_from_is_err_and}
use Rattle.tree.specs.Read.{fine}
use Rattle.tree.specs.Tree.{Fields}
use Rattle.metadata.specs.Calls.{attributes_in}
use Rattle.metadata.specs.Metadata.{decode}
use Rattle.tree.proofs.PartLaws.{fields-made}
use Rattle.metadata.proofs.CallsLaws.{decode-good, decode-refused}
use Rattle.metadata.proofs.ExportMetadata.decode.Goals as goal

pub returns-in_err-read_lent : goal.returns-in_err-read_lent
returns-in_err-read_lent c =
    let passed = err_from_is_err_and c.from_residual.result c.from_residual.ensures.1 in
    rw (passed.1, passed.2) (decode-refused c.args.attributes.now c.in_err-read_lent.field-0.0 (sym c.read_lent.ensures ∙ c.in_err-read_lent.was))

pub returns : goal.returns
returns c =
    let row = fields-made c.new.result c.new.ensures in
    ap fine (c.decode_parts.ensures ∙ ap (λ (fs : Fields). decode (attributes_in fs)) row) ∙ decode-good c.args.attributes.now (sym c.read_lent.ensures ∙ c.in_ok-read_lent.was)
