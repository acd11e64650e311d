-- `encode`: by the verdict on what was lent, and by the room.
use mathlib.Core.Path.{sym, ◌∙◌}
use Rattle.tree.specs.Layout.{Bytes}
use Rattle.metadata.specs.MetadataValue.{metadata_of}
use Rattle.metadata.proofs.CallsLaws.{encode-done, encode-short, encode-refused}
use Rattle.metadata.proofs.ExportMetadata.encode.Goals as goal

pub returns-then-finish : goal.returns-then-finish
returns-then-finish c =
    let a = c.args in
    let bytes : Bytes a.attributes.now = λ i. (c.type_inv.attributes i).fits in
    let good = sym c.read_lent.ensures ∙ c.in_default.is in
    encode-done a.attributes.now (metadata_of a.self) bytes good c.write-n.ensures
    c.finish.ensures c.if-finish.true

pub returns-else-finish : goal.returns-else-finish
returns-else-finish c =
    let a = c.args in
    let bytes : Bytes a.attributes.now = λ i. (c.type_inv.attributes i).fits in
    let good = sym c.read_lent.ensures ∙ c.in_default.is in
    encode-short a.attributes.now (metadata_of a.self) bytes good c.write-n.ensures
    c.finish.ensures c.if-finish.false

pub returns-in-Err : goal.returns-in-Err
returns-in-Err c =
    let a = c.args in
    encode-refused a.attributes.now (metadata_of a.self) c.clear.ensures c.in-Err.unread (sym c.read_lent.ensures ∙ c.in-Err.is)
