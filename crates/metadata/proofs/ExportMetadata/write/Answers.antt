-- `write`: a field with the old content and the new.
use mathlib.Core.Path.{ap}
use mathlib.Core.List.{List, ◌++◌}
use Prim.Native.Nat.{ℕ}
use lib.ListN.{drop}
use lib.Seq.{take-length}
use Rattle.writer.specs.Bytes.{framed}
use Rattle.writer.proofs.Wrote.{wrote-then, wrote-as, wrote-field}
use Rattle.tree.specs.Tree.{encodes}
use Rattle.metadata.specs.Metadata.{attributes_for}
use Rattle.metadata.specs.MetadataValue.{metadata_of}
use Rattle.metadata.proofs.ExportMetadata.write.Goals as goal

pub returns : goal.returns
returns c =
    wrote-as (wrote-field c.open_field-content.ensures (wrote-then c.copy-p.ensures c.put-end.ensures) c.close_field.ensures)
    (ap (λ (x : List ℕ). framed 0x2F (drop 3 x ++ encodes (attributes_for (metadata_of c.args.self))))
    (take-length c.args.attributes.now))
