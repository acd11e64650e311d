-- `decode_row`: the invariant: what is left tells, onto what was told, what the whole row tells.
use mathlib.Core.Path.{◌≡◌}
use Rattle.tree.specs.Rows.{fields_of}
use Rattle.metadata.specs.Metadata.{decode_from, decode}
use Rattle.metadata.specs.MetadataValue.{metadata_of}
use Rattle.metadata.proofs.ExportMetadata.decode_row.Given as goal

abbrev pub invariant-loop-part : goal.invariant-loop-part
invariant-loop-part l = decode_from (metadata_of l.m) (fields_of l.part-iterator) ≡ decode (fields_of l.initial.row)
