-- How the code keeps metadata, what its structs stand for, and how it writes it.
use Rattle.std.specs.Prelude.{ℕ, Option, None, Some, List, ◌++◌, drop}
use Rattle.scope.specs.declared.id.SyntaxContext.{SyntaxContext}
use Rattle.writer.specs.Bytes.{framed}
use Rattle.tree.specs.Tree.{encodes}
use Rattle.metadata.specs.declared.ExportMetadata.{ExportMetadata}
use Rattle.metadata.specs.Metadata.{Metadata, attributes_for}

abbrev pub context_of : Option SyntaxContext → Option ℕ
context_of None = None
context_of (Some c) = Some c.0

abbrev pub metadata_of : ExportMetadata → Metadata
metadata_of m = record { injected = m.injected; context = context_of m.export_ctxt }

-- the content that was lent, and what the metadata adds, as one 2F
abbrev pub written_bytes : Metadata → List ℕ → List ℕ
written_bytes m s = framed 0x2F (drop 3 s ++ encodes (attributes_for m))
