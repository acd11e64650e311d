-- `exported_name`: by the kind byte at at + 10; the two laws of ExportLaws say which two bytes are the exported name.
use native.Mathlib.Omega.{arith}
use Rattle.imports.proofs.ExportLaws.{exported-given, exported-filled}
use Rattle.imports.proofs.export.exported_name.Goals as goal

pub atom_at-requires : goal.atom_at-requires
atom_at-requires c =
    let h = c.requires.1 c.if-part-eq1.true in omega arith

pub returns-then-part-eq1 : goal.returns-then-part-eq1
returns-then-part-eq1 c =
    exported-given c.args.part.now.bytes.now c.args.part.now.at c.args.part.now.of_bytes c.if-part-eq1.true (c.requires.1 c.if-part-eq1.true) c.atom_at.ensures

pub returns-else-part-eq1 : goal.returns-else-part-eq1
returns-else-part-eq1 c =
    exported-filled c.args.part.now.bytes.now c.args.part.now.at c.args.part.now.of_bytes c.if-part-eq1.false c.requires.0 c.atom_at-else-part-eq1.ensures
