-- `put_exported`: the writes follow one another (`wrote-then`), and opening and closing around them frames the field (`wrote-field`).
use mathlib.Core.Path.{ap, ◌∙◌}
use mathlib.Core.List.{List, ◌∷◌, ◌++◌}
use Prim.Native.Nat.{ℕ, ◌+◌}
use lib.Seq.{slice}
use Rattle.tree.specs.Layout.{four}
use Rattle.tree.specs.Tree.{encode, field, none}
use Rattle.writer.proofs.Wrote.{wrote-then, wrote-as, wrote-field}
use Rattle.metadata.proofs.EncodeLaws.{framed-leaf}
use Rattle.imports.proofs.export.put_exported.Goals as goal

pub returns : goal.returns
returns c =
    wrote-as
    (wrote-field c.open_field-content.ensures (wrote-then c.copy-kind.ensures (wrote-then c.put-name.ensures c.put_id-p.ensures))
    c.close_field.ensures)
    (framed-leaf 0x23 _
    ∙ ap (λ (b : List ℕ). encode (field 0x23 (slice (c.args.part.now.at + 3) (c.args.part.now.at + 10) c.args.part.now.bytes.now ++ 1 ∷ (b ++ four c.args.c.0)) none)) c.exported_name.ensures)
