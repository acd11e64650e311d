-- `export_specifier`: each return has its law of ExportLaws: one of the two names is a string, or the 23 is written with the id forced.
-- `export-first`, `export-second` and `export-room` say how long a 23's fixed bytes are; so the reads are in bounds.
-- The own module is asked after the id is forced: the array shows it then as before.
use native.Mathlib.Omega.{arith}
use mathlib.Core.Path.{ap}
use Rattle.imports.proofs.WidthLaws.{framing-as, framed-in}
use Rattle.imports.proofs.ExportLaws.{export-first, export-second, export-room, export-string, export-outside, export-made}
use Rattle.imports.proofs.export.export_specifier.Goals.{then-part-at-eq2-via-then-part-at-eq2, then-part-at-eq2-via-else-part-at-eq2+then-part-at-eq2-2}
use Rattle.imports.proofs.export.export_specifier.Goals as goal

pub bounds-part-at : goal.bounds-part-at
bounds-part-at c =
    let w = framing-as c.args.part.now c.requires.0 c.requires.1 in
    let h = export-first c.requires.0 w in
    let i = framed-in w in
    omega arith

pub returns-then-part-at-eq2 : goal.returns-then-part-at-eq2
returns-then-part-at-eq2 c =
    let w = framing-as c.args.part.now c.requires.0 c.requires.1 in
    elim c.then-part-at-eq2.branch [
      | then-part-at-eq2-via-then-part-at-eq2 v ↦ export-string c.requires.0 w v.if-part-at-eq2.true
      | then-part-at-eq2-via-else-part-at-eq2+then-part-at-eq2-2 v ↦ export-outside c.requires.0 w v.if-part-at-eq2.false v.if-part-at-eq2-2.true
    ]

pub bounds-part-at-else-part-at-eq2 : goal.bounds-part-at-else-part-at-eq2
bounds-part-at-else-part-at-eq2 c =
    let w = framing-as c.args.part.now c.requires.0 c.requires.1 in
    let h = export-second c.requires.0 w c.if-part-at-eq2.false in
    let i = framed-in w in
    omega arith

pub id_at-requires : goal.id_at-requires
id_at-requires c =
    let w = framing-as c.args.part.now c.requires.0 c.requires.1 in
    let h = export-second c.requires.0 w c.if-part-at-eq2.false in
    let i = framed-in w in
    omega arith

pub put_exported-requires : goal.put_exported-requires
put_exported-requires c =
    export-room c.requires.0 (framing-as c.args.part.now c.requires.0 c.requires.1) c.if-part-at-eq2.false

pub returns : goal.returns
returns c =
    export-made c.requires.0 (framing-as c.args.part.now c.requires.0 c.requires.1) c.if-part-at-eq2.false
    c.id_at.result c.if-part-at-eq2-2.false c.id_at.ensures c.force_id.ensures c.own_module-own.ensures
    (ap (λ k. k.0) c.local_ctxt.ensures) c.put_exported.ensures
