-- `specifier_of`: by the tag: 20, 21 or 22; each has its law of NoteLaws.
-- `specifier-id` and `outside-room` say that the id and the outside name lie within the fixed bytes.
use Rattle.std.proofs.Common.{◌≡◌, rules}
use native.Mathlib.Omega.{arith}
use mathlib.Core.Path.{sym, ◌∙◌}
use Rattle.tree.proofs.PartLaws.{part_tag}
use Rattle.imports.proofs.WidthLaws.{framing, framed-in}
use Rattle.imports.proofs.NoteLaws.{specifier-id, outside-room, specifier-named, specifier-default, specifier-namespace}
use Rattle.imports.proofs.note.specifier_of.Goals as goal

pub id_at-id-requires : goal.id_at-id-requires
id_at-id-requires c =
    let h = specifier-id (framing c.args.part.now c.requires.0.1) c.requires.1 c.requires.2 in let i = framed-in (framing c.args.part.now c.requires.0.1) in omega arith

pub outside_at-requires : goal.outside_at-requires
outside_at-requires c =
    outside-room (framing c.args.part.now c.requires.0.1) (sym c.tag.ensures ∙ c.in-32.is)

pub returns-in-32 : goal.returns-in-32
returns-in-32 c =
    specifier-named (framing c.args.part.now c.requires.0.1) (sym c.tag.ensures ∙ c.in-32.is) c.id_at-id.result c.outside_at.result c.id_at-id.ensures c.outside_at.ensures

pub returns-in-33 : goal.returns-in-33
returns-in-33 c =
    specifier-default (framing c.args.part.now c.requires.0.1) c.id_at-id.result (sym c.tag.ensures ∙ c.in-33.is) c.id_at-id.ensures

pub returns-in_default : goal.returns-in_default
returns-in_default c =
    specifier-namespace (framing c.args.part.now c.requires.0.1) c.id_at-id.result
    (let a : part_tag c.args.part.now ≡ 0x20 → ⊥ = search rules in
    let b : part_tag c.args.part.now ≡ 0x21 → ⊥ = search rules in
    let l = c.requires.1 in
    let m = c.requires.2 in
    omega arith)
    c.id_at-id.ensures
