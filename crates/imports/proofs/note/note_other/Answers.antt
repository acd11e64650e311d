-- `note_other`: by whether `note_id` had room. `noted-as` says that the noted id is the one in the tree, `other-copied` that the copied
-- bytes are the encoding of a field that was read.
use Rattle.std.proofs.Common.{◌≡◌, Ok, Err, rules}
use native.Mathlib.Omega.{arith}
use Rattle.state.specs.declared.TableFull.{TableFull}
use Rattle.steps.specs.Refusal.{refusal}
use Rattle.steps.specs.declared.Why.TheVariants.{TableFull as no-room}
use Rattle.tree.specs.Layout.{four}
use Rattle.tree.specs.Rows.{tree_of}
use Rattle.imports.proofs.MadeLaws.{acts-made, acts-full}
use Rattle.imports.proofs.NoteLaws.{noted-as, other-copied}
use Rattle.imports.proofs.note.note_other.Goals as goal

pub id_at-requires : goal.id_at-requires
id_at-requires c =
    let a = c.requires in let b = c.args.part.now.whole.1 in omega arith

pub returns : goal.returns
returns c =
    let h : c.note_id.result ≡ Ok tt = search rules in
    acts-made c.args.part.now.at (tree_of c.args.part.now) (noted-as (four c.args.c.0) c.id_at.ensures c.note_id.ensures) h
    c.copy.ensures.size (other-copied c.args.part.now.of_bytes c.copy.ensures)

pub returns-in_err-map_err : goal.returns-in_err-map_err
returns-in_err-map_err c =
    let h : c.from_residual.result ≡ Err (refusal no-room c.args.part.now.at) = search rules in
    let k : (e : TableFull) × (c.note_id.result ≡ Err e) = search rules in
    rw h (acts-full c.args.part.now.at (tree_of c.args.part.now) (noted-as (four c.args.c.0) c.id_at.ensures c.note_id.ensures) k.1)
