-- `note_as`: by whether `note_id` had room. `as-made` and `as-full` put the export context into the rule.
use Rattle.std.proofs.Common.{◌≡◌, Ok, Err, rules}
use mathlib.Core.Path.{ap}
use Rattle.state.specs.declared.TableFull.{TableFull}
use Rattle.steps.specs.Refusal.{refusal}
use Rattle.steps.specs.declared.Why.TheVariants.{TableFull as no-room}
use Rattle.imports.proofs.NoteLaws.{as-made, as-full}
use Rattle.imports.proofs.note.note_as.Goals as goal

pub returns : goal.returns
returns c =
    let h : c.note_id.result ≡ Ok tt = search rules in
    as-made c.args.id c.args.name.0 c.args.n.0 c.args.at (ap (λ k. k.0) c.export_ctxt-c.ensures)
    c.note_id.ensures h c.put_outside.ensures

pub returns-in_err-map_err : goal.returns-in_err-map_err
returns-in_err-map_err c =
    let h : c.from_residual.result ≡ Err (refusal no-room c.args.at) = search rules in
    let k : (e : TableFull) × (c.note_id.result ≡ Err e) = search rules in
    rw h (as-full c.args.id c.args.name.0 c.args.n.0 c.args.at (ap (λ k. k.0) c.export_ctxt-c.ensures) c.note_id.ensures k.1)
