-- `decode_row`: the invariant: what is left tells, onto what was told, what the whole row tells.
use mathlib.Core.Path.{sym, ap, ap₂, ◌∙◌}
use Rattle.tree.specs.Rows.{fields_of}
use Rattle.tree.specs.declared.row.Row.{Row}
use Rattle.metadata.specs.Metadata.{Metadata, merged, decode_from, decode}
use Rattle.metadata.specs.MetadataValue.{metadata_of}
use Rattle.metadata.proofs.DecodeLaws.{decode-more, decode-none}
use Rattle.metadata.proofs.ExportMetadata.decode_row.Goals as goal

pub loop-part-init : goal.loop-part-init
unfolding decode
loop-part-init c =
    ap₂ (λ (x : Metadata) (r : Row). decode_from x (fields_of r)) c.unset-m.ensures c.into_iter-part-iterator.ensures.into_iter_gives

pub loop-part-preserved : goal.loop-part-preserved
loop-part-preserved c =
    let l = c.loop-part in
    let m = metadata_of l.m in
    ap (λ (x : Metadata). decode_from x (fields_of c.next.new.self)) (c.merge-m.ensures ∙ ap (merged m) c.told.ensures)
    ∙ sym (decode-more l.part-iterator c.next.new.self m c.in-Some.part c.in-Some.ensures.steps) ∙ l.invariant

pub returns : goal.returns
returns c =
    let l = c.loop-part in
    sym (decode-none l.part-iterator c.next.new.self (metadata_of l.m) c.in-None.ensures.steps) ∙ l.invariant
