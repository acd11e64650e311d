-- `decode_parts`: the parts of the first field, if one is whole.
use mathlib.Core.Path.{sym, ◌∙◌}
use Prim.Native.Nat.{◌+◌}
use Rattle.tree.proofs.AccessLaws.{upto-in}
use Rattle.metadata.proofs.DecodeLaws.{parts-upto, parts-short, parts-none}
use Rattle.metadata.proofs.ExportMetadata.decode_parts.Goals as goal

pub returns-in_default : goal.returns-in_default
returns-in_default c =
    c.unset.ensures ∙ parts-none c.args.row c.next.new.self c.in_default.ensures.steps

pub row-requires : goal.row-requires
row-requires c =
    let p = c.in-Some.part in
    (upto-in p.bytes.now _ (p.at + 3) p.stop p.whole.0 (sym c.fixed.ensures ∙ c.in-Some-fixed.is)).1

pub returns-in-Some-fixed : goal.returns-in-Some-fixed
returns-in-Some-fixed c =
    let p = c.in-Some in
    c.decode_row.ensures ∙ parts-upto c.args.row c.next.new.self p.part p.ensures.steps c.row.result (sym c.fixed.ensures ∙ c.in-Some-fixed.is) c.row.ensures

pub returns-in-None : goal.returns-in-None
returns-in-None c =
    let p = c.in-Some in
    c.unset-in-None.ensures ∙ parts-short c.args.row c.next.new.self p.part p.ensures.steps (sym c.fixed.ensures ∙ c.in-None.is)
