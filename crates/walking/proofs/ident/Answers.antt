-- `ident`: a 60 that was read has nine bytes (`ident-short`); what is forced and written is what the walk makes of it (`ident-written`).
use Rattle.walking.proofs.ExpressionLaws.{ident-short, ident-written}
use Rattle.walking.proofs.ident.Goals as goal

pub returns-then-part : goal.returns-then-part
returns-then-part c =
    let p = c.args.part.now in
    ident-short p.bytes.now p.at p.stop _ _ c.requires c.if-part.true

pub returns : goal.returns
returns c =
    let p = c.args.part.now in
    ident-written p.bytes.now p.at p.stop c.args.object c.id_at-id.result c.requires c.if-part.false c.id_at-id.ensures c.force_first.ensures
    c.put_ident.ensures
