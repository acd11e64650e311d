-- `deliver_records`: what `put_records` wrote, `finish` holds to the buffer (`records-delivered`).
use Rattle.extraction.proofs.HeldLaws.{records-delivered}
use Rattle.extraction.proofs.deliver_records.Goals as goal

pub returns : goal.returns
returns c =
    records-delivered c.args.tree.now c.args.work.now c.args.out.now c.put_records-n.ensures c.finish.ensures
