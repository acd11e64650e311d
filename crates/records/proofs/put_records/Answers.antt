-- `put_records`: one way; `records-written` joins the three runs of records into the encoding of the whole tree.
use native.Mathlib.Omega.{arith}
use Rattle.records.proofs.CollectedLaws.{records-written}
use Rattle.records.proofs.put_records.Goals as goal

pub returns : goal.returns
returns c =
    records-written c.args.tree.now c.args.work.now c.args.out.now c.open_field-content.ensures c.put_collected-lazies.ensures
    c.put_lazies-forced.ensures c.put_forced-p.ensures c.close_field.ensures (omega arith)
