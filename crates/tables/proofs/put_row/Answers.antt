-- `put_row`: the two stores are a row anew (`row-put`).
use Rattle.tables.proofs.RowLaws.{row-put}
use Rattle.tables.proofs.put_row.Goals as goal

pub returns : goal.returns
returns c =
    row-put c.args.base c.args.i c.args.key c.args.value c.args.t.now c.requires
