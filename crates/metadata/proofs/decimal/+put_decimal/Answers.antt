-- `put_decimal`: one digit, or the others and then the last. The number falls.
use mathlib.Core.Path.{sym}
use Rattle.writer.proofs.Wrote.{wrote-then, wrote-as}
use Rattle.metadata.proofs.DecimalLaws.{decimal-digit, decimal-more}
use Rattle.metadata.proofs.decimal.+put_decimal.Goals as goal

pub returns-then-n-lt10 : goal.returns-then-n-lt10
returns-then-n-lt10 t c =
    wrote-as c.put.ensures (sym (decimal-digit c.args.n c.if-n-lt10.true))

pub returns : goal.returns
returns t c =
    wrote-as (wrote-then c.put_decimal-last.ensures c.put-2.ensures) (sym (decimal-more c.args.n c.if-n-lt10.false))
