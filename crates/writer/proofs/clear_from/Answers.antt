-- `clear_from`: `fill` leaves zeros from n on (`zeroed-behind`); past the end there is nothing to zero (`zeroed-end`).
use mathlib.Core.Path.{sym}
use borrow.Author.Rules.{rules}
use native.Mathlib.Omega.{arith}
use Rattle.writer.proofs.Finished.{zeroed-behind, zeroed-end}
use Rattle.writer.proofs.clear_from.Goals as goal

pub returns-then-n-out : goal.returns-then-n-out
returns-then-n-out c =
    zeroed-behind c.args.out.now _ c.args.n (omega arith) (search rules)

pub returns-else-n-out : goal.returns-else-n-out
returns-else-n-out c =
    sym (zeroed-end c.args.out.now c.args.n (omega arith))
