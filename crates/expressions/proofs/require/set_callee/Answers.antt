-- `set_callee`: `callee-set` says that four stores at o + 8 turn the written call into the one with the new context.
-- `callee-past` says that nothing need be stored where o + 8 is past the end of the buffer.
use native.Mathlib.Omega.{arith}
use mathlib.Core.Path.{ap}
use Rattle.scope.specs.declared.id.SyntaxContext.{SyntaxContext}
use Rattle.expressions.proofs.CalleeLaws.{callee-past, callee-set}
use Rattle.expressions.proofs.require.set_callee.Goals as goal

pub returns-then-o-out : goal.returns-then-o-out
returns-then-o-out c =
    callee-set c.args.n.0 c.args.o (ap (λ (x : SyntaxContext). x.0) c.export_ctxt.ensures) (omega arith) c.put_u32.ensures

pub returns-else-out-ge8 : goal.returns-else-out-ge8
returns-else-out-ge8 c =
    callee-past c.args.n.0 c.args.o (omega arith)
