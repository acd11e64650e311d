-- `close_field`: where the content starts at p or before and p is at most 65,538, its length is filled in (`closed-fills`); else the
-- definition too leaves the buffer as it is (`closed-long`).
use mathlib.Core.Path.{sym, ◌∙◌}
use native.Mathlib.Omega.{arith}
use Rattle.writer.proofs.Wrote.{closed-fills, closed-long}
use Rattle.writer.proofs.close_field.Goals as goal

pub returns-then-p-le-LONGEST : goal.returns-then-p-le-LONGEST
returns-then-p-le-LONGEST c =
    let start = c.saturating_add-c in
    let a = c.args in
    c.put_u16.ensures.bytes (omega arith)
    ∙ sym (closed-fills a.out.now a.o start.result a.p (omega arith) (omega arith) (omega arith))

pub returns-else-c-p : goal.returns-else-c-p
returns-else-c-p c =
    let a = c.args in
    sym (closed-long a.out.now a.o a.p (λ g h. omega arith))
