-- `put_lazies`: the invariant says that with the lazy records from i on all of them are written; `lazy-more` splits off the one at i.
use lib.ListN.{drop}
use native.Mathlib.Omega.{arith}
use Rattle.records.proofs.OnwardLaws.{onward-step, onward-end, drop-end}
use Rattle.records.proofs.LazyLaws.{lazy-more, record-none}
use Rattle.records.proofs.lazy.put_lazies.Goals as goal

pub loop-i-preserved : goal.loop-i-preserved
loop-i-preserved c =
    onward-step c.loop-i.invariant
    (lazy-more c.args.tree.now c.args.work.now c.lazy_literal-literal.result c.lazy_place-place.result c.lazy_literal-literal.ensures
    c.lazy_place-place.ensures.1) c.put_lazy-to.ensures

pub returns : goal.returns
returns c =
    onward-end c.loop-i.invariant
    (λ x s w k. record-none 0x81 (drop c.loop-i.i s.lazy)
    (drop-end (λ s. s.lazy) c.loop-i.i c.count_lazies-i-end.ensures.0 (omega arith) x s w))
