-- `put_forced`: the invariant says that with the sources from i on all of them are written; `forced-more` splits off the one at i.
use lib.ListN.{drop}
use native.Mathlib.Omega.{arith}
use Rattle.writer.proofs.Wrote.{wrote-as, wrote-field}
use Rattle.records.proofs.OnwardLaws.{onward-step, onward-end, drop-end}
use Rattle.records.proofs.LazyLaws.{forced-more, forced-none, forced-field}
use Rattle.records.proofs.lazy.put_forced.Goals as goal

pub loop-i-preserved : goal.loop-i-preserved
loop-i-preserved c =
    onward-step c.loop-i.invariant (λ x s w k. forced-more c.forced_at.result.0 c.forced_at.ensures x s w)
    (wrote-as (wrote-field c.open_field-source.ensures c.put_u16-p.ensures c.close_field.ensures)
    (forced-field c.forced_at.result.0 (omega arith)))

pub returns : goal.returns
returns c =
    onward-end c.loop-i.invariant
    (λ x s w k. forced-none (drop c.loop-i.i s.forced)
    (drop-end (λ s. s.forced) c.loop-i.i c.count_forced-i-end.ensures.0 (omega arith) x s w))
