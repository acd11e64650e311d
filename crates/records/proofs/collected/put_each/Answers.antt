-- `put_each`: the invariant says that with the records from i on all of them are written; `collected-more` splits off the record at i.
use lib.ListN.{drop}
use native.Mathlib.Omega.{arith}
use Rattle.records.specs.Writes.{items_in}
use Rattle.records.proofs.OnwardLaws.{onward-end, drop-end}
use Rattle.records.proofs.CollectedLaws.{onward-if, valued-by, collected-more, collected-none}
use Rattle.records.proofs.collected.put_each.Goals as goal

pub loop-i-preserved : goal.loop-i-preserved
loop-i-preserved c =
    let a = c.args in
    let l = c.record_literal-literal in
    onward-if c.loop-i.invariant
    (λ x s w k. (
      (k.1, valued-by a.tree.now a.work.now l.result l.ensures.0 l.ensures.1 s w k.0),
      collected-more a.tree.now a.work.now l.result l.ensures.0 a.out.now c.is_forced.result l.ensures.1 c.is_forced.ensures s w k.0,
    ))
    c.put_record-to.ensures

pub returns : goal.returns
returns c =
    onward-end c.loop-i.invariant
    (λ x s w k. collected-none (items_in c.args.work.now) (items_in c.args.out.now) s.forced
    (drop c.loop-i.i s.collected)
    (drop-end (λ s. s.collected) c.loop-i.i c.count_records-i-end.ensures.0 (omega arith) x s w))
