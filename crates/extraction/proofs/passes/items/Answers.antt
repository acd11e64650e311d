-- `items`: the invariant `Passing` says that the pass over the items that are left completes the pass over all of the row.
use mathlib.Core.Path.{◌≡◌}
use Rattle.std.proofs.Common.{Err, rules}
use Rattle.extraction.proofs.PassLaws.{passing-start, passing-over, passing-more, passing-turned}
use Rattle.extraction.proofs.passes.items.Goals as goal

pub loop-part-init : goal.loop-part-init
loop-part-init c =
    rw c.into_iter-part-iterator.ensures.into_iter_gives (passing-start c.args.row)

pub returns : goal.returns
returns c =
    let l = c.loop-part in
    passing-over l.part-iterator c.next.new.self l.invariant c.in-None.ensures.steps

pub loop-part-preserved : goal.loop-part-preserved
loop-part-preserved c =
    let l = c.loop-part in
    passing-more l.part-iterator c.next.new.self l.invariant c.in-Some.part c.in-Some.ensures.steps c.item.ensures c.in_ok-to.was

pub returns-in_err-to : goal.returns-in_err-to
returns-in_err-to c =
    let h : c.from_residual.result ≡ Err c.in_err-to.field-0.0 = search rules in
    let l = c.loop-part in
    rw h
    (passing-turned l.part-iterator c.next.new.self l.invariant c.in-Some.part c.in-Some.ensures.steps c.item.ensures c.in_err-to.was)
