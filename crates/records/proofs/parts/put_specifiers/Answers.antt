-- `put_specifiers`: the invariant says that with the specifiers from here on all of them are written; `bytes-more` splits off one part.
use Rattle.records.proofs.SpecifierLaws.{bytes-none, bytes-more, row-step, row-stop}
use Rattle.records.proofs.parts.put_specifiers.Goals as goal

pub returns : goal.returns
returns c =
    row-stop c.loop-part.invariant (bytes-none c.args.namespaces c.loop-part.part-iterator c.next.new.self c.in-None.ensures.steps)

pub loop-part-preserved : goal.loop-part-preserved
loop-part-preserved c =
    let r = c.loop-part.part-iterator in
    let g = c.in-Some.ensures.steps in
    row-step r c.in-Some.part c.next.new.self g c.loop-part.invariant
    (bytes-more c.args.namespaces r c.in-Some.part c.next.new.self g) c.put_specifier-to.ensures
