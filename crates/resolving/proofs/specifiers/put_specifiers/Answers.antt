-- `resolving::specifiers::put_specifiers`: the invariant: with the specifiers from here on, all of them are
-- written.
use Rattle.std.proofs.lemmas.Result.{err_from_is_err_and}
use Rattle.resolving.proofs.RecordsLaws.{fields-next}
use Rattle.resolving.proofs.WritesLaws.{onward-end, onward-more, onward-stop}
use Rattle.resolving.proofs.SpecifiersLaws.{specifiers-end, specifiers-more}
use Rattle.resolving.proofs.specifiers.put_specifiers.Goals as goal

pub put_specifier-requires : goal.put_specifier-requires
put_specifier-requires c =
    let l = c.loop-part in
    (fields-next l.part-iterator c.in-Some.part c.next.new.self c.in-Some.ensures.steps l.invariant.1).0

pub loop-part-preserved : goal.loop-part-preserved
loop-part-preserved c =
    let l = c.loop-part in
    let g = c.in-Some.ensures.steps in
    let w = fields-next l.part-iterator c.in-Some.part c.next.new.self g l.invariant.1 in
    let more = specifiers-more c.args.all l.part-iterator c.next.new.self g w.0 in
    (onward-more l.invariant.0 more c.put_specifier.ensures c.in_ok-to.was, w.1)

pub returns-in_err-to : goal.returns-in_err-to
returns-in_err-to c =
    let l = c.loop-part in
    let g = c.in-Some.ensures.steps in
    let w = fields-next l.part-iterator c.in-Some.part c.next.new.self g l.invariant.1 in
    let more = specifiers-more c.args.all l.part-iterator c.next.new.self g w.0 in
    let passed = err_from_is_err_and c.from_residual.result c.from_residual.ensures.1 in
    rw (passed.1, passed.2) (onward-stop l.invariant.0 more c.put_specifier.ensures c.in_err-to.was)

pub returns : goal.returns
returns c =
    let l = c.loop-part in
    onward-end l.invariant.0 (specifiers-end c.args.all l.part-iterator c.next.new.self c.in-None.ensures.steps)
