-- `put_imports`: the invariant says that with the imports from here on those of the whole row are written.
-- `gathered-more` splits off one item.
use Rattle.tree.specs.Layout.{two}
use Rattle.tree.proofs.PartLaws.{fields-none, fields-more}
use Rattle.records.proofs.SpecifierLaws.{row-step, row-stop}
use Rattle.records.proofs.CollectedLaws.{gathered-end, gathered-more}
use Rattle.records.proofs.sources.put_imports.Goals as goal

pub returns : goal.returns
returns c =
    let a = c.args in
    row-stop c.loop-item.invariant
    (gathered-end a.wanted.namespaces (two a.wanted.value.0) (fields-none c.loop-item.item-iterator c.next.new.self c.in-None.ensures.steps))

pub loop-item-preserved : goal.loop-item-preserved
loop-item-preserved c =
    let a = c.args in
    let r = c.loop-item.item-iterator in
    let g = c.in-Some.ensures.steps in
    row-step r c.in-Some.item c.next.new.self g c.loop-item.invariant
    (gathered-more a.wanted.namespaces (two a.wanted.value.0) (fields-more r c.in-Some.item c.next.new.self g)) c.put_import-to.ensures
