-- `gather_namespaces`: the invariant `Filling` says that gathering the fields that are left completes gathering those of the whole row.
-- `filling-more` takes one field; `filling-end` says that none is left.
use Rattle.tree.specs.Rows.{fields_of}
use Rattle.imports.proofs.GatherLaws.{filling-start, filling-more, filling-end}
use Rattle.imports.proofs.first.gather_namespaces.Goals as goal

pub loop-part-init : goal.loop-part-init
loop-part-init c =
    rw c.into_iter-part-iterator.ensures.into_iter_gives (filling-start c.args.i (fields_of c.args.row) c.requires)

pub returns : goal.returns
returns c =
    filling-end c.args.i c.loop-part.part-iterator c.next.new.self c.loop-part.invariant c.in-None.ensures.steps

pub gather_namespace-requires : goal.gather_namespace-requires
gather_namespace-requires c =
    c.loop-part.invariant.below

pub loop-part-preserved : goal.loop-part-preserved
loop-part-preserved c =
    filling-more c.args.i c.loop-part.part-iterator c.next.new.self c.loop-part.invariant c.in-Some.part c.in-Some.ensures.steps c.gather_namespace.ensures
