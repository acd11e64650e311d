-- `gather_namespaces`: the invariant `Filling` says that gathering the fields that are left completes gathering those of the whole row.
-- `filling-more` takes one field; `filling-end` says that none is left.
use Rattle.tree.specs.Rows.{fields_of}
use Rattle.imports.proofs.GatherLaws.{Filling}
use Rattle.imports.proofs.first.gather_namespaces.Given as goal

abbrev pub invariant-loop-part : goal.invariant-loop-part
invariant-loop-part l = Filling l.i (fields_of l.initial.row) l.initial.t.cells l.t.cells (fields_of l.part-iterator)
