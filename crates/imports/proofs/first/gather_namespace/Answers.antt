-- `gather_namespace`: by whether the field is a 22: then its id is the record's next namespace (`extending-is`).
-- `extending-other` says that another field adds none.
use Rattle.tree.specs.Rows.{tree_of}
use Rattle.imports.proofs.GatherLaws.{extending-is, extending-other}
use Rattle.imports.proofs.first.gather_namespace.Goals as goal

pub returns-in_default : goal.returns-in_default
returns-in_default c =
    extending-other c.args.i (tree_of c.args.part.now) c.namespace_of.result
    c.namespace_of.ensures c.in_default.is

pub returns-in-Some : goal.returns-in-Some
returns-in-Some c =
    extending-is c.args.i (tree_of c.args.part.now) c.namespace_of.result
    c.namespace_of.ensures c.in-Some.id c.in-Some.is c.add_namespace.ensures
