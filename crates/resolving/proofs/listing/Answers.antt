-- `listing`: by whether `put_list` refused and then by whether the list fits; each return has its law of AnswerLaws.
use Rattle.scope.specs.ScopeValue.{modules_of}
use Rattle.resolving.proofs.AnswerLaws.{list-turned, list-fits, list-long}
use Rattle.resolving.proofs.listing.Goals as goal

pub returns-then-finish-clause-list : goal.returns-then-finish-clause-list
returns-then-finish-clause-list c =
    list-fits c.args.table.now c.args.records.now (modules_of c.args.scope) c.put_list.ensures c.in-Ok.is c.finish.ensures c.if-finish.true

pub returns-else-finish-clause-list : goal.returns-else-finish-clause-list
returns-else-finish-clause-list c =
    list-long c.args.table.now c.args.records.now (modules_of c.args.scope) c.put_list.ensures c.in-Ok.is c.finish.ensures c.if-finish.false

pub returns-in-Err-clause-list : goal.returns-in-Err-clause-list
returns-in-Err-clause-list c =
    list-turned c.args.table.now c.args.records.now (modules_of c.args.scope) c.put_list.ensures c.in-Err.is c.clear.ensures
