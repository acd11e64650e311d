-- `resolve_front`: one way; `front-resolved` says that the part up to `end` is the field at the front of the buffer.
use Rattle.corollaries.proofs.PairLaws.{front-resolved}
use lib.ListN.{length}
use Rattle.scope.specs.ScopeValue.{modules_of}
use Rattle.corollaries.proofs.resolve_front.Goals as goal

pub returns : goal.returns
returns c =
    front-resolved c.args.modes c.args.table.now c.args.records.now c.front-end.result (length c.args.list.now) (modules_of c.args.scope)
    c.front-end.ensures.0 c.resolve_imports.ensures.0
