-- `has_mark`: by the test against the count, which is the number of modules (`modules-length`). Below it the cell that is read is the
-- module's mark (`modules-marked`); from it on the rule refuses too (`read-refused`).
use mathlib.Core.Path.{sym, ◌∙◌, ap}
use native.Mathlib.Omega.{arith}
use Rattle.scope.specs.Modules.{done}
use Rattle.scope.specs.ScopeValue.{modules_of}
use Rattle.scope.proofs.Laws.{read-given, read-refused}
use Rattle.scope.proofs.ScopeValueLaws.{modules-length, modules-marked}
use Rattle.scope.proofs.Scope.has_mark.Goals as goal

pub returns-then-n-counted : goal.returns-then-n-counted
returns-then-n-counted c =
    let l = modules-length c.args.self in
    ap done
    (c.get_mark.ensures
    ∙
    sym (modules-marked c.args.self c.args.kind
    c.args.id.0 (omega arith)))
    ∙
    sym (read-given c.args.kind c.args.id
    (modules_of c.args.self) (omega arith))

pub returns-else-n-counted : goal.returns-else-n-counted
returns-else-n-counted c =
    let l = modules-length c.args.self in sym (read-refused c.args.kind c.args.id (modules_of c.args.self) (omega arith))
