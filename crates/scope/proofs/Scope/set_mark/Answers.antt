-- `set_mark`: by the test against the count, which is the number of modules (`modules-length`). Below it the store sets this mark of this
-- module and no other (`modules-set`); from it on the rule refuses too (`marking-refused`).
use mathlib.Core.Path.{◌≡◌, sym}
use lib.ListN.{length}
use native.Mathlib.Omega.{arith}
use borrow.Author.Rules.{rules}
use Rattle.scope.specs.ScopeValue.{modules_of}
use Rattle.scope.proofs.Laws.{marking-given, marking-refused}
use Rattle.scope.proofs.ScopeValueLaws.{modules-length, modules-set}
use Rattle.scope.proofs.Scope.set_mark.Goals as goal

pub returns-then-n-counted : goal.returns-then-n-counted
returns-then-n-counted c =
    let l = modules-length c.args.self in
    let marks : length c.args.self.marks ≡ 1024 = search rules in
    let m = modules-set c.args.self c.args.kind c.args.id.0 marks (omega arith) in
    rw (c.put_mark.ensures, m)
    (sym (marking-given c.args.kind c.args.id
    (modules_of c.args.self) (omega arith)))

pub returns-else-n-counted : goal.returns-else-n-counted
returns-else-n-counted c =
    let l = modules-length c.args.self in sym (marking-refused c.args.kind c.args.id (modules_of c.args.self) (omega arith))
