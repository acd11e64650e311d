-- `prepare`: each refusal of the tests is the rules' own (`prepared-refused`); after them the own file decides (`prepared-own`).
use Rattle.std.proofs.Common.{◌≡◌, Err, rules}
use Rattle.scope.specs.ScopeValue.{modules_of}
use Rattle.extraction.proofs.TopLaws.{prepared-refused, lists-short, prepared-own}
use Rattle.extraction.proofs.prepare.Goals as goal

pub lend-requires : goal.lend-requires
lend-requires c =
    let s = lists-short c.args.file.0 c.args.modes c.args.lent.now.externals.now c.args.lent.now.table.now c.args.lent.now.tree.now (modules_of c.args.scope)
    c.lists.ensures c.in_ok-lists.was in (c.requires, s.0, s.1)

pub returns : goal.returns
returns c =
    prepared-own c.args.file.0 c.args.modes c.args.lent.now.externals.now c.args.lent.now.table.now c.args.lent.now.tree.now (modules_of c.args.scope)
    c.lists.ensures c.in_ok-lists.was c.args.lent.now.of_bytes c.lend.ensures c.own_file.ensures

pub returns-in_err-lists : goal.returns-in_err-lists
returns-in_err-lists c =
    let h : c.from_residual.result ≡ Err c.in_err-lists.field-0.0 = search rules in
    rw h
    (prepared-refused c.args.file.0 c.args.modes c.args.lent.now.externals.now c.args.lent.now.table.now c.args.lent.now.tree.now (modules_of c.args.scope)
    c.lists.ensures c.requires c.in_err-lists.was)
