-- `lists`: the tests of the code are those of `lists_of`, in the same order; each return has its law of ListsLaws.
use Rattle.std.proofs.Common.{◌≡◌, Err, rules}
use Rattle.extraction.specs.declared.ExtractError.TheVariants.{Unread as NoTree}
use Rattle.extraction.proofs.ListsLaws.{lists-bad, lists-twice, lists-read, lists-unread}
use Rattle.extraction.proofs.lists.Goals as goal

pub returns-then-bad_lists : goal.returns-then-bad_lists
returns-then-bad_lists c =
    lists-bad c.args.lent.now.externals.now c.args.lent.now.table.now c.args.lent.now.tree.now c.bad_lists.ensures c.if-bad_lists.true

pub returns-then-names_twice : goal.returns-then-names_twice
returns-then-names_twice c =
    lists-twice c.args.lent.now.externals.now c.args.lent.now.table.now c.args.lent.now.tree.now c.bad_lists.ensures c.names_twice.ensures c.if-bad_lists.false c.if-names_twice.true

pub returns : goal.returns
returns c =
    lists-read c.args.lent.now.externals.now c.args.lent.now.table.now c.args.lent.now.tree.now c.bad_lists.ensures c.names_twice.ensures c.read_tree.ensures
    c.if-bad_lists.false c.if-names_twice.false c.in_ok-read_tree.was

pub returns-in_err-read_tree : goal.returns-in_err-read_tree
returns-in_err-read_tree c =
    let h : c.from_residual.result ≡ Err (NoTree c.in_err-read_tree.field-0.0) = search rules in
    rw h
    (lists-unread c.args.lent.now.externals.now c.args.lent.now.table.now c.args.lent.now.tree.now c.bad_lists.ensures c.names_twice.ensures c.read_tree.ensures
    c.if-bad_lists.false c.if-names_twice.false c.in_err-read_tree.was)
