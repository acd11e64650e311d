-- `lists`: the definition makes the same tests in the same order.
use Rattle.std.proofs.lemmas.Result.{err_from_is_err_and}
use Rattle.resolving.specs.Stages.{lists_of}
use Rattle.resolving.proofs.lists.Goals as goal

pub returns-then-bad_table : goal.returns-then-bad_table
unfolding lists_of
returns-then-bad_table c =
    rw (← c.bad_table.ensures, c.if-bad_table.true)

pub returns-then-names_twice : goal.returns-then-names_twice
unfolding lists_of
returns-then-names_twice c =
    rw (← c.bad_table.ensures, c.if-bad_table.false, ← c.names_twice.ensures, c.if-names_twice.true)

pub returns : goal.returns
unfolding lists_of
returns c =
    rw (← c.bad_table.ensures, c.if-bad_table.false, ← c.names_twice.ensures, c.if-names_twice.false, ← c.read_tree.ensures, c.in_ok-read_tree.was)

pub returns-in_err-read_tree : goal.returns-in_err-read_tree
unfolding lists_of
returns-in_err-read_tree c =
    let passed = err_from_is_err_and c.from_residual.result c.from_residual.ensures.1 in
    rw (passed.1, passed.2, ← c.bad_table.ensures, c.if-bad_table.false, ← c.names_twice.ensures, c.if-names_twice.false, ← c.read_tree.ensures, c.in_err-read_tree.was)
