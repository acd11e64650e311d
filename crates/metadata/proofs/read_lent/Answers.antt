-- `read_lent`: empty bytes are good by the rule (`lent-empty`); the rule reads all others (`lent-read`), as `read_tree` does.
use mathlib.Core.Path.{sym, ◌∙◌}
use borrow.Author.Tests.{eqb-true, eqb-false}
use Rattle.metadata.proofs.CallsLaws.{lent-empty, lent-read}
use Rattle.metadata.proofs.read_lent.Goals as goal

pub returns-then-is_empty : goal.returns-then-is_empty
returns-then-is_empty c =
    sym (lent-empty c.args.attributes.now (eqb-true _ 0 (sym c.is_empty.ensures ∙ c.if-is_empty.true)))

pub returns : goal.returns
returns c =
    c.read_tree.ensures ∙ sym (lent-read c.args.attributes.now (eqb-false _ 0 (sym c.is_empty.ensures ∙ c.if-is_empty.false)))
