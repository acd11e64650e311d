-- `tree_with`, by which tree the place is in.
use Rattle.records.proofs.LiteralLaws.{literal-tree, literal-work}
use Rattle.records.proofs.LazyLaws.{placed-tree, placed-work}
use Rattle.records.proofs.literals.tree_with.Goals as goal

pub returns-then-place-lt-IN_WORK-clause-literal : goal.returns-then-place-lt-IN_WORK-clause-literal
returns-then-place-lt-IN_WORK-clause-literal c = literal-tree c.args.tree.now c.args.work.now c.args.place c.if-place-lt-IN_WORK.true

pub returns-then-place-lt-IN_WORK-clause-pattern : goal.returns-then-place-lt-IN_WORK-clause-pattern
returns-then-place-lt-IN_WORK-clause-pattern c = λ n. placed-tree c.args.tree.now c.args.work.now c.args.place n c.if-place-lt-IN_WORK.true

pub returns-else-place-lt-IN_WORK-clause-literal : goal.returns-else-place-lt-IN_WORK-clause-literal
returns-else-place-lt-IN_WORK-clause-literal c = literal-work c.args.tree.now c.args.work.now c.args.place c.if-place-lt-IN_WORK.false

pub returns-else-place-lt-IN_WORK-clause-pattern : goal.returns-else-place-lt-IN_WORK-clause-pattern
returns-else-place-lt-IN_WORK-clause-pattern c = λ n. placed-work c.args.tree.now c.args.work.now c.args.place n c.if-place-lt-IN_WORK.false
