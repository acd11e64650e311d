-- `items_es6`: the definition is a disjunction of the same three tests: require off, an item 10 to 14, no field of another module system.
use Rattle.std.proofs.Common.{rules, tests}
use Rattle.detection.specs.Detection.{es6}
use Rattle.detection.proofs.items_es6.Goals as goal

pub returns-then-forced_es6 : goal.returns-then-forced_es6
unfolding es6
returns-then-forced_es6 c =
    search (rules, tests)

pub returns-else-forced_es6 : goal.returns-else-forced_es6
unfolding es6
returns-else-forced_es6 c =
    search (rules, tests)
