-- `rule_of`: the upper half of the entry, which for every tag is its rule.
use Rattle.tree.specs.Packed.{packed_rule_at}
use Rattle.tree.proofs.PackedLaws.{rule-is}
use borrow.Author.Rules.{rules}
use Rattle.tree.proofs.grammar.rule_of.Goals as goal

pub returns : goal.returns
unfolding packed_rule_at
returns c =
    rw c.entry_of.ensures (rule-is c.args.tag (search rules))
