-- `root_rule`: 32 and the set's number, packed, is the rule of one field of that set (`root-is`).
use Rattle.tree.proofs.PackedLaws.{root-is}
use Rattle.tree.proofs.grammar.root_rule.Goals as goal

pub returns : goal.returns
returns c =
    let e = c.set_number.ensures in
    root-is _ _ e.1 e.2 e.0
