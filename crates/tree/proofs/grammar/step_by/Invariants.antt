-- `step_by`: the loop's invariant: what is left of the rule says to the tag what the whole says. Each turn takes the lowest byte off, so the
-- rule falls; the bit of the byte's set says whether the slot takes the tag.
use mathlib.Core.Path.{◌≡◌}
use Prim.Native.Nat.{◌<◌, ◌^◌}
use Rattle.tree.specs.Grammar.{step_at}
use Rattle.tree.specs.Packed.{unpack_rule}
use Rattle.tree.proofs.grammar.step_by.Given as goal

abbrev pub invariant-loop-rule : goal.invariant-loop-rule
invariant-loop-rule l = (step_at (unpack_rule l.initial.rule) l.tag ≡ step_at (unpack_rule l.rule) l.tag) × (l.rule < 2 ^ 32)

abbrev pub decreases-loop-rule : goal.decreases-loop-rule
decreases-loop-rule l = l.rule
