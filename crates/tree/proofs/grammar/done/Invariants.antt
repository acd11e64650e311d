-- `done`: the loop's invariant: what is left of the rule lacks a part where the whole does. Each turn takes the lowest byte off, so the rule
-- falls.
use mathlib.Core.Path.{◌≡◌}
use Prim.Native.Nat.{◌<◌, ◌^◌}
use Rattle.tree.specs.Grammar.{done_at}
use Rattle.tree.specs.Packed.{unpack_rule}
use Rattle.tree.proofs.grammar.done.Given as goal

abbrev pub invariant-loop-rule : goal.invariant-loop-rule
invariant-loop-rule l = (done_at (unpack_rule l.initial.rule) ≡ done_at (unpack_rule l.rule)) × (l.rule < 2 ^ 32)

abbrev pub decreases-loop-rule : goal.decreases-loop-rule
decreases-loop-rule l = l.rule
