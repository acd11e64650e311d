-- `done`: the loop's invariant: what is left of the rule lacks a part where the whole does. Each turn takes the lowest byte off, so the rule
-- falls.
use mathlib.Core.Path.{sym, ap, ◌∙◌}
use Prim.Native.Nat.{ℕ}
use native.Mathlib.Omega.{arith}
use Rattle.tree.specs.Grammar.{done_at}
use Rattle.tree.specs.Packed.{unpack_rule}
use Rattle.tree.proofs.PackedLaws.{done-nothing, done-lacks, done-over, done-end}
use Rattle.tree.proofs.grammar.done.Goals as goal
use Rattle.tree.proofs.grammar.done.Goals.{else-slot-ne0-via-then-slot-ne0+else-slot-lt64, else-slot-ne0-via-else-slot-ne0}

pub returns-then-slot-lt64 : goal.returns-then-slot-lt64
returns-then-slot-lt64 c =
    sym (c.loop-rule.invariant.0 ∙ done-lacks c.loop-rule.rule c.loop-rule.invariant.1 c.if-slot-ne0.true c.if-slot-lt64.true)

pub loop-rule-preserved : goal.loop-rule-preserved
loop-rule-preserved c =
    let l = c.loop-rule in
    elim c.else-slot-ne0.branch [
      | else-slot-ne0-via-then-slot-ne0+else-slot-lt64 w ↦ (l.invariant.0 ∙ done-over l.rule l.invariant.1 w.if-slot-lt64.false, omega arith)
      | else-slot-ne0-via-else-slot-ne0 w ↦ (l.invariant.0 ∙ done-nothing l.rule l.invariant.1 w.if-slot-ne0.false, omega arith)
    ]

pub returns : goal.returns
returns c =
    sym (c.loop-rule.invariant.0 ∙ ap (λ (n : ℕ). done_at (unpack_rule n)) c.loop-rule-test.false ∙ done-end)
