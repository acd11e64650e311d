-- `step_by`: the loop's invariant: what is left of the rule says to the tag what the whole says. Each turn takes the lowest byte off, so the
-- rule falls; the bit of the byte's set says whether the slot takes the tag.
use borrow.Author.Rules.{rules}
use mathlib.Core.Path.{sym, ap, ◌∙◌}
use Prim.Native.Nat.{ℕ}
use native.Mathlib.Omega.{arith}
use Rattle.tree.specs.Grammar.{step_at}
use Rattle.tree.specs.Packed.{unpack_rule}
use Rattle.tree.proofs.PackedLaws.{step-nothing, step-used, step-stay, step-off, step-over, step-end}
use Rattle.tree.proofs.grammar.step_by.Goals as goal
use Rattle.tree.proofs.grammar.step_by.Goals.{then-slot-ne0+else-sets-slot-eq1+else-slot-lt64, else-slot-ne0}

pub returns-then-slot-lt96 : goal.returns-then-slot-lt96
returns-then-slot-lt96 c =
    let l = c.loop-rule in
    let q = c.sets_of-sets in
    let tag = c.args.tag in
    sym (l.invariant.0 ∙ step-used tag l.rule q.result (search rules) l.invariant.1 q.ensures c.if-slot-ne0.true c.if-sets-slot-eq1.true c.if-slot-lt96.true)

pub returns-else-slot-lt96 : goal.returns-else-slot-lt96
returns-else-slot-lt96 c =
    let l = c.loop-rule in
    let q = c.sets_of-sets in
    let tag = c.args.tag in
    sym (l.invariant.0 ∙ step-stay tag l.rule q.result (search rules) l.invariant.1 q.ensures c.if-sets-slot-eq1.true c.if-slot-lt96.false)

pub returns-then-slot-lt64 : goal.returns-then-slot-lt64
returns-then-slot-lt64 c =
    let l = c.loop-rule in
    let q = c.sets_of-sets in
    let tag = c.args.tag in
    sym (l.invariant.0 ∙ step-off tag l.rule q.result (search rules) l.invariant.1 q.ensures c.if-slot-ne0.true c.if-sets-slot-eq1.false c.if-slot-lt64.true)

pub loop-rule-preserved : goal.loop-rule-preserved
loop-rule-preserved c =
    let l = c.loop-rule in
    let q = c.sets_of-sets in
    let tag = c.args.tag in
    elim c.if-slot-ne0.branch [
      | then-slot-ne0+else-sets-slot-eq1+else-slot-lt64 w ↦
          (l.invariant.0 ∙ step-over tag l.rule q.result (search rules) l.invariant.1 q.ensures w.if-sets-slot-eq1.false w.if-slot-lt64.false, omega arith)
      | else-slot-ne0 w ↦ (l.invariant.0 ∙ step-nothing tag l.rule q.result (search rules) l.invariant.1 q.ensures w.if-slot-ne0.false, omega arith)
    ]

pub returns : goal.returns
returns c =
    sym (c.loop-rule.invariant.0 ∙ ap (λ (n : ℕ). step_at (unpack_rule n) c.args.tag) c.loop-rule-test.false ∙ step-end c.args.tag)
