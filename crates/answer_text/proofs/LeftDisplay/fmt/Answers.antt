-- `Left`: the field at the front, or all of the buffer.
use Rattle.std.proofs.Common.{ℕ, ◌≡◌, List, sym, ◌∙◌, rules}
use Rattle.answer_text.specs.Left.{shown}
use Rattle.answer_text.proofs.LeftLaws.{zeros_is, shown-field, shown-all, shown-none}
use Rattle.answer_text.proofs.LeftDisplay.fmt.Goals as goal
use Rattle.answer_text.proofs.LeftDisplay.fmt.Goals.{in_default-via-in-Some+else-is_zero, in_default-via-in_default}

pub returns-in-Some-clause-writes : goal.returns-in-Some-clause-writes
returns-in-Some-clause-writes g c =
    let s : List ℕ = c.args.self.now.0.now in
    let zero = sym (zeros_is _ _ c.is_zero.ensures) ∙ c.if-is_zero.true in
    let e = shown-field s c.in-Some.field.now c.in-Some.behind.now c.in-Some.ensures.found c.in-Some.ensures.parts zero in
    rw e (search rules)

pub returns-in_default-clause-writes : goal.returns-in_default-clause-writes
returns-in_default-clause-writes g c =
    let s : List ℕ = c.args.self.now.0.now in
    let e : shown s ≡ s = elim c.in_default.branch [
      | in_default-via-in-Some+else-is_zero w ↦
          let zero = sym (zeros_is _ _ w.is_zero.ensures) ∙ w.if-is_zero.false in
          shown-all s w.in-Some.field.now w.in-Some.behind.now w.in-Some.ensures.found w.in-Some.ensures.parts zero
      | in_default-via-in_default w ↦ shown-none s w.in_default.ensures.found
    ] in
    rw e (search rules)
