-- `parse`: without its plus the text is empty (`number-none`), or has digits (`number-some`), whose number `number_in` gives.
use mathlib.Core.List.{List}
use mathlib.Core.Path.{sym, ap, ◌∙◌}
use Prim.Native.Nat.{ℕ, ◌<◌}
use native.Mathlib.Omega.{arith}
use lib.ListN.{length}
use borrow.Author.Tests.{eqb-true, eqb-false}
use Rattle.metadata.specs.Decimal.{number, limited, parsed}
use Rattle.metadata.proofs.DecimalLaws.{number-none, number-some, unsigned-shorter}
use Rattle.metadata.proofs.decimal.parse.Goals as goal

pub returns-then-is_empty : goal.returns-then-is_empty
unfolding parsed
returns-then-is_empty c =
    let digits = c.behind_plus-digits in
    let length-kept = ap length digits.ensures in
    let shorter = unsigned-shorter c.args.text.now in
    let empty = eqb-true _ _ (sym c.is_empty.ensures ∙ c.if-is_empty.true) in
    let none = number-none digits.result.now (omega arith) in
    sym (ap limited none) ∙ ap (λ (l : List ℕ). limited (number l)) digits.ensures

pub returns : goal.returns
unfolding parsed
returns c =
    let digits = c.behind_plus-digits in
    let n = eqb-false _ _ (sym c.is_empty.ensures ∙ c.if-is_empty.false) in
    let some : 0 < length digits.result.now = omega arith in
    c.number_in.ensures ∙ sym (ap limited (number-some digits.result.now some)) ∙ ap (λ (l : List ℕ). limited (number l)) digits.ensures
