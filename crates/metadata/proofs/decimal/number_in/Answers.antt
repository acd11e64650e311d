-- `number_in`: where a byte is no digit, or the number so far too large, there is no number, whatever follows.
use Rattle.std.proofs.Common.{◌<◌, ◌+◌, ◌-◌, ◌*◌, arith, get_or}
use mathlib.Core.Path.{sym, ap, ◌∙◌}
use borrow.Author.Tests.{le-leb}
use Rattle.metadata.specs.Decimal.{limited}
use Rattle.metadata.proofs.DecimalLaws.{digit-true, digit-false, number-more, number-other, number-end, too-large}
use Rattle.metadata.proofs.decimal.number_in.Goals as goal

pub returns-then-not-is_ascii_digit : goal.returns-then-not-is_ascii_digit
returns-then-not-is_ascii_digit c =
    let here = c.loop-b in
    sym (ap limited (number-other c.args.digits.now here.b-index (omega arith) here.n (digit-false _ c.if-not-is_ascii_digit.ensures.cases))) ∙ here.invariant.rest

pub returns-then-n-gt-GREATEST : goal.returns-then-n-gt-GREATEST
returns-then-n-gt-GREATEST c =
    let here = c.loop-b in
    let digit = c.if-not-is_ascii_digit.ensures.cases in
    let more = number-more c.args.digits.now here.b-index (omega arith) here.n (digit-true _ digit.0 digit.1) in
    let large : 4294967295 < here.n * 10 + (get_or c.args.digits.now here.b-index 0 - 48) = let v = c.from.ensures in let l = c.if-n-gt-GREATEST.true in omega arith in
    sym (ap limited more ∙ too-large _ _ large) ∙ here.invariant.rest

pub loop-b-preserved : goal.loop-b-preserved
loop-b-preserved c =
    let here = c.loop-b in
    let digit = c.if-not-is_ascii_digit.ensures.cases in
    let more = number-more c.args.digits.now here.b-index (omega arith) here.n (digit-true _ digit.0 digit.1) in
    record { rest = rw c.from.ensures (sym (ap limited more)) ∙ here.invariant.rest; bound = c.if-n-gt-GREATEST.false }

pub returns : goal.returns
returns c =
    let here = c.loop-b in
    sym (ap limited (number-end c.args.digits.now here.n here.b-index (omega arith)) ∙ rw (le-leb _ _ here.invariant.bound)) ∙ here.invariant.rest
