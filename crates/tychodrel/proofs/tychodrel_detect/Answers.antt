-- `tychodrel_detect`: by the answer of `is_es6`; its contract, with that answer put in, gives the number.
use Rattle.std.specs.Prelude.{Bool, Result}
use Rattle.detection.specs.declared.DetectError.{DetectError}
use mathlib.Core.Path.{sym, ◌∙◌, ap}
use Rattle.detection.specs.Detection.{outcome_of}
use Rattle.tychodrel.specs.Answer.{detect_answer}
use Rattle.tychodrel.proofs.tychodrel_detect.Goals as goal

pub returns-in-Ok : goal.returns-in-Ok
returns-in-Ok c =
    c.bit_of.ensures ∙ sym (ap (λ (r : Result Bool DetectError). detect_answer (outcome_of r)) c.in-Ok.is)
    ∙ ap detect_answer (rw c.modes_of.ensures at c.is_es6.ensures.0)

pub returns-in-Err-TooLong : goal.returns-in-Err-TooLong
returns-in-Err-TooLong c =
    let is = rw c.in-Err-TooLong.field-0-is at c.in-Err-TooLong.is in
    c.pack.ensures ∙ sym (ap (λ (r : Result Bool DetectError). detect_answer (outcome_of r)) is) ∙ ap detect_answer (rw c.modes_of.ensures at c.is_es6.ensures.0)

pub returns-in-Err-Unread : goal.returns-in-Err-Unread
returns-in-Err-Unread c =
    let is = rw c.in-Err-Unread.field-0-is at c.in-Err-Unread.is in
    c.unread_answer.ensures ∙ sym (ap (λ (r : Result Bool DetectError). detect_answer (outcome_of r)) is)
    ∙ ap detect_answer (rw c.modes_of.ensures at c.is_es6.ensures.0)
