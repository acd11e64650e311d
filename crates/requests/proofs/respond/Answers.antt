-- `respond`: the request that was read, and the text of its answer.
use Rattle.std.proofs.Common.{List, ℕ, string_bytes, subst, sym}
use Rattle.request_fields.specs.declared.Request.{Request}
use Rattle.requests.specs.Answers.{Answers}
use Rattle.requests.proofs.respond.Goals as goal
use Rattle.requests.proofs.respond.Goals.{in-Extract+in_ok-answer-in-Extract, in-Resolve+in_ok-answer-in-Resolve, in-Both+in_ok-answer-in-Both}
use Rattle.requests.proofs.respond.Goals.{in-Detect+in_ok-answer-in-Detect, in-Encode+in_ok-answer-in-Encode, in-Decode+in_ok-answer-in-Decode}

pub returns : goal.returns
returns c =
    let r : Request = c.in_ok-asked.field-0 in
    let text : List ℕ = string_bytes c.match-branch-2.answer in
    let told : Answers r text = elim c.match-branch-2.branch [
      | in-Extract+in_ok-answer-in-Extract w ↦ subst (λ (q : Request). Answers q text) (sym w.in-Extract.is) (rw w.answer-is w.in_ok-answer-in-Extract.ensures)
      | in-Resolve+in_ok-answer-in-Resolve w ↦ subst (λ (q : Request). Answers q text) (sym w.in-Resolve.is) (rw w.answer-is w.in_ok-answer-in-Resolve.ensures)
      | in-Both+in_ok-answer-in-Both w ↦ subst (λ (q : Request). Answers q text) (sym w.in-Both.is) (rw w.answer-is w.in_ok-answer-in-Both.ensures)
      | in-Detect+in_ok-answer-in-Detect w ↦ subst (λ (q : Request). Answers q text) (sym w.in-Detect.is) (rw w.answer-is w.in_ok-answer-in-Detect.ensures)
      | in-Encode+in_ok-answer-in-Encode w ↦ subst (λ (q : Request). Answers q text) (sym w.in-Encode.is) (rw w.answer-is w.in_ok-answer-in-Encode.ensures)
      | in-Decode+in_ok-answer-in-Decode w ↦ subst (λ (q : Request). Answers q text) (sym w.in-Decode.is) (rw w.answer-is w.in_ok-answer-in-Decode.ensures)
    ] in
    (r, c.in_ok-asked.ensures, told)
