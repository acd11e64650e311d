-- `second_pass`: by whether the pass or the marks refused, and then by whether the tree fits; each return has its law of AgainLaws.
use Rattle.std.proofs.Common.{◌≡◌, Ok, Err, rules}
use Rattle.std.specs.Bool.{then_some}
use Rattle.std.specs.Option.{ok_or}
use Rattle.steps.specs.Refusal.{Refusal}
use Rattle.steps.specs.Refusal.{refusal}
use Rattle.extraction.specs.declared.ExtractError.TheVariants.{Refused, NoRoom}
use Rattle.extraction.proofs.AgainLaws.{again-refused, again-unmarked, again-held}
use Rattle.extraction.proofs.second_pass.Goals as goal

pub returns : goal.returns
returns c =
    let h : c.ok_or.result ≡ ok_or (then_some c.finish.result c.in_ok-n.n) NoRoom = search rules in
    let k : c.pass.result ≡ Ok c.in_ok-n.n = search rules in
    rw h (again-held c.set_second.ensures c.pass.ensures k c.wrap.ensures c.in_ok-wrap.was c.finish.result c.finish.ensures)

pub returns-in_err-wrap : goal.returns-in_err-wrap
returns-in_err-wrap c =
    let h : c.from_residual-in_err-wrap.result ≡ Err (Refused c.in_err-wrap.field-0.0) = search rules in
    let k : c.pass.result ≡ Ok c.in_ok-n.n = search rules in
    rw h (again-unmarked c.set_second.ensures c.pass.ensures k c.wrap.ensures c.in_err-wrap.was)

pub returns-in_err-n : goal.returns-in_err-n
returns-in_err-n c =
    let k : (e : Refusal) × (c.pass.result ≡ Err e) × (c.in_err-n.field-0.0 ≡ refusal e.why 0) = search rules in
    let h : c.from_residual.result ≡ Err (Refused (refusal k.0.why 0)) = search rules in
    rw h (again-refused c.set_second.ensures c.pass.ensures k.1)
