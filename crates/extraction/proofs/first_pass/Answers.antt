-- `first_pass`: by whether the pass refused (`once-refused`), and then by whether its tree fits (`once-held`).
use Rattle.std.proofs.Common.{◌≡◌, Err, rules}
use Rattle.std.specs.Bool.{then_some}
use Rattle.std.specs.Option.{ok_or}
use Rattle.extraction.specs.declared.ExtractError.TheVariants.{Refused, NoRoom}
use Rattle.extraction.proofs.OnceLaws.{once-refused, once-held}
use Rattle.extraction.proofs.first_pass.Goals as goal

pub returns : goal.returns
returns c =
    let h : c.ok_or.result ≡ ok_or (then_some c.finish.result c.in_ok-n.n) NoRoom = search rules in
    rw h (once-held c.pass.ensures c.in_ok-n.was c.finish.result c.finish.ensures)

pub returns-in_err-n : goal.returns-in_err-n
returns-in_err-n c =
    let h : c.from_residual.result ≡ Err (Refused c.in_err-n.field-0.0) = search rules in
    rw h (once-refused c.pass.ensures c.in_err-n.was)
