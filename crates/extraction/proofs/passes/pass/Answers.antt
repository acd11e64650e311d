-- `pass`: bytes that are no module cannot have been read (`pass-short`); else the items are written into a module (`pass-made`).
use native.Mathlib.Omega.{arith}
use Rattle.extraction.proofs.PassLaws.{pass-short, pass-made}
use Rattle.extraction.proofs.passes.pass.Goals as goal

pub returns-then-s-lt-START : goal.returns-then-s-lt-START
returns-then-s-lt-START c =
    pass-short _ _ (omega arith)

pub returns : goal.returns
returns c =
    let m = c.new.ensures in
    pass-made c.items-r.result c.set_top.ensures c.open_field-content.ensures (rw (m.0, m.1, m.2) at c.items-r.ensures) c.end_field.ensures
