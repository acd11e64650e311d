-- `put_all`: the bytes so far are written.
use Rattle.std.proofs.Common.{take}
use Rattle.text.specs.Write.{Written}
use Rattle.text.proofs.write.Text.put_all.Given as goal

abbrev pub invariant-loop-b : goal.invariant-loop-b
invariant-loop-b g l = Written g.row.N l.initial.self (take l.b-index l.s) l.self
