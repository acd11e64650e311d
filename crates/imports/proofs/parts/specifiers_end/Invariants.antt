-- `specifiers_end`: the invariant `Seeking` says that where the specifiers that are left end, those from `from` on end too.
-- They end at a 2F, or where the row does.
use Rattle.imports.proofs.PartsLaws.{Seeking}
use Rattle.imports.proofs.parts.specifiers_end.Given as goal

abbrev pub invariant-loop-p : goal.invariant-loop-p
invariant-loop-p l = Seeking l.part.bytes.now l.from l.part.stop l.at l.p-iterator
