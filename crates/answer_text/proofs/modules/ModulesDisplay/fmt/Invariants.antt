-- `Modules`: the modules so far are written, each behind a comma.
use Rattle.std.proofs.Common.{List, ℕ, ◌∷◌, take, flat_map}
use Rattle.std.specs.Fmt.{HasWritten, IsPlainFormatter}
use Rattle.answer_text.specs.Modules.{module_text}
use Rattle.answer_text.proofs.modules.ModulesDisplay.fmt.Given as goal

abbrev pub invariant-loop-other : goal.invariant-loop-other
invariant-loop-other g l =
    IsPlainFormatter l.initial.f
    → HasWritten g.W.Write.write_str_gives l.initial.f (flat_map (λ n. 44 ∷ module_text n) (take l.other-index l.others)) l.f
