-- Refusals of the walk, and document 01's number of each: 'Where a call turns back', 'walk, first met'.
use Rattle.std.specs.Prelude.{ℕ}
use Rattle.tree.specs.declared.refused.Refused.{Refused}
use Rattle.steps.specs.declared.Why.{Why}
use Rattle.steps.specs.declared.Why.TheVariants.{TooManyFiles, StringName, PrivateName, TableFull}

-- why, and at which field
abbrev pub Refusal : Type 0
Refusal = Refused Why

abbrev pub refusal : Why → ℕ → Refusal
refusal w p = record { why = w; place = p }

abbrev pub refusal_of : Why → ℕ
refusal_of TooManyFiles = 5
refusal_of StringName = 6
refusal_of PrivateName = 7
refusal_of TableFull = 8
