-- `report_bytes`: nothing is counted, and the definition is 32 zeros.
use mathlib.Core.Path.{refl}
use Rattle.tychodrel.specs.Answer.{report_bytes}
use Rattle.tychodrel.proofs.counts.report_bytes.Goals as goal

pub returns : goal.returns
unfolding report_bytes
returns c =
    refl
