-- `first_row`: a row before the hint has no source with this remainder (`reached-none`).
use Prim.Native.Nat.{ℕ, ◌%◌}
use native.Mathlib.Omega.{arith}
use Rattle.state.specs.Cells.{table, row_hint}
use Rattle.state.proofs.HintLaws.{reached-none}
use Rattle.state.proofs.Tables.first_row.Goals as goal

pub returns : goal.returns
returns c =
    reached-none 1024 (λ (a : ℕ). row_hint c.args.self.now.cells (a % 1024)) c.args.source _ (c.args.self.now.good.hinted table) (omega arith)
