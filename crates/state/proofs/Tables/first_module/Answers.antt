-- `first_module`: a module before the hint has no file with this remainder (`reached-none`).
use Prim.Native.Nat.{ℕ, ◌%◌}
use native.Mathlib.Omega.{arith}
use Rattle.state.specs.Cells.{modules, module_hint}
use Rattle.state.proofs.HintLaws.{reached-none}
use Rattle.state.proofs.Tables.first_module.Goals as goal

pub returns : goal.returns
returns c =
    reached-none 256 (λ (a : ℕ). module_hint c.args.self.now.cells (a % 256)) c.args.file _ (c.args.self.now.good.hinted modules) (omega arith)
