-- `source_at`: the key is below its limit (`below-row`), so the cast of its upper part keeps it; that part is the literal's value.
use native.Mathlib.Omega.{arith}
use mathlib.Core.Path.{ap}
use Prim.Native.Nat.{ℕ, ◌/◌}
use Rattle.tree.specs.Layout.{two}
use Rattle.state.specs.Cells.{records}
use Rattle.state.specs.Does.{source_at}
use Rattle.state.proofs.ListLaws.{below-row}
use Rattle.state.proofs.Tables.source_at.Goals as goal

pub overflow_cast-result : goal.overflow_cast-result
overflow_cast-result c =
    let b = (below-row _ _ _ _ (c.args.self.now.good.below records) c.requires).0 in let e = c.key_of.ensures in omega arith

pub returns : goal.returns
unfolding source_at
returns c =
    ap (λ (n : ℕ). two (n / 4294967296)) c.key_of.ensures
