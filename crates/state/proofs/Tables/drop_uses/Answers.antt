-- `drop_uses`: where no row has the key nothing is to be taken out (`absent`); else the rows that are left keep their hints
-- (`uses-dropped`).
use mathlib.Core.Path.{sym, ◌∙◌}
use Rattle.state.specs.Cells.{uses}
use Rattle.state.proofs.ChangeLaws.{uses-good, absent, some-none}
use Rattle.state.proofs.FrameLaws.{changed}
use Rattle.state.proofs.Tables.drop_uses.Goals as goal

pub invariant_of-self : goal.invariant_of-self
invariant_of-self c =
    record { good = uses-good c.args.id c.args.self.now.good c.drop_key.ensures.0 c.drop_key.ensures.1 }

pub returns-then-is_used : goal.returns-then-is_used
returns-then-is_used c =
    changed uses c.args.self.now.good c.drop_key.ensures.1 c.drop_key.ensures.0

pub returns-else-is_used : goal.returns-else-is_used
returns-else-is_used c =
    absent uses c.args.id (some-none _ (sym c.is_used.ensures ∙ c.if-is_used.false))
