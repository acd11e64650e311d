-- `forget`: `forgotten` says that both drops together drop the id's usages and its imported entry.
use Rattle.state.proofs.UsageLaws.{forgotten}
use Rattle.state.proofs.Tables.forget.Goals as goal

pub returns : goal.returns
returns c =
    forgotten c.args.self.now.good c.id_number-n.ensures.0 c.id_number-n.ensures.1 c.drop_uses.ensures c.drop_import.ensures
