-- `has_usages`: `usages-told` says that a row with this key stands among the usages just where the id has some.
use Rattle.state.proofs.UsageLaws.{usages-told}
use Rattle.state.proofs.Tables.has_usages.Goals as goal

pub returns : goal.returns
returns c =
    usages-told c.args.self.now.good c.id_number.ensures.0 c.id_number.ensures.1 c.is_used.ensures
