-- `record_literal`: the row at the place has the literal's number, and what stands there is the state's record (`record-at`).
use Rattle.state.proofs.PlaceLaws.{record-small, record-at}
use Rattle.state.proofs.Tables.record_literal.Goals as goal

pub numbered_literal-requires : goal.numbered_literal-requires
numbered_literal-requires c =
    record-small c.args.self.now.good c.requires c.key_of.ensures

pub returns : goal.returns
returns c =
    record-at c.numbered_literal.ensures.0 c.numbered_literal.ensures.1 c.requires c.key_of.ensures
