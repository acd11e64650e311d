-- `numbered_id`: the bytes of a number are those of its quotient and its remainder (`id-split`).
use Rattle.state.proofs.IdentLaws.{id-split}
use Rattle.state.proofs.ident.numbered_id.Goals as goal

pub returns : goal.returns
returns c =
    id-split c.args.n
