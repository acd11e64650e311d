-- `id_number`: the context is below 2^32, so the number's quotient is the atom and its remainder the context (`id-made`).
use native.Mathlib.Omega.{arith}
use Rattle.state.proofs.IdentLaws.{id-made}
use Rattle.state.proofs.ident.id_number.Goals as goal

pub returns : goal.returns
returns c =
    (id-made c.args.id.0.0 c.args.id.1.0 (omega arith), omega arith)
