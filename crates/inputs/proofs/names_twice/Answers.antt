-- `names_twice`: a source is named twice just where one of either half is (`names-by-halves`).
use Rattle.inputs.proofs.SeenLaws.{names-by-halves}
use Rattle.inputs.proofs.names_twice.Goals as goal

pub returns-then-names_twice_in : goal.returns-then-names_twice_in
returns-then-names_twice_in c =
    let halves = names-by-halves c.args.table.now (λ i. (c.type_inv.table i).fits) in
    rw (halves, ← c.names_twice_in.ensures, c.if-names_twice_in.true)

pub returns-else-names_twice_in : goal.returns-else-names_twice_in
returns-else-names_twice_in c =
    let halves = names-by-halves c.args.table.now (λ i. (c.type_inv.table i).fits) in
    rw (halves, ← c.names_twice_in.ensures, c.if-names_twice_in.false) c.names_twice_in-else-names_twice_in.ensures
