-- `lazy_place`: the specifiers of the lazy record are those at the place in the row's value, which is below its limit (`lazy-place-at`).
use native.Mathlib.Omega.{arith}
use Rattle.state.proofs.PlaceLaws.{lazy-small, lazy-place-at}
use Rattle.state.proofs.Tables.lazy_place.Goals as goal

pub overflow_cast-result : goal.overflow_cast-result
overflow_cast-result c =
    let b = (lazy-small c.args.self.now.good c.requires).1 in let e = c.value_of.ensures in omega arith

pub returns : goal.returns
returns c =
    let b = (lazy-small c.args.self.now.good c.requires).1 in
    let e = c.value_of.ensures in
    (omega arith, lazy-place-at c.requires c.value_of.ensures)
