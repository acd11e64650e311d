-- `next`: a field ends behind its place and inside the row (`extent-upto`), so what is left is shorter.
use Rattle.std.proofs.Common.{rules}
use mathlib.Core.Path.{sym, ◌∙◌}
use native.Mathlib.Omega.{arith}
use Rattle.tree.proofs.AccessLaws.{extent-upto}
use Rattle.tree.proofs.row.RowIterator.next.Goals as goal

pub invariant_of-self : goal.invariant_of-self
invariant_of-self c =
    let r = c.args.self.now in
    let i = extent-upto r.bytes.now r.at r.end r.inside.0 (sym c.extent.ensures ∙ c.in_ok-stop.was) in
    record { inside = (i.1, r.inside.1); of_bytes = r.of_bytes }

pub invariant_of-result : goal.invariant_of-result
invariant_of-result c =
    let r = c.args.self.now in
    let i = extent-upto r.bytes.now r.at r.end r.inside.0 (sym c.extent.ensures ∙ c.in_ok-stop.was) in
    record { whole = (i.0, let b = r.inside.1 in omega arith); of_bytes = r.of_bytes }

pub returns-clause-goes : goal.returns-clause-goes
returns-clause-goes c =
    let r = c.args.self.now in
    let i = extent-upto r.bytes.now r.at r.end r.inside.0 (sym c.extent.ensures ∙ c.in_ok-stop.was) in
    search rules
