-- `value_of`: `rows-row` says in which two cells row i stands; the second of them is read. It is inside since i is below the count.
use mathlib.Core.Path.{sym, ap, ◌∙◌}
use native.Mathlib.Omega.{arith}
use Rattle.tables.specs.Rows.{Row}
use Rattle.tables.proofs.RowLaws.{rows-length, rows-row}
use Rattle.tables.proofs.value_of.Goals as goal

pub value_in-requires : goal.value_in-requires
value_in-requires c =
    let n = rows-length c.args.b c.args.t.now in omega arith

pub returns : goal.returns
returns c =
    c.value_in.ensures ∙ sym (ap (λ (r : Row). r.1) (rows-row c.args.b c.args.i c.args.t.now c.requires.1))
