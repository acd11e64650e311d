-- `key_of`: `rows-row` says in which two cells row i stands; the first of them is read. It is inside since i is below the count.
use mathlib.Core.Path.{sym, ap, ◌∙◌}
use native.Mathlib.Omega.{arith}
use Rattle.tables.specs.Rows.{Row}
use Rattle.tables.proofs.RowLaws.{rows-length, rows-row}
use Rattle.tables.proofs.key_of.Goals as goal

pub key_in-requires : goal.key_in-requires
key_in-requires c =
    let n = rows-length c.args.b c.args.t.now in omega arith

pub returns : goal.returns
returns c =
    c.key_in.ensures ∙ sym (ap (λ (r : Row). r.0) (rows-row c.args.b c.args.i c.args.t.now c.requires.1))
