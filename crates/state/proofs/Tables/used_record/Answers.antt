-- `used_record`: the values in a range are searched, those of all ids with this name or of the id alone (`used-told`). No row before the hint
-- has such a value (`range-past`). A row that is found stands in the table (`first-value-below`).
use Rattle.std.specs.Prelude.{Some}
use native.Mathlib.Omega.{arith}
use Prim.Native.Nat.{ℕ}
use mathlib.Core.Path.{sym, subst}
use mathlib.Core.List.{List}
use Rattle.tables.specs.Rows.{rows}
use Rattle.extraction_rules.specs.First.{used_record}
use Rattle.state.specs.Cells.{records, table_of, id_by}
use Rattle.state.specs.Does.{Tells, source_of}
use Rattle.state.proofs.IndexLaws.{first-value-below}
use Rattle.state.proofs.RecordLaws.{used-told, range-past}
use Rattle.state.proofs.Tables.used_record.Goals as goal

pub find_value-requires : goal.find_value-requires
find_value-requires c =
    let e = c.args.self.now.good.size in (c.args.self.now.good.lies records, omega arith, range-past c.args.own.0 c.range_of-low.ensures c.first_named.ensures)

pub returns-in_err-i : goal.returns-in_err-i
returns-in_err-i c =
    let n = c.id_number-n in
    rw c.from_residual.ensures (used-told c.args.own.0 n.result c.args.self.now.good (omega arith) n.ensures.0 n.ensures.1 c.range_of-low.ensures c.in_err-i.ensures)

pub source_at-requires : goal.source_at-requires
source_at-requires c =
    first-value-below _ _ (rows (table_of records) c.args.self.now.cells) _ (sym c.in_ok-i.ensures)

pub returns : goal.returns
returns c =
    let n = c.id_number-n in
    subst (λ (x : List ℕ). Tells (λ s. source_of (used_record c.args.own.0 (id_by c.args.id) s.collected)) c.args.self.now.cells (Some x)) (sym c.source_at.ensures)
    (used-told c.args.own.0 n.result c.args.self.now.good (omega arith) n.ensures.0 n.ensures.1 c.range_of-low.ensures c.in_ok-i.ensures)
