-- `lend_table`: each four bytes are one more row, for which there is room, and whose hint is set first (`row-more`). At the end less than four bytes
-- are left, and no row (`table-lent`).
use mathlib.Core.Path.{ap}
use native.Mathlib.Omega.{arith}
use lib.ListN.{length}
use Rattle.tables.specs.Rows.{rows}
use Rattle.state.specs.Cells.{table as kind, table_of}
use Rattle.state.proofs.ListLaws.{length-more}
use Rattle.state.proofs.SettingLaws.{row-good, row-more, table-lent}
use Rattle.state.proofs.Tables.lend_table.Goals as goal

pub push-requires : goal.push-requires
push-requires c =
    (c.hint_row.new.self.good.lies kind, let x = ap length (c.hint_row.ensures.0.same_rows kind) in let h = c.requires.0 in omega arith)

pub invariant_of-self : goal.invariant_of-self
invariant_of-self c =
    let h = c.requires.0 in
    let x = ap length (c.hint_row.ensures.0.same_rows kind) in
    record {
      good =
          row-good c.hint_row.new.self.good (omega arith) (omega arith) (omega arith) (let r = c.hint_row.ensures.1 in omega arith)
          c.push.ensures.0 c.push.ensures.1;
    }

pub loop-i-preserved : goal.loop-i-preserved
loop-i-preserved c =
    let h = c.requires.0 in
    let x = ap length (c.hint_row.ensures.0.same_rows kind) in (
      row-more c.loop-i.invariant.0 (omega arith) (λ i. (c.type_inv.table i).fits) (omega arith) c.atom_at-source.ensures c.atom_at.ensures
          c.hint_row.new.self.good c.hint_row.ensures.0 (let z = c.hint_row.auto in omega arith) c.push.ensures.0 c.push.ensures.1,
      let e = ap length c.push.ensures.0 in let m = length-more (rows (table_of kind) c.hint_row.new.self.cells) (c.atom_at-source.result, c.atom_at.result) in omega arith,
    )

pub returns : goal.returns
returns c =
    table-lent c.loop-i.invariant.0 (omega arith)
