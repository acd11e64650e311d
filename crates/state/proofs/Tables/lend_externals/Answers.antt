-- `lend_externals`: each two bytes are one more atom, for which there is room (`external-more`). At the end less than two bytes are left, and no
-- atom (`externals-lent`).
use Rattle.tables.specs.Rows.{rows}
use Rattle.state.specs.Cells.{externals as kind, table_of}
use mathlib.Core.Path.{ap}
use native.Mathlib.Omega.{arith}
use lib.ListN.{length}
use Rattle.state.proofs.ListLaws.{length-more}
use Rattle.state.proofs.SettingLaws.{external-good, external-more, externals-lent}
use Rattle.state.proofs.Tables.lend_externals.Goals as goal

pub invariant_of-self : goal.invariant_of-self
invariant_of-self c =
    let h = c.requires.0 in
    record { good = external-good c.loop-i.self.good (omega arith) (omega arith) c.push.ensures.0 c.push.ensures.1 }

pub loop-i-preserved : goal.loop-i-preserved
loop-i-preserved c =
    let h = c.requires.0 in (
      external-more c.loop-i.invariant.0 (omega arith) (λ i. (c.type_inv.externals i).fits) (omega arith) c.loop-i.self.good c.atom_at.ensures
          c.push.ensures.0
          c.push.ensures.1,
      let e = ap length c.push.ensures.0 in let m = length-more (rows (table_of kind) c.loop-i.self.cells) (c.atom_at.result, 0) in omega arith,
    )

pub returns : goal.returns
returns c =
    externals-lent c.loop-i.invariant.0 (omega arith)
