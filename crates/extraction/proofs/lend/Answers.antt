-- `lend`: an array of zeros shows an environment that is set to nothing, so both tables are empty when they are lent; the three settings
-- one after the other are `LentTo` (`lent-to`).
use Rattle.inputs.specs.Table.{atoms_in}
use Rattle.extraction.proofs.TopLaws.{externals-empty, table-empty, lent-to}
use Rattle.extraction.proofs.lend.Goals as goal

pub lend_externals-requires : goal.lend_externals-requires
lend_externals-requires c =
    (c.requires.1, externals-empty c.args.modes c.requires.0 c.set_modes.ensures)

pub lend_table-requires : goal.lend_table-requires
lend_table-requires c =
    (c.requires.2, table-empty c.args.modes c.requires.0 c.set_modes.ensures (atoms_in c.args.lent.now.externals.now) c.lend_externals.ensures)

pub returns : goal.returns
returns c =
    lent-to c.args.modes c.args.lent.now.externals.now c.args.lent.now.table.now c.requires.0 c.set_modes.ensures c.lend_externals.ensures c.lend_table.ensures
