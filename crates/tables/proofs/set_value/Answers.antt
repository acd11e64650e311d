-- `set_value`: `row-valued` says that a store in a row's second cell changes this row's value alone and stays inside the table.
use native.Mathlib.Omega.{arith}
use Rattle.tables.proofs.RowLaws.{rows-length}
use Rattle.tables.proofs.OnlyLaws.{row-valued}
use Rattle.tables.proofs.set_value.Goals as goal

pub overflow_mul-t : goal.overflow_mul-t
overflow_mul-t c =
    let n = rows-length c.args.b c.args.t.now in omega arith

pub overflow_add-t : goal.overflow_add-t
overflow_add-t c =
    let n = rows-length c.args.b c.args.t.now in omega arith

pub overflow_add-t-2 : goal.overflow_add-t-2
overflow_add-t-2 c =
    let n = rows-length c.args.b c.args.t.now in omega arith

pub offset_bounds-t-base : goal.offset_bounds-t-base
offset_bounds-t-base c =
    let n = rows-length c.args.b c.args.t.now in omega arith

pub bounds-t-base : goal.bounds-t-base
bounds-t-base c =
    let n = rows-length c.args.b c.args.t.now in omega arith

pub returns : goal.returns
returns c =
    row-valued c.args.b c.args.t.now c.args.i c.args.value c.requires.0 c.requires.1
