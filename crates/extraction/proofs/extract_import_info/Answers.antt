-- `extract_import_info`: by the answer of `run`; an accepted call leaves what the rules give (`left-accepted`), any other answer a scope as at
-- entry and buffers of zeros (`left-refused`).
use Rattle.extraction.specs.Answer.{lent_as}
use Rattle.extraction.proofs.TopLaws.{left-accepted, left-refused}
use Rattle.extraction.proofs.extract_import_info.Goals as goal

pub returns-in-Ok : goal.returns-in-Ok
returns-in-Ok c =
    left-accepted (lent_as c.args.file.0 c.args.modes c.args.lent.now.externals.now c.args.lent.now.table.now c.args.lent.now.tree.now) c.args.scope c.run.ensures
    c.scope.result c.in-Ok.is c.scope.ensures c.no_counts.ensures

pub returns-in-Err : goal.returns-in-Err
returns-in-Err c =
    left-refused (lent_as c.args.file.0 c.args.modes c.args.lent.now.externals.now c.args.lent.now.table.now c.args.lent.now.tree.now) c.args.scope c.run.ensures c.in-Err.is
    c.no_counts-in-Err.ensures c.clear.ensures c.clear-in-Err.ensures c.clear-in-Err-2.ensures c.run.auto.work c.run.auto.out c.run.auto.records
