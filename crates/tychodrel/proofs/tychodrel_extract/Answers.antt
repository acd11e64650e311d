-- `tychodrel_extract`: by whether all files got numbers: then the call is that of `extract_in` (`extract-given`).
-- `extract-refused` says that otherwise the buffers are zero.
use Rattle.tychodrel.proofs.ExportedLaws.{extract-given, extract-refused}
use Rattle.tychodrel.proofs.tychodrel_extract.Goals as goal

pub returns-in-Ok : goal.returns-in-Ok
returns-in-Ok c =
    let lent = c.new.ensures in
    extract-given c.request_files-requested.result c.args.files.now _ _ c.request_files-requested.ensures c.in-Ok.is (rw (lent.0, lent.1, lent.2) at c.extract_in.ensures)

pub returns-in-Err : goal.returns-in-Err
returns-in-Err c =
    extract-refused c.request_files-requested.result c.args.files.now _ c.args.work.now c.args.out.now c.args.records.now
    c.request_files-requested.ensures c.in-Err.is c.refuse_files.ensures c.clear.ensures c.clear-in-Err.ensures
    c.clear-in-Err-2.ensures
