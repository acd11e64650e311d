-- `tychodrel_resolve`: by whether all files got numbers: then the call is that of `resolve_in` (`resolve-given`).
-- `resolve-refused` says that otherwise the buffer is zero.
use Rattle.tychodrel.proofs.ExportedLaws.{resolve-given, resolve-refused}
use Rattle.tychodrel.proofs.tychodrel_resolve.Goals as goal

pub returns-in-Ok : goal.returns-in-Ok
returns-in-Ok c =
    resolve-given c.request_files-requested.result c.args.files.now _ _ c.request_files-requested.ensures c.in-Ok.is c.resolve_in.ensures

pub returns-in-Err : goal.returns-in-Err
returns-in-Err c =
    resolve-refused c.request_files-requested.result c.args.files.now _ c.args.list.now c.request_files-requested.ensures c.in-Err.is
    c.refuse_files.ensures c.clear.ensures
