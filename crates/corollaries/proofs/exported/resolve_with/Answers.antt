-- `resolve_with`: one way; `lent-part` says that the part up to n is the files in the scope's bytes, and the part up to `end` the field at the
-- front of the records' buffer.
use Rattle.modes.specs.Bits.{modes_of}
use native.Mathlib.Omega.{arith}
use lib.ListN.{length}
use Rattle.corollaries.proofs.FilesLaws.{lent-fits, lent-part}
use Rattle.corollaries.proofs.exported.resolve_with.Goals as goal

pub slice_bounds-tychodrel_resolve-end : goal.slice_bounds-tychodrel_resolve-end
slice_bounds-tychodrel_resolve-end c = let h = lent-fits c.args.scope.now c.requires.0 c.put_files-n.ensures in omega arith

pub returns : goal.returns
returns c =
    let a = c.args in
    lent-part (modes_of a.modes) a.scope.now a.table.now a.records.now c.put_files-n.result c.front-end.result (length a.list.now) c.requires.0
    c.put_files-n.ensures c.front-end.ensures.0 c.tychodrel_resolve.ensures
