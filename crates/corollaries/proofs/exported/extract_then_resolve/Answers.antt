-- `extract_then_resolve`: by both answers. If both calls accept, `leaves-both` is the theorem on namespace imports, with the files that came
-- back; `leaves-unextracted` and `leaves-unlisted` say that any other answer is a refusal of the rules. `there-scope` says that the scope's
-- bytes name at most 256 modules.
use Rattle.modes.specs.Bits.{modes_of}
use lib.ListN.{length}
use Rattle.extraction.specs.Answer.{lent_as, room_in}
use Rattle.corollaries.proofs.HostsLaws.{there-scope, leaves-unextracted, leaves-unlisted, leaves-both}
use Rattle.corollaries.proofs.exported.extract_then_resolve.Goals as goal

pub returns-then-a-ne0 : goal.returns-then-a-ne0
returns-then-a-ne0 c =
    let a = c.args in
    leaves-unextracted a.files.now (lent_as a.file (modes_of a.modes) a.externals.now a.table.now a.tree.now)
    (room_in a.work.now a.out.now a.records.now) (length a.list.now) c.tychodrel_extract-a.ensures c.if-a-ne0.true

pub resolve_with-b-requires : goal.resolve_with-b-requires
resolve_with-b-requires c =
    let a = c.args in
    there-scope a.files.now (lent_as a.file (modes_of a.modes) a.externals.now a.table.now a.tree.now)
    (room_in a.work.now a.out.now a.records.now) (length a.list.now) c.tychodrel_extract-a.ensures

pub returns-then-b-ne0 : goal.returns-then-b-ne0
returns-then-b-ne0 c =
    let a = c.args in
    leaves-unlisted a.files.now (lent_as a.file (modes_of a.modes) a.externals.now a.table.now a.tree.now)
    (room_in a.work.now a.out.now a.records.now) (length a.list.now) c.tychodrel_extract-a.ensures c.resolve_with-b.ensures c.if-b-ne0.true

pub returns : goal.returns
returns c =
    let a = c.args in
    leaves-both a.files.now (lent_as a.file (modes_of a.modes) a.externals.now a.table.now a.tree.now)
    (room_in a.work.now a.out.now a.records.now) (length a.list.now) c.tychodrel_extract-a.ensures c.resolve_with-b.ensures c.if-a-ne0.false c.if-b-ne0.false
    (λ i. (c.type_inv.tree i).fits)
