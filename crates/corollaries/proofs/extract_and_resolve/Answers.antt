-- `extract_and_resolve`: by both answers. If both calls accept, `pairs-both` is the theorem on namespace imports, from their contracts.
-- `pairs-unlisted` and `pairs-unextracted` say that any other answer is a refusal of the rules.
use lib.ListN.{length}
use Rattle.extraction.specs.Answer.{lent_as, room_in}
use Rattle.corollaries.proofs.PairLaws.{pairs-both, pairs-unlisted, pairs-unextracted}
use Rattle.corollaries.proofs.extract_and_resolve.Goals as goal

pub returns-in-Ok-answer : goal.returns-in-Ok-answer
returns-in-Ok-answer c =
    pairs-both (lent_as c.args.file.0 c.args.modes c.args.lent.now.externals.now c.args.lent.now.table.now c.args.lent.now.tree.now)
    (room_in c.args.work.now c.args.out.now c.args.records.now) (length c.args.list.now) c.args.scope
    c.extract_import_info-r.result c.extract_import_info-r.ensures.0 c.resolve_front-q.result c.in-Ok.is
    c.resolve_front-q.ensures c.in-Ok-answer.is c.args.lent.now.of_bytes

pub returns-in-Err-answer : goal.returns-in-Err-answer
returns-in-Err-answer c =
    pairs-unlisted (lent_as c.args.file.0 c.args.modes c.args.lent.now.externals.now c.args.lent.now.table.now c.args.lent.now.tree.now)
    (room_in c.args.work.now c.args.out.now c.args.records.now) (length c.args.list.now) c.args.scope
    c.extract_import_info-r.result c.extract_import_info-r.ensures.0 c.resolve_front-q.result c.resolve_front-q.ensures
    c.in-Err-answer.is

pub returns-in-Err : goal.returns-in-Err
returns-in-Err c =
    pairs-unextracted (lent_as c.args.file.0 c.args.modes c.args.lent.now.externals.now c.args.lent.now.table.now c.args.lent.now.tree.now)
    (room_in c.args.work.now c.args.out.now c.args.records.now) (length c.args.list.now) c.args.scope
    c.extract_import_info-r.result c.extract_import_info-r.ensures.0 c.extract_import_info-r.result.scope
    c.in-Err.is
