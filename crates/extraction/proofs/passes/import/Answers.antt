-- `import`: by the pass that the array shows; `import-one` and `import-two` say that the item's rule is that of `import_first` and
-- `import_second`.
use Rattle.extraction.proofs.ItemLaws.{import-one, import-two}
use Rattle.extraction.proofs.passes.import.Goals as goal

pub import_second-requires : goal.import_second-requires
import_second-requires c = c.requires

pub import_first-requires : goal.import_first-requires
import_first-requires c = c.requires

pub returns-then-is_second : goal.returns-then-is_second
returns-then-is_second c =
    let p = c.args.part.now in
    import-two p.bytes.now p.of_bytes p.at p.stop c.is_second.ensures c.if-is_second.true c.requires
    c.import_second.ensures

pub returns-else-is_second : goal.returns-else-is_second
returns-else-is_second c =
    let p = c.args.part.now in
    import-one p.bytes.now p.of_bytes p.at p.stop c.is_second.ensures c.if-is_second.false c.requires
    c.import_first.ensures
