-- `field_at`: it stands first among the items from the place on (`first-field`).
use Rattle.records.proofs.SpecifierLaws.{first-field}
use Rattle.records.proofs.parts.field_at.Goals as goal

pub returns : goal.returns
returns c = first-field c.args.s.now c.args.at c.items_from.result c.items_from.ensures c.next.result c.next.new.self c.next.ensures.steps
