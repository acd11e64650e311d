-- `put_attributes`: by whether a field stands in the row. `attributes-copied` and `attributes-none` say which bytes its attributes are.
use Rattle.imports.proofs.AttributesLaws.{attributes-copied, attributes-none}
use Rattle.imports.proofs.note.put_attributes.Goals as goal

pub copy-requires : goal.copy-requires
copy-requires c =
    c.in-Some.part.whole.1

pub returns-in-Some : goal.returns-in-Some
returns-in-Some c =
    attributes-copied c.args.row c.next.new.self c.in-Some.part c.in-Some.ensures.steps c.copy.ensures

pub returns-in-None : goal.returns-in-None
returns-in-None c =
    attributes-none c.args.row c.next.new.self c.in-None.ensures.steps
