-- `note_named`: by the kind of the outside name, which the premise `OutsideIs` ties to the fixed bytes. A string is refused (`named-text`).
use Rattle.imports.proofs.NoteLaws.{named-name, named-nothing, named-text}
use Rattle.imports.proofs.note.note_named.Goals as goal

pub returns-in-Nothing : goal.returns-in-Nothing
returns-in-Nothing c =
    λ x i h. named-nothing c.args.id c.args.n.0 c.args.at x i c.in-Nothing.is h c.note_as.ensures

pub returns-in-Name : goal.returns-in-Name
returns-in-Name c =
    λ x i h. named-name c.args.id c.args.n.0 c.args.at x i c.in-Name.name c.in-Name.is h c.note_as-in-Name.ensures

pub returns-in-Text : goal.returns-in-Text
returns-in-Text c =
    λ x i h. named-text x c.args.n.0 c.args.at c.in-Text.is h
