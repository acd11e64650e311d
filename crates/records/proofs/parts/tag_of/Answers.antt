-- `tag_of`: by whether the fixed bytes are whole; `tag-upto` and `tag-short` say which tag the tree then has.
use mathlib.Core.Path.{sym, ◌∙◌}
use Rattle.records.proofs.SpecifierLaws.{tag-upto, tag-short}
use Rattle.records.proofs.parts.tag_of.Goals as goal

pub returns-in-Some : goal.returns-in-Some
returns-in-Some c =
    let p = c.args.part in
    c.tag.ensures ∙ tag-upto p.bytes.now p.at p.stop _ (sym c.fixed.ensures ∙ c.in-Some.is)

pub returns-in-None : goal.returns-in-None
returns-in-None c =
    let p = c.args.part in
    tag-short p.bytes.now p.at p.stop (sym c.fixed.ensures ∙ c.in-None.is)
