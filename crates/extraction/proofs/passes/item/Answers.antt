-- `item`: by the tag. An import has the contract of `import`; a 40 and a 41 without parts leave nothing (`item-40`, `item-bare`);
-- any other item is what it is walked to (`item-41`, `item-plain`).
use mathlib.Core.Path.{sym, ◌∙◌}
use Rattle.extraction.proofs.ItemLaws.{item-plain, item-40, item-41, item-bare}
use Rattle.extraction.proofs.passes.item.Goals as goal

pub returns-in-64 : goal.returns-in-64
returns-in-64 c =
    let p = c.args.part.now in
    item-40 p.bytes.now p.of_bytes p.at p.stop (sym c.tag.ensures ∙ c.in-64.is)

pub returns-in-Some : goal.returns-in-Some
returns-in-Some c =
    let p = c.args.part.now in
    item-41 p.bytes.now p.of_bytes p.at p.stop (sym c.tag.ensures ∙ c.in-65.is) p.whole.0 (sym c.extent.ensures ∙ c.in-Some.is) c.walk.ensures

pub returns-in-None : goal.returns-in-None
returns-in-None c =
    let p = c.args.part.now in
    item-bare p.bytes.now p.of_bytes p.at p.stop (sym c.tag.ensures ∙ c.in-65.is) p.whole.0 (sym c.extent.ensures ∙ c.in-None.is)

pub returns-in_default : goal.returns-in_default
returns-in_default c =
    let p = c.args.part.now in
    let other = c.in_default.in_default-own.rest in
    item-plain p.bytes.now p.of_bytes p.at p.stop (λ q. other.0.0.1 (c.tag.ensures ∙ q)) (λ q. other.0.1 (c.tag.ensures ∙ q))
    (λ q. other.1 (c.tag.ensures ∙ q)) c.walk-in_default.ensures
