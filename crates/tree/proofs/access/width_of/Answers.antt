-- `width_of`: the width in the table is the width, for every tag.
use Prim.Native.Nat.{ℕ}
use mathlib.Core.Path.{ap, ◌∙◌}
use lib.ListN.{get_or}
use borrow.Author.Rules.{rules}
use Rattle.tree.specs.declared.access.TheConstants.{WIDTHS}
use Rattle.tree.proofs.TagWidthLaws.{width-is}
use Rattle.tree.proofs.access.width_of.Goals as goal

pub returns : goal.returns
returns c =
    c.from-2.ensures ∙ ap (λ (n : ℕ). get_or WIDTHS n 0) c.from.ensures ∙ width-is c.args.tag (search rules)
