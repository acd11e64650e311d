-- `children` and `content`: the loop's invariant: the verdict from here is the verdict from the start, the rules unpacked.
-- The measure is a field's length, and a row's length and one more: a field is no longer than the row around it, and its parts start
-- behind its head of three bytes. A field whose packed rule is 0 has no parts: it is good where its fixed bytes are all of it, and else
-- what follows them is misplaced.
use mathlib.Core.Path.{◌≡◌}
use Prim.Native.Nat.{◌+◌, ◌-◌, ◌≤◌}
use Rattle.tree.specs.Packed.{unpack_rule}
use Rattle.tree.specs.Read.{verdict, children_at}
use Rattle.tree.proofs.read.+children_content.Given as goal

abbrev pub decreases-children : goal.decreases-children
decreases-children l = l.end - l.from + 1

abbrev pub decreases-content : goal.decreases-content
decreases-content l = l.stop - l.at

abbrev pub invariant-children-loop-at : goal.invariant-children-loop-at
invariant-children-loop-at l = (verdict (children_at l.s l.from l.end l.depth (unpack_rule l.initial.rule) l.place) ≡ verdict (children_at l.s l.at l.end l.depth (unpack_rule l.rule) l.place))
    × (l.from ≤ l.at)
    × (l.at ≤ l.end)

abbrev pub decreases-children-loop-at : goal.decreases-children-loop-at
decreases-children-loop-at l = l.end - l.at
