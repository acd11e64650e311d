-- `walk` and the nine functions in its cycle: the measure is 8 times the bytes that are left, plus a rank from 4 (`node`) to 9
-- (`parts`): a call has fewer bytes, or as many and a lower rank. The loop of `parts` has the invariant `Going`: walking the fields that are
-- left, by the way that is left, completes the row. By its law or its callee's contract, each return has written the walk by the tag's rule.
use Prim.Native.Nat.{ℕ, ◌+◌, ◌-◌, ◌*◌}
use Rattle.tree.proofs.PartLaws.{Left}
use Rattle.walking.proofs.RowLaws.{Going}
use Rattle.walking.proofs.+call_chain_declarator_initialiser_member_node_part_parts_pattern_walk.Given as goal

abbrev pub decreases-call : goal.decreases-call
decreases-call l = 8 * (l.part.now.stop - l.part.now.at) + 6

abbrev pub decreases-chain : goal.decreases-chain
decreases-chain l = 8 * (l.part.now.stop - l.part.now.at) + 5

abbrev pub decreases-declarator : goal.decreases-declarator
decreases-declarator l = 8 * (l.part.now.stop - l.part.now.at) + 6

abbrev pub decreases-initialiser : goal.decreases-initialiser
decreases-initialiser l = 8 * (l.rest.end - l.rest.at) + 8

abbrev pub decreases-member : goal.decreases-member
decreases-member l = 8 * (l.part.now.stop - l.part.now.at) + 6

abbrev pub decreases-node : goal.decreases-node
decreases-node l = 8 * (l.part.now.stop - l.part.now.at) + 4

abbrev pub decreases-part : goal.decreases-part
decreases-part l = 8 * (l.part.now.stop - l.part.now.at) + 8

abbrev pub decreases-parts : goal.decreases-parts
decreases-parts l = 8 * (l.row.end - l.row.at) + 9

abbrev pub decreases-pattern : goal.decreases-pattern
decreases-pattern l = 8 * (l.part.now.stop - l.part.now.at) + 5

abbrev pub decreases-walk : goal.decreases-walk
decreases-walk l = 8 * (l.part.now.stop - l.part.now.at) + 7

abbrev pub invariant-parts-loop-field : goal.invariant-parts-loop-field
invariant-parts-loop-field l =
    let r = l.initial.row in
    (at : ℕ) × Left r.bytes.now r.end l.field-iterator at
    × Going l.initial.by r.bytes.now r.at r.end l.initial.t.cells l.initial.out l.o l.by l.t.cells l.out at l.to
