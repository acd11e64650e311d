-- `entry_of`: the definition makes the same test, and either table answers as it has it.
use borrow.Author.Tests.{lt-ltb, le-ltb}
use mathlib.Core.Path.{refl}
use Rattle.tree.specs.Packed.{low_entries, high_entries, entry_at}
use Rattle.tree.proofs.RunLaws.{answer-is}
use Rattle.tree.proofs.grammar.entry_of.Goals as goal

pub returns-then-tag-lt128 : goal.returns-then-tag-lt128
unfolding entry_at
returns-then-tag-lt128 c =
    rw (lt-ltb _ _ c.if-tag-lt128.true) (answer-is low_entries _ _ refl c.low_entry.ensures)

pub returns-else-tag-lt128 : goal.returns-else-tag-lt128
unfolding entry_at
returns-else-tag-lt128 c =
    rw (le-ltb _ _ c.if-tag-lt128.false) (answer-is high_entries _ _ refl c.high_entry.ensures)
