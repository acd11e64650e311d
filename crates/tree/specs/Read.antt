-- Reading bytes by the grammar (document 01, 'Where a call turns back', lines on reading): the tree, or why not and where.
use Rattle.std.specs.Prelude.{cond, ℕ, zero, suc, ◌+◌, ◌-◌, List, ltb, eqb, length, get_or, Option, Some, None, Result, Ok, Err}
use Rattle.std.proofs.Math.Seq.{slice}
use Rattle.tree.specs.declared.grammar.Set.{Set}
use Rattle.tree.specs.declared.grammar.Slot.TheVariants.{One}
use Rattle.tree.specs.declared.grammar.Rule.{Rule}
use Rattle.tree.specs.declared.read.Why.{Why}
use Rattle.tree.specs.declared.read.Why.TheVariants.{Misplaced, Cut, Lacking, Deep}
use Rattle.tree.specs.declared.read.Head.{Head}
use Rattle.tree.specs.declared.read.Head.TheVariants.{Done, Missing, Bad, Child}
use Rattle.tree.specs.declared.refused.Refused.{Refused}
use Rattle.tree.specs.Tree.{Field, field, Fields, none, more}
use Rattle.tree.specs.Grammar.{parts1, rule_of, step_at, done_at}
use Rattle.tree.specs.Access.{fixed_at, extent_at}

-- what reading gives: something, or why not, and the offset of the field
pub data Reading (A : Type 0) : Type 0 where
  fine : A → Reading A
  refused : Why → ℕ → Reading A

-- why not, and the offset
abbrev pub Unread : Type 0
Unread = Refused Why

-- the refusal's number: 'field off the grammar' is 3, 'depth over 64' is 4
abbrev pub refusal_of : Why → ℕ
refusal_of Misplaced = 3
refusal_of Cut = 3
refusal_of Lacking = 3
refusal_of Deep = 4

-- a verdict's number and place: 0 and 0 where the bytes are accepted
abbrev pub number_of : Result Unit Unread → ℕ
number_of (Ok u) = 0
number_of (Err e) = refusal_of e.why

abbrev pub place_of : Result Unit Unread → ℕ
place_of (Ok u) = 0
place_of (Err e) = e.place

abbrev pub verdict : {A : Type 0} → Reading A → Result Unit Unread
verdict (fine a) = Ok tt
verdict (refused w p) = Err (record { why = w; place = p })

abbrev pub mapped : {A B : Type 0} → (A → B) → Reading A → Reading B
mapped f (fine a) = fine (f a)
mapped f (refused w p) = refused w p

-- the first, then the second; the first refusal stands
abbrev pub both : {A B C : Type 0} → (A → B → C) → Reading A → Reading B → Reading C
both f (fine a) r = mapped (f a) r
both f (refused w p) r = refused w p

unfoldable pub on_extent : Option ℕ → Rule → ℕ → Head
on_extent None q d = Bad Cut
on_extent (Some stop) q d = cond (ltb d 64) (Child q stop) (Bad Deep)

unfoldable pub on_step : Option Rule → List ℕ → ℕ → ℕ → ℕ → Head
on_step None s at end d = Bad Misplaced
on_step (Some q) s at end d = on_extent (extent_at s at end) q d

-- what stands at `at` inside `end`, where the rule q is left and d is the depth of the field around:
-- 'Reading tests a field's tag and length, its depth, then its content'
unfoldable pub head_at : List ℕ → ℕ → ℕ → ℕ → Rule → Head
head_at s at end d q = cond (eqb at end) (cond (done_at q) Done Missing) (on_step (step_at q (get_or s at 0)) s at end d)

-- a reading of the parts from `at` up to end of the field at p, whose depth is d, where the rule q is left
abbrev pub Kids : Type 0
Kids = List ℕ → ℕ → ℕ → ℕ → Rule → ℕ → Reading Fields

unfoldable pub on_fixed : Option ℕ → Kids → List ℕ → ℕ → ℕ → ℕ → Reading Field
on_fixed None k s at stop d = refused Lacking at
on_fixed (Some b) k s at stop d = mapped (field (get_or s at 0) (slice (at + 3) b s)) (k s b stop d (rule_of (get_or s at 0)) at)

-- the field at `at` up to stop, whose depth is d, its parts read by k
unfoldable pub content_by : Kids → List ℕ → ℕ → ℕ → ℕ → Reading Field
content_by k s at stop d = on_fixed (fixed_at s (get_or s at 0) (at + 3) stop) k s at stop d

unfoldable pub on_head : Head → Kids → List ℕ → ℕ → ℕ → ℕ → ℕ → Reading Fields
on_head Done k s at end d p = fine none
on_head Missing k s at end d p = refused Lacking p
on_head (Bad w) k s at end d p = refused w at
on_head (Child q stop) k s at end d p = both more (content_by k s at stop (d + 1)) (k s stop end d q p)

-- n bounds the nesting and the number
unfoldable pub children : ℕ → Kids
children zero s at end d q p = refused Lacking p
children (suc n) s at end d q p = on_head (head_at s at end d q) (children n) s at end d p

unfoldable pub children_at : Kids
children_at s at end d q p = children (suc (end - at)) s at end d q p

unfoldable pub content_at : List ℕ → ℕ → ℕ → ℕ → Reading Field
content_at s at stop d = content_by children_at s at stop d

-- one field whose tag is of the set root
abbrev pub top : Set → Rule
top root = parts1 (One root)

-- bytes as one field of the root; 'bytes left over' are a field that may not stand there
unfoldable pub read : Set → List ℕ → Reading Fields
read root s = cond (eqb (length s) 0) (refused Cut 0) (children_at s 0 (length s) 0 (top root) 0)
