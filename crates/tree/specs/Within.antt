-- Trees within the grammar, the depth and the lengths: those that can be read.
use Rattle.std.specs.Prelude.{ℕ, ◌+◌, ◌≤◌, ◌<◌, ◌≡◌, true, List, length, Some}
use Rattle.tree.specs.declared.grammar.Set.{Set}
use Rattle.tree.specs.declared.grammar.Rule.{Rule}
use Rattle.tree.specs.Tree.{Field, field, Fields, none, more, tag_of, sizes, depth}
use Rattle.tree.specs.Grammar.{holds_at, rule_of, step_at, done_at}
use Rattle.tree.specs.Access.{fixed_at}

-- x is just what the pieces of the tag t take
abbrev pub Exact : ℕ → List ℕ → Type 0
Exact t x = fixed_at x t 0 (length x) ≡ Some (length x)

abbrev mutual
  -- a content that two bytes can measure, the tag's fixed bytes, and parts by the tag's rule
  pub Formed : Field → Type 0
  Formed (field t x cs) = (length x + sizes cs < 65536) × Exact t x × FormedAll cs (rule_of t)

  -- the rest of a row of parts, where the rule q is left
  pub FormedAll : Fields → Rule → Type 0
  FormedAll none q = done_at q ≡ true
  FormedAll (more f fs) q = (q' : Rule) × (step_at q (tag_of f) ≡ Some q') × Formed f × FormedAll fs q'

-- a tree that may stand at this root: 'Module depth is 1, the deepest 64'
abbrev pub Within : Set → Field → Type 0
Within root f = (holds_at root (tag_of f) ≡ true) × Formed f × (depth f ≤ 64)
