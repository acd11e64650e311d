-- The parts of a field: those with a tag, those that meet a test, and where they start.
use Rattle.std.specs.Prelude.{ℕ, ◌+◌, Bool, cond, List, eqb, length, Option, None, Some}
use Rattle.tree.specs.Tree.{Field, Fields, none, more, tag_of}

abbrev pub has : ℕ → Field → Bool
has t f = eqb (tag_of f) t

-- the parts that meet a test, and the first of them
unfoldable pub keep : (Field → Bool) → Fields → Fields
keep p none = none
keep p (more f fs) = cond (p f) (more f (keep p fs)) (keep p fs)

unfoldable pub find_field : (Field → Bool) → Fields → Option Field
find_field p none = None
find_field p (more f fs) = cond (p f) (Some f) (find_field p fs)

-- the only part
unfoldable pub sole : Fields → Option Field
sole none = None
sole (more f none) = Some f
sole (more f (more g gs)) = None

-- where the parts of a field at p with the fixed bytes x start
abbrev pub inside : ℕ → List ℕ → ℕ
inside p x = p + 3 + length x
