-- A specifier of a record by its kind, as the code tells it. Document 01, 'Tree': "A named import's outside name is none, an
-- identifier or a string."
use Rattle.std.specs.Prelude.{ℕ, ◌+◌, cond, List, eqb, get_or}
use Rattle.tree.specs.Tree.{Field, field, none}
use Rattle.inputs.specs.Outcome.{Outcome, done, refused}
use Rattle.resolving.specs.declared.specifiers.Outside.{Outside}
use Rattle.resolving.specs.declared.specifiers.Outside.TheVariants.{Nothing, Name, Text}
use Rattle.resolving.specs.declared.specifiers.Specifier.{Specifier}
use Rattle.resolving.specs.declared.specifiers.Specifier.TheVariants.{Named, Default, Namespace}

-- 'byte 0, or 1 and I, or 2 and A (string name)'
unfoldable pub outside_of : ℕ → Outside
outside_of b = cond (eqb b 0) Nothing (cond (eqb b 2) Text Name)

-- the specifier at `at`; a 20 has its kind byte behind its id
unfoldable pub specifier_at : List ℕ → ℕ → Specifier
specifier_at s at = cond (eqb (get_or s at 0) 0x20) (Named (outside_of (get_or s (at + 9) 0))) (cond (eqb (get_or s at 0) 0x21) Default Namespace)

-- a named one with the fixed bytes x, resolved; 6: 'a string name in a resolved 20'
abbrev pub named_by : Outside → List ℕ → ℕ → Outcome Field
named_by Nothing x p = done (field 0x91 x none)
named_by Name x p = done (field 0x91 x none)
named_by Text x p = refused 6 p
