-- The numbers of sources: what numbering answers, and what the list leans on. Document 01, 'Records and resolving'.
use Rattle.std.specs.Prelude.{ℕ, ◌≡◌, List, Some, Result, Ok, Err}
use Rattle.scope.specs.Modules.{Modules, number_of}
use Rattle.scope.specs.ScopeValue.{modules_of}
use Rattle.scope.specs.declared.Scope.{Scope}
use Rattle.tree.specs.Tree.{Field, Fields, none, more}
use Rattle.inputs.specs.Outcome.{Outcome, done, refused}
use Rattle.inputs.specs.Table.{Row, file_of}
use Rattle.resolving_rules.specs.Resolve.{source_of}
use Rattle.resolving.specs.declared.sources.TooManyFilesAt.{TooManyFilesAt}

-- the modules, or document 01's number and place
abbrev pub number_by : Result Scope TooManyFilesAt → Outcome Modules
number_by (Ok scope) = done (modules_of scope)
number_by (Err e) = refused 5 e.0

-- the source of f, if it resolves, has a number; so has each of these
pub record Numbers (rows : List Row) (ms : Modules) (f : Field) : Type 0 where
  pub given : (file : ℕ) → file_of (source_of f) rows ≡ Some file → (n : ℕ) × (number_of file ms ≡ Some n)

abbrev pub NumbersAll : List Row → Modules → Fields → Type 0
NumbersAll rows ms none = Unit {0}
NumbersAll rows ms (more f fs) = Numbers rows ms f × NumbersAll rows ms fs
