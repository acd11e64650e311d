-- From records to the resolved list. Document 01, 'Records and resolving'; the Rust's `resolve_imports`.
use Rattle.std.specs.Prelude.{ℕ, ◌+◌, Bool, not, cond, List, [], ◌∷◌, ◌++◌, eqb, get_or, Option, None, Some, unwrap_or}
use Rattle.scope.specs.Id.{default_atom, empty, local, export}
use Rattle.scope.specs.Modules.{Modules, number_of, request}
use Rattle.tree.specs.Layout.{two, four, value_of}
use Rattle.tree.specs.Tree.{Field, field, Fields, none, more, tag_of, fixed_of, parts_of, size}
use Rattle.inputs.specs.Outcome.{Outcome, done, refused, ◌>>=◌}
use Rattle.inputs.specs.Lists.{among}
use Rattle.inputs.specs.Fields.{has, keep, inside}
use Rattle.inputs.specs.Table.{Row, file_of}

-- '80* collected, 81* lazy, 82* dynamic (L)': the records that have a source; '83* forced' stand behind them
abbrev pub sources_in : Fields → Fields
sources_in cs = keep (λ f. not (has 0x83 f)) cs

-- 'forced (A ..)'
unfoldable pub forced_in : Fields → List (List ℕ)
forced_in none = []
forced_in (more f fs) = cond (has 0x83 f) (fixed_of f ∷ forced_in fs) (forced_in fs)

-- the source of a record
abbrev pub source_of : Field → List ℕ
source_of f = value_of (fixed_of f)

-- ---- 'Resolving numbers every resolvable source in that order'

-- 5: 'a 257th file', at the record
abbrev pub requested : Option (ℕ × Modules) → ℕ → Outcome Modules
requested None p = refused 5 p
requested (Some r) p = done r.1

unfoldable pub number_one : Option ℕ → Modules → ℕ → Outcome Modules
number_one None ms p = done ms
number_one (Some file) ms p = requested (request file ms) p

unfoldable pub number_all : List Row → Fields → Modules → ℕ → Outcome Modules
number_all rows none ms p = done ms
number_all rows (more f fs) ms p = do
  new ← number_one (file_of (source_of f) rows) ms p
  number_all rows fs new (p + size f)

-- ---- '03: 90*'

-- '91 (I; alias byte 0, or 1 and I)': as the 20 has it; 6: 'a string name in a resolved 20'
unfoldable pub resolved_named : List ℕ → ℕ → Outcome Field
resolved_named x p = cond (eqb (get_or x 6 0) 2) (refused 6 p) (done (field 0x91 x none))

-- 'Default's alias is (default, 0).'
abbrev pub resolved_default : List ℕ → Field
resolved_default x = field 0x91 (x ++ 1 ∷ two default_atom ++ four empty) none

-- '92 (I; all byte, 1 if forced)'
abbrev pub resolved_namespace : Bool → List ℕ → Field
resolved_namespace all x = field 0x92 (x ++ (cond all 1 0) ∷ []) none

unfoldable pub resolved_specifier : Bool → Field → ℕ → Outcome Field
resolved_specifier all f p =
    cond (has 0x20 f) (resolved_named (fixed_of f) p)
    (cond (has 0x21 f) (done (resolved_default (fixed_of f))) (done (resolved_namespace all (fixed_of f))))

unfoldable pub resolved_specifiers : Bool → Fields → ℕ → Outcome Fields
resolved_specifiers all none p = done none
resolved_specifiers all (more f fs) p = do
  g ← resolved_specifier all f p
  gs ← resolved_specifiers all fs (p + size f)
  done (more g gs)

-- 'byte (3 collected, 1 lazy, 0 dynamic)'
abbrev pub kind_byte : ℕ → ℕ
kind_byte t = cond (eqb t 0x80) 3 (cond (eqb t 0x81) 1 0)

-- the module of a file that has been numbered
abbrev pub module_of : ℕ → Modules → ℕ
module_of file ms = unwrap_or (number_of file ms) 0

-- 'byte .., module 2 bytes, file 2, C local, C export, L'
unfoldable pub heading : Field → ℕ → ℕ → List ℕ
heading f n file = kind_byte (tag_of f) ∷ two n ++ two file ++ four (local n) ++ four (export n) ++ fixed_of f

-- 11: 'source unresolved', at the record
unfoldable pub resolved_record : Option ℕ → List (List ℕ) → Modules → Field → ℕ → Outcome Field
resolved_record None forced ms f p = refused 11 p
resolved_record (Some file) forced ms f p = do
  gs ← resolved_specifiers (among (source_of f) forced) (parts_of f) (inside p (fixed_of f))
  done (field 0x90 (heading f (module_of file ms) file) gs)

-- 'then reports the first fault': 'whichever record is first'
unfoldable pub resolved_all : List Row → List (List ℕ) → Modules → Fields → ℕ → Outcome Fields
resolved_all rows forced ms none p = done none
resolved_all rows forced ms (more f fs) p = do
  g ← resolved_record (file_of (source_of f) rows) forced ms f p
  gs ← resolved_all rows forced ms fs (p + size f)
  done (more g gs)
