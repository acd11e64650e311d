-- Which modules sources resolve to. Document 01, 'Demand 3's words'.
use Rattle.std.specs.Prelude.{ℕ, Bool, false, List, eqb}
use Rattle.std.specs.Option.{option_and_then, option_map_or}
use Rattle.scope.specs.Modules.{Modules, number_of}
use Rattle.inputs.specs.Lists.{find, is_some}
use Rattle.inputs.specs.Table.{Row, file_of}

-- 'A source resolves to the module of the file its table names': the module n
abbrev pub is_module_of : ℕ → List Row → Modules → List ℕ → Bool
is_module_of n rows ms a = option_map_or (eqb n) (option_and_then (λ f. number_of f ms) (file_of a rows)) false

-- one of these sources does
abbrev pub reaches : ℕ → List Row → Modules → List (List ℕ) → Bool
reaches n rows ms l = is_some (find (is_module_of n rows ms) l)
