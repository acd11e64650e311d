-- What a pass over a module's items does, and what it leans on. Document 01, 'First pass', 'Second pass'.
use Rattle.std.specs.Prelude.{Some}
use Rattle.std.specs.Prelude.{ℕ, ◌*◌, ◌≤◌, ◌≡◌, false, List, length, get_or}
use Rattle.tree.specs.Grammar.{rule_of, step_at}
use Rattle.tree.specs.Tree.{Field, Fields, none, more}
use Rattle.tree.specs.Standing.{tree_at, row_at, Row}
use Rattle.inputs.specs.Outcome.{done, onto}
use Rattle.inputs.specs.Fields.{keep}
use Rattle.extraction_rules.specs.State.{State, Pass, first, second, Setting, Act}
use Rattle.extraction_rules.specs.First.{stays}
use Rattle.extraction_rules.specs.Walk.{walk, walk_all, walk_module}
use Rattle.extraction_rules.specs.Call.{module_with}
use Rattle.extraction_rules.proofs.WalkLaws.{Imports, ImportsAll}
use Rattle.extraction_rules.proofs.SanityLaws.{Known}
use Rattle.state.specs.Cells.{Env, namespaces_in, sources_in}
use Rattle.steps.specs.Step.{ReadAt, Reads}

-- what the tables lean on at `at`: in the first pass there is at most one namespace for 9 bytes, in the second the sources of imports are
-- collected ones, unless they are external
abbrev pub Ready : Pass → ℕ → ℕ → State → Type 0 → Type 0
Ready first at end u known = (9 * namespaces_in u.collected ≤ at) × (end ≤ 32768)
Ready second at end u known = known

-- an item that was read
pub record ItemRead (s : List ℕ) (at stop : ℕ) (x : Env) (u : State) : Type 0 where
  pub read : ReadAt s at stop
  pub tag : step_at (rule_of 0x01) (get_or s at 0) ≡ Some (rule_of 0x01)
  pub reads : Reads x s
  pub ready : Ready x.setting.pass at stop u (Imports (tree_at s at stop) (Known x.setting.externals (sources_in u.collected)))

-- the items from `at` up to end
pub record ItemsRead (s : List ℕ) (at end : ℕ) (x : Env) (u : State) : Type 0 where
  pub inside : at ≤ end
  pub row : Row s at end (rule_of 0x01)
  pub fits : end ≤ length s
  pub reads : Reads x s
  pub ready : Ready x.setting.pass at end u (ImportsAll (row_at s at end) (Known x.setting.externals (sources_in u.collected)))

-- an item is walked, and stays or not; items; the module of them
abbrev pub item_act : Setting → List ℕ → ℕ → ℕ → Act Fields
item_act e s at stop = λ u. onto (walk (tree_at s at stop) e false at u) (λ r. done (keep stays (more r.0 none), r.1))

abbrev pub items_act : Setting → List ℕ → ℕ → ℕ → Act Fields
items_act e s at end = λ u. onto (walk_all (row_at s at end) e false at u) (λ r. done (keep stays r.0, r.1))

abbrev pub pass_act : Setting → List ℕ → Act Field
pass_act e s = λ u. onto (walk_module e (row_at s 3 (length s)) u) (λ r. done (module_with r.0, r.1))
