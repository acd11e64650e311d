-- How the code's steps stand to the rules: what its answers stand for, what is read, and what a step has done.
use Rattle.std.specs.Prelude.{Option, Some, Result, Ok, Err}
use Rattle.std.specs.Prelude.{ℕ, ◌+◌, ◌≤◌, ◌<◌, ◌≡◌, List, length}
use Rattle.writer.specs.Wrote.{Wrote, Opened, closed}
use Rattle.tree.specs.Access.{extent_at}
use Rattle.tree.specs.Standing.{tree_at, row_at, Whole, Row}
use Rattle.tree.specs.declared.grammar.Rule.{Rule}
use Rattle.tree.specs.Layout.{id_at}
use Rattle.tree.specs.Tree.{Field, field, Fields, none}
use Rattle.inputs.specs.Lists.{mapped}
use Rattle.inputs.specs.Outcome.{Outcome, done, refused, onto}
use Rattle.scope.specs.declared.id.Id.{Id}
use Rattle.extraction_rules.specs.State.{State, Act}
use Rattle.extraction_rules.specs.First.{bindings}
use Rattle.extraction_rules.proofs.AlikeLaws.{Regular, RegularAll}
use Rattle.state.specs.Cells.{Env, id_by, Shows}
use Rattle.state.specs.Does.{place_in, Did}
use Rattle.steps.specs.Refusal.{Refusal}
use Rattle.steps.specs.Refusal.{refusal_of}

-- ---- What answers stand for

abbrev pub ident_by : Option Id → Option (List ℕ)
ident_by i = mapped id_by i

-- ---- Fields that were read

-- the field at `at` ends at stop, and reading accepts it
pub record ReadAt (s : List ℕ) (at stop : ℕ) : Type 0 where
  pub end : ℕ
  pub inside : at ≤ end
  pub fits : end ≤ length s
  pub extent : extent_at s at end ≡ Some stop
  pub whole : Whole s at stop

-- and it may stand behind the imports
pub record Sound (s : List ℕ) (at stop : ℕ) : Type 0 where
  pub read : ReadAt s at stop
  pub regular : Regular (tree_at s at stop)

-- the same of the fields from `at` up to end
pub record SoundAll (s : List ℕ) (at end : ℕ) : Type 0 where
  pub rule : Rule
  pub fits : end ≤ length s
  pub row : Row s at end rule
  pub regular : RegularAll (row_at s at end)

-- what stands at the places of the tree s that is walked: at place 0 nothing is bound, at that of a pattern what it binds, and literals are
-- their bytes
pub record Reads (x : Env) (s : List ℕ) : Type 0 where
  pub nothing_bound : x.bound 0 ≡ none
  pub pattern : (at stop : ℕ) → 0 < at → ReadAt s at stop → x.bound (place_in x.setting.pass at) ≡ bindings (tree_at s at stop)
  pub literals : (at : ℕ) → at + 6 ≤ length s → x.literal (place_in x.setting.pass at) ≡ id_at s at

-- ---- Steps

-- the position behind what a step wrote, or why it turned back
abbrev pub Step : Type 0
Step = Result ℕ Refusal

-- the same where nothing is written
abbrev pub Effect : Type 0
Effect = Result Unit Refusal

-- what was written at o is the value of a rule's step, and the array shows its state
pub record Made {A : Type 0} (bytes : A → List ℕ) (x : Env) (m : Outcome (A × State)) (out : List ℕ) (o : ℕ) (t' out' : List ℕ) (p : ℕ) : Type 0 where
  pub value : A
  pub state : State
  pub is : m ≡ done (value, state)
  pub wrote : Wrote out o (bytes value) out' p
  pub shows : Shows x t' state

-- from every state that the array shows, where P holds, the step is done as the rules do it and its bytes are written, or it is refused
pub record Steps {A : Type 0} (bytes : A → List ℕ) (P : Env → State → Type 0) (act : Env → Act A) (t out : List ℕ) (o : ℕ) (t' out' : List ℕ) (k : Step) : Type 0 where
  pub size : length out' ≡ length out
  pub made : (p : ℕ) → k ≡ Ok p → {x : Env} (s : State) → Shows x t s → P x s → Made bytes x (act x s) out o t' out' p
  pub turned : (e : Refusal) → k ≡ Err e → {x : Env} (s : State) → Shows x t s → P x s → act x s ≡ refused (refusal_of e.why) e.place

-- the same of a step that writes nothing
pub record Effects (P : Env → State → Type 0) (act : Env → Act (Unit {0})) (t t' : List ℕ) (k : Effect) : Type 0 where
  pub fine : k ≡ Ok tt → {x : Env} (s : State) → Shows x t s → P x s → Did x (act x s) t'
  pub turned : (e : Refusal) → k ≡ Err e → {x : Env} (s : State) → Shows x t s → P x s → act x s ≡ refused (refusal_of e.why) e.place

-- ---- A field whose parts are steps

-- a field with tag n and fixed bytes x is begun at o, and its parts go to c
pub record Begun (l : List ℕ) (o n : ℕ) (x l' : List ℕ) (c : ℕ) : Type 0 where
  pub head : List ℕ
  pub start : ℕ
  pub opened : Opened l o n head start
  pub fixed : Wrote head start x l' c

-- after the parts the length is filled in; a refusal is passed on
pub record Ended (o : ℕ) (r : Step) (l l' : List ℕ) (k : Step) : Type 0 where
  pub size : length l' ≡ length l
  pub done : (p : ℕ) → r ≡ Ok p → (k ≡ Ok p) × (l' ≡ closed l o p)
  pub refused : (e : Refusal) → r ≡ Err e → k ≡ Err e

-- the parts of a field, and then the field with them
abbrev pub with_parts : ℕ → List ℕ → (Env → Act Fields) → Env → Act Field
with_parts n x m = λ y s. onto (m y s) (λ r. done (field n x r.0, r.1))
