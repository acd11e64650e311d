-- What extraction keeps while it walks a tree, what it is set to, and the steps of which its rules are made.
-- Document 01, 'First pass'; the Rust's `ImportHandler` and `RawImports`.
use Rattle.std.specs.Prelude.{ℕ, Bool, true, cond, List, [], leb}
use Rattle.modes.specs.declared.Modes.{Modes}
use Rattle.scope.specs.Modules.{Modules}
use Rattle.tree.specs.Tree.{Fields}
use Rattle.inputs.specs.Outcome.{Outcome, done, refused, onto}
use Rattle.inputs.specs.Table.{Row}

-- ---- The state. Atoms, ids and literals are the bytes that stand in the tree.

-- a collected or lazy record: 'L, specifiers'
pub record Record : Type 0 where
  pub literal : List ℕ
  pub specifiers : Fields

-- an imported id and its context
pub record Imported : Type 0 where
  pub id : List ℕ
  pub context : List ℕ

-- a usage of an id: the property as an id, '(property, export context)'
pub record Usage : Type 0 where
  pub id : List ℕ
  pub property : List ℕ

pub record State : Type 0 where
  pub modules : Modules  -- of the scope
  pub imported : List Imported
  pub usages : List Usage
  pub collected : List Record
  pub lazy : List Record
  pub forced : List (List ℕ)  -- 'first forced first'
  pub top : Bool

-- 'Flag .. *top* set'
abbrev pub start : Modules → State
start ms = record { modules = ms; imported = []; usages = []; collected = []; lazy = []; forced = []; top = true }

-- the state with one thing changed
abbrev pub set_modules : Modules → State → State
set_modules x s = record { modules = x; imported = s.imported; usages = s.usages; collected = s.collected; lazy = s.lazy; forced = s.forced; top = s.top }

abbrev pub set_imported : List Imported → State → State
set_imported x s = record { modules = s.modules; imported = x; usages = s.usages; collected = s.collected; lazy = s.lazy; forced = s.forced; top = s.top }

abbrev pub set_usages : List Usage → State → State
set_usages x s = record { modules = s.modules; imported = s.imported; usages = x; collected = s.collected; lazy = s.lazy; forced = s.forced; top = s.top }

abbrev pub set_collected : List Record → State → State
set_collected x s = record { modules = s.modules; imported = s.imported; usages = s.usages; collected = x; lazy = s.lazy; forced = s.forced; top = s.top }

abbrev pub set_lazy : List Record → State → State
set_lazy x s = record { modules = s.modules; imported = s.imported; usages = s.usages; collected = s.collected; lazy = x; forced = s.forced; top = s.top }

abbrev pub set_forced : List (List ℕ) → State → State
set_forced x s = record { modules = s.modules; imported = s.imported; usages = s.usages; collected = s.collected; lazy = s.lazy; forced = x; top = s.top }

abbrev pub set_top : Bool → State → State
set_top x s = record { modules = s.modules; imported = s.imported; usages = s.usages; collected = s.collected; lazy = s.lazy; forced = s.forced; top = x }

-- ---- The setting

-- 'First pass', 'Second pass'
pub data Pass : Type 0 where
  first second : Pass

-- the pass, the own file's module number, and the lent lists
pub record Setting : Type 0 where
  pub pass : Pass
  pub own : ℕ
  pub config : Modes  -- the caller's choices
  pub externals : List (List ℕ)
  pub table : List Row

-- ---- Steps: from a state to a value and the next state, or to a refusal

abbrev pub Act : Type 0 → Type 0
Act A = State → Outcome (A × State)

infixl 10 ◌>>=◌
infixl 10 ◌>>◌
abbrev pub ◌>>=◌ : {A B : Type 0} → Act A → (A → Act B) → Act B
◌>>=◌ m f = λ s. onto (m s) (λ r. f r.0 r.1)

abbrev pub ◌>>◌ : {A B : Type 0} → Act A → Act B → Act B
◌>>◌ m n = λ s. onto (m s) (λ r. n r.1)

abbrev pub give : {A : Type 0} → A → Act A
give a = λ s. done (a, s)

abbrev pub skip : Act (Unit {0})
skip = give tt

abbrev pub change : (State → State) → Act (Unit {0})
change f = λ s. done (tt, f s)

-- a refusal's number and place
abbrev pub refuse : {A : Type 0} → ℕ → ℕ → Act A
refuse n p = λ s. refused n p

-- 8: a table that would hold n entries, over the most that it may
abbrev pub room_for : ℕ → ℕ → ℕ → (State → State) → Act (Unit {0})
room_for n most p f = cond (leb n most) (change f) (refuse 8 p)
