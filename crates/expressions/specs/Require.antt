-- What the functions for calls of require do. Document 01, 'First pass', "Require".
use Rattle.std.specs.Prelude.{Option, None, Some, Result, Ok, Err}
use Rattle.std.specs.Prelude.{ℕ, ◌+◌, ◌≤◌, ◌≡◌, cond, List, [], ◌++◌, length}
use Rattle.scope.specs.declared.id.ModuleId.{ModuleId}
use Rattle.scope.specs.declared.TooManyFiles.{TooManyFiles}
use Rattle.writer.specs.Wrote.{Wrote}
use Rattle.tree.specs.Tree.{Field, field, Fields, none, more, fixed_of, encode}
use Rattle.inputs.specs.Fields.{has}
use Rattle.inputs.specs.Outcome.{refused}
use Rattle.extraction_rules.specs.State.{State, Setting}
use Rattle.extraction_rules.specs.First.{with_callee, mark_required}
use Rattle.tree.specs.Layout.{id_at}
use Rattle.state.specs.Cells.{Env, literal_by, Valued, Shows}
use Rattle.state.specs.Does.{Gave}
use Rattle.state.specs.declared.Literal.{Literal}
use Rattle.steps.specs.Step.{Reads}

-- a literal, where one stands
abbrev pub FoundIs : List ℕ → Option (List ℕ) → Option ℕ → Type 0
FoundIs s l (Some at) = (l ≡ Some (id_at s at)) × (at + 6 ≤ length s)
FoundIs s l None = l ≡ None

pub record Found (s : List ℕ) (l : Option (List ℕ)) (r : Option ℕ) : Type 0 where
  pub is : FoundIs s l r

-- the literal that f gives, by its value and its place
abbrev pub SourceIs : Env → Option (List ℕ) → Option Literal → Type 0
SourceIs x l (Some n) = (l ≡ Some (literal_by x n)) × Valued x n
SourceIs x l None = l ≡ None

pub record RequiredIs (f : Setting → State → Option (List ℕ)) (s t : List ℕ) (r : Option Literal) : Type 0 where
  pub is : {x : Env} (u : State) → Shows x t u → Reads x s → SourceIs x (f x.setting u) r

-- what stands first, if it is a 61
unfoldable pub literal_first : Fields → Option (List ℕ)
literal_first none = None
literal_first (more f fs) = cond (has 0x61 f) (Some (fixed_of f)) None

-- a call whose source has this module, if it has one
abbrev pub called : Option ModuleId → Field → Field
called (Some n) f = with_callee n.0 f
called None f = f

-- the module of a required source, if it has one, is marked and the callee set; or a 257th file is refused
pub record Requires (l : Literal) (t t' : List ℕ) (r : Result (Option ModuleId) TooManyFiles) : Type 0 where
  pub marked : (m : Option ModuleId) → r ≡ Ok m → {x : Env} (f : Field) (p : ℕ) (s : State) → Shows x t s → Valued x l →
      Gave x (mark_required x.setting (literal_by x l) f p s) (called m f) t'
  pub full : (e : TooManyFiles) → r ≡ Err e → {x : Env} (f : Field) (p : ℕ) (s : State) → Shows x t s → Valued x l → mark_required x.setting (literal_by x l) f p s ≡ refused 5 p

-- the callee of a call that stands written at o gets the export context of module n
pub record CalleeSet (n o : ℕ) (out out' : List ℕ) : Type 0 where
  pub size : length out' ≡ length out
  -- bs: what was written behind the call
  pub writes : (l : List ℕ) (p : ℕ) (y bs : List ℕ) (ds gs : Fields) → length y ≡ 6 → Wrote l o (encode (field 0x65 [] (more (field 0x60 y ds) gs)) ++ bs) out p →
      Wrote l o (encode (with_callee n (field 0x65 [] (more (field 0x60 y ds) gs))) ++ bs) out' p
