-- What the functions of the walk do: each walks a field or a row of fields that was read, as the rules do, and writes what becomes of it.
use Rattle.std.specs.Prelude.{Option, None, Some, Ok, Err}
use Rattle.std.specs.Prelude.{ℕ, ◌+◌, ◌≤◌, ◌≡◌, Bool, true, false, cond, List, [], ◌++◌, length, get_or}
use Rattle.writer.specs.Wrote.{Wrote}
use Rattle.tree.specs.Tree.{Field, field, Fields, none, more, encode, encodes}
use Rattle.tree.specs.Access.{extent_at}
use Rattle.tree.specs.Standing.{row_at}
use Rattle.inputs.specs.Outcome.{done, refused, onto}
use Rattle.inputs.specs.Fields.{inside}
use Rattle.extraction_rules.specs.State.{State, Pass, first, second, Setting, Act, ◌>>=◌, give}
use Rattle.extraction_rules.specs.First.{force_id, bindings, required, collect, add_lazy, mark_required, require_lazily, declarator}
use Rattle.extraction_rules.specs.Walk.{walk, walk_all, walk_member, walk_assignment, walk_target}
use Rattle.state.specs.Cells.{Env, literal_by, Valued, Shows}
use Rattle.state.specs.Does.{place_in, Gave}
use Rattle.state.specs.declared.Literal.{Literal}
use Rattle.scope.specs.declared.id.ModuleId.{ModuleId}
use Rattle.expressions.specs.Require.{called}
use Rattle.steps.specs.Refusal.{Refusal}
use Rattle.steps.specs.Step.{Reads, Sound, SoundAll, Made, Step, Effect, Steps}
use Rattle.steps.specs.Refusal.{refusal_of}
use Rattle.walking.specs.declared.Way.{Way}
use Rattle.walking.specs.declared.Way.TheVariants.{Children, Member, Assignment}

-- a step on the field at `at` up to stop
abbrev pub FieldSteps : List ℕ → ℕ → ℕ → (Env → Act Field) → List ℕ → List ℕ → ℕ → List ℕ → List ℕ → Step → Type 0
FieldSteps s at stop act t out o t' out' k = Steps encode (λ x u. Sound s at stop × Reads x s) act t out o t' out' k

-- a step on the fields from `at` up to end: it gives fields
abbrev pub RowSteps : List ℕ → ℕ → ℕ → (Env → Act Fields) → List ℕ → List ℕ → ℕ → List ℕ → List ℕ → Step → Type 0
RowSteps s at end act t out o t' out' k = Steps encodes (λ x u. SoundAll s at end × Reads x s) act t out o t' out' k

-- ---- The parts of a field

-- the first of a row by a way, and the way of the others
unfoldable pub first_by : Way → Field → Setting → ℕ → Act Field
first_by (Children object) f e p = walk f e object p
first_by Member f e p = walk f e true p
first_by (Assignment object) f e p = walk_target f e p

unfoldable pub others_by : Way → Bool
others_by (Children object) = object
others_by Member = false
others_by (Assignment object) = object

-- a row, and the field around it
unfoldable pub row_by : Way → Fields → Setting → ℕ → Act Fields
row_by (Children object) cs e p = walk_all cs e object p
row_by Member cs e p = walk_member cs e p
row_by (Assignment object) cs e p = walk_assignment cs e object p

unfoldable pub node_by : Way → Field → Setting → ℕ → Act Field
node_by way (field n x cs) e p = λ s. onto (row_by way cs e (inside p x) s) (λ r. done (field n x r.0, r.1))

-- a 63 of a 60 and a 70, by their tags where these must stand
abbrev pub NameIs : List ℕ → ℕ → Bool → Type 0
NameIs s at true = (get_or s at 0 ≡ 0x63) × (get_or s (at + 3) 0 ≡ 0x60) × (get_or s (at + 12) 0 ≡ 0x70) × (at + 17 ≤ length s)
NameIs s at false = Unit {0}

-- ---- A declarator

-- what stands behind the pattern q of the 42 at p: 'an initialiser meeting the require conditions'
unfoldable pub initialised : Setting → Field → Fields → ℕ → Act Fields
initialised e q none p = give none
initialised e q (more i rest) p = do
  j ← require_lazily (required e i) e q i p
  give (more j rest)

-- the walked parts behind a pattern q of the 42 at p, and all its parts
abbrev pub behind : Setting → Bool → List ℕ → ℕ → ℕ → ℕ → Field → Act Fields
behind e object s at end p q = λ u. onto (walk_all (row_at s at end) e object at u) (λ b. initialised e q b.0 p b.1)

abbrev pub declared : Setting → Bool → List ℕ → ℕ → ℕ → ℕ → Act Fields
declared e object s at end p = λ u. onto (walk_all (row_at s at end) e object at u) (λ r. declarator e r.0 p r.1)

-- at most one field stands there
abbrev pub Sole : List ℕ → ℕ → ℕ → Type 0
Sole s at end = (stop : ℕ) → extent_at s at end ≡ Some stop → extent_at s stop end ≡ None

-- a pattern, and at most an initialiser
abbrev pub Declares : List ℕ → ℕ → ℕ → Env → Type 0
Declares s at end x = SoundAll s at end × Reads x s × ((stop : ℕ) → extent_at s at end ≡ Some stop → Sole s stop end)

-- where the pattern binds what stands at a place
abbrev pub Behind : List ℕ → ℕ → ℕ → ℕ → Field → Env → State → Type 0
Behind s at end pattern q x u = SoundAll s at end × Reads x s × (bindings q ≡ x.bound (place_in x.setting.pass pattern)) × Sole s at end

-- the array shows this pass
abbrev pub InPass : Pass → List ℕ → Type 0
InPass k t = (x : Env) (u : State) → Shows x t u → x.setting.pass ≡ k

-- ---- A 60

-- 'with *object* clear is forced', in the first pass
unfoldable pub forced_by : Pass → Bool → List ℕ → State → State
forced_by first object i s = cond object s (force_id i s)
forced_by second object i s = s

pub record ForcedFirst (object : Bool) (i : List ℕ) (t t' : List ℕ) : Type 0 where
  pub shows : {x : Env} (s : State) → Shows x t s → Shows x t' (forced_by x.setting.pass object i s)

-- ---- Calls of require

-- 'Record without specifiers: collected if *top*, else lazy.'
abbrev pub recorded : List ℕ → ℕ → Act (Unit {0})
recorded l p = λ s. cond s.top (collect (record { literal = l; specifiers = none }) p) (add_lazy (record { literal = l; specifiers = none }) p) s

-- a call whose callee is a 60
abbrev pub Called : Field → Type 0
Called f = (y : List ℕ) × (ds gs : Fields) × (f ≡ field 0x65 [] (more (field 0x60 y ds) gs)) × (length y ≡ 6)

-- the module of a required source, if one is found, is marked, and a call that stands written at o, with bs behind it up to p, is amended by it
pub record Marked (l : Literal) (at o : ℕ) (t out t' out' : List ℕ) : Type 0 where
  pub found : Option ModuleId
  pub gave : {x : Env} (f : Field) (s : State) → Shows x t s → Valued x l → Gave x (mark_required x.setting (literal_by x l) f at s) (called found f) t'
  pub writes : {i : List ℕ} {p : ℕ} (f : Field) (bs : List ℕ) → Called f → Wrote i o (encode f ++ bs) out p → Wrote i o (encode (called found f) ++ bs) out' p

-- or the mark is refused
pub record Marks (l : Literal) (at o : ℕ) (t out t' out' : List ℕ) (k : Effect) : Type 0 where
  pub size : length out' ≡ length out
  pub marked : k ≡ Ok tt → Marked l at o t out t' out'
  pub turned : (e : Refusal) → k ≡ Err e → {x : Env} (f : Field) (s : State) → Shows x t s → Valued x l →
      mark_required x.setting (literal_by x l) f at s ≡ refused (refusal_of e.why) e.place

-- a call that stands written at o, with bs behind it up to p, is amended by a rule, or the rule is refused
pub record Amends (P : Env → Type 0) (act : Env → Field → Act Field) (o p : ℕ) (t out t' out' : List ℕ) (k : Step) : Type 0 where
  pub size : length out' ≡ length out
  pub made : (q : ℕ) → k ≡ Ok q → {x : Env} (s : State) → Shows x t s → P x → (l : List ℕ) (f : Field) (bs : List ℕ) → Called f → Wrote l o (encode f ++ bs) out p →
      Made (λ g. encode g ++ bs) x (act x f s) l o t' out' q
  pub turned : (e : Refusal) → k ≡ Err e → {x : Env} (s : State) → Shows x t s → P x → (f : Field) → act x f s ≡ refused (refusal_of e.why) e.place
