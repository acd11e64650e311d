-- A scope as its modules in the order of their numbers, each with its file and its marks, and one definition for each call on it.
-- Document 01, 'Scope', and the rows 5 and 12 of 'Where a call turns back': place 0 for both.
use Rattle.std.specs.Prelude.{ℕ, zero, suc, ◌+◌, ◌*◌, Bool, true, false, cond, ◌&&◌, List, [], ◌∷◌, ◌++◌, map, ltb, eqb, length}
use Rattle.std.specs.Prelude.{Option, None, Some}
use Rattle.scope.specs.Id.{empty, mod_atom, atom, context, module_id, local_ctxt, export_ctxt}
use Rattle.scope.specs.declared.id.SyntaxContext.{SyntaxContext}
use Rattle.scope.specs.declared.id.ModuleId.{ModuleId}
use Rattle.scope.specs.declared.id.FileName.{FileName}
use Rattle.scope.specs.declared.id.Id.{Id}
use Rattle.scope.specs.declared.Mark.{Mark}
use Rattle.scope.specs.declared.Mark.TheVariants.{Loaded, Stored, Cjs, Wrapping}

-- 'A file is a 2-byte number.' 'Loaded, stored, cjs and wrapping marks'
pub record Module : Type 0 where
  pub file : ℕ
  pub loaded : Bool
  pub stored : Bool
  pub cjs : Bool
  pub wrapping : Bool

-- a module's number is its place, from 0
abbrev pub Modules : Type 0
Modules = List Module

-- ---- Requests

-- the place of a file among files, from 0
abbrev pub next : Option ℕ → Option ℕ
next None = None
next (Some n) = Some (suc n)

unfoldable pub place_of : ℕ → List ℕ → Option ℕ
place_of f [] = None
place_of f (g ∷ gs) = cond (eqb f g) (Some zero) (next (place_of f gs))

-- the number that a file has
unfoldable pub number_of : ℕ → Modules → Option ℕ
number_of f ms = place_of f (map (λ m. m.file) ms)

-- marks 'start unset'
abbrev pub unmarked : ℕ → Module
unmarked f = record { file = f; loaded = false; stored = false; cjs = false; wrapping = false }

-- 'The first request for a file gives it the next module number n from 0; later ones give the same.' None: a 257th file
abbrev pub request_by : Option ℕ → ℕ → Modules → Option (ℕ × Modules)
request_by (Some n) f ms = Some (n, ms)
request_by None f ms = cond (ltb (length ms) 256) (Some (length ms, ms ++ (unmarked f ∷ []))) None

unfoldable pub request : ℕ → Modules → Option (ℕ × Modules)
request f ms = request_by (number_of f ms) f ms

-- a refusal's number and its place; none where the call is accepted
abbrev pub Refusal : Type 0
Refusal = Option (ℕ × ℕ)

-- 5: a 257th file, 'in file requests (place 0)'
abbrev pub too_many_files : ℕ × ℕ
too_many_files = (5, 0)

-- what a request leaves and answers: the modules, the number and its contexts; refused, all else as it was
pub record Generated : Type 0 where
  pub modules : Modules
  pub id : ModuleId
  pub local_ctxt : SyntaxContext
  pub export_ctxt : SyntaxContext
  pub refusal : Refusal

abbrev pub generated_by : Option (ℕ × Modules) → Modules → Generated
generated_by (Some r) ms =
    record { modules = r.1; id = module_id r.0; local_ctxt = local_ctxt (module_id r.0); export_ctxt = export_ctxt (module_id r.0); refusal = None }
generated_by None ms = record { modules = ms; id = module_id 0; local_ctxt = context empty; export_ctxt = context empty; refusal = Some too_many_files }

unfoldable pub gen : FileName → Modules → Generated
gen f ms = generated_by (request f.0 ms) ms

-- 'a lent list of files (2 bytes each, an odd last byte unread)'
unfoldable pub files_in : List ℕ → List ℕ
files_in [] = []
files_in (a ∷ []) = []
files_in (a ∷ (b ∷ l)) = (a * 256 + b) ∷ files_in l

-- what a call leaves
pub record Left : Type 0 where
  pub modules : Modules
  pub refusal : Refusal

-- the files in order, up to the first that is refused
abbrev pub go_on : Option (ℕ × Modules) → (Modules → Left) → Modules → Left
go_on (Some r) rest ms = rest r.1
go_on None rest ms = record { modules = ms; refusal = Some too_many_files }

unfoldable pub request_all : List ℕ → Modules → Left
request_all [] ms = record { modules = ms; refusal = None }
request_all (f ∷ fs) ms = go_on (request f ms) (λ r. request_all fs r) ms

-- ---- Marks

abbrev pub marked : Mark → Module → Bool
marked Loaded m = m.loaded
marked Stored m = m.stored
marked Cjs m = m.cjs
marked Wrapping m = m.wrapping

-- marks 'are only set'
abbrev pub with_mark : Mark → Module → Module
with_mark Loaded m = record { file = m.file; loaded = true; stored = m.stored; cjs = m.cjs; wrapping = m.wrapping }
with_mark Stored m = record { file = m.file; loaded = m.loaded; stored = true; cjs = m.cjs; wrapping = m.wrapping }
with_mark Cjs m = record { file = m.file; loaded = m.loaded; stored = m.stored; cjs = true; wrapping = m.wrapping }
with_mark Wrapping m = record { file = m.file; loaded = m.loaded; stored = m.stored; cjs = m.cjs; wrapping = true }

-- module n has mark k; a number not given has none
unfoldable pub is_marked : Mark → ℕ → Modules → Bool
is_marked k n [] = false
is_marked k zero (m ∷ ms) = marked k m
is_marked k (suc n) (m ∷ ms) = is_marked k n ms

-- module n gets mark k; a number not given changes nothing
unfoldable pub set_mark : Mark → ℕ → Modules → Modules
set_mark k n [] = []
set_mark k zero (m ∷ ms) = with_mark k m ∷ ms
set_mark k (suc n) (m ∷ ms) = m ∷ set_mark k n ms

-- 12: 'module number not given', place 0
abbrev pub not_given : ℕ × ℕ
not_given = (12, 0)

abbrev pub given : ModuleId → Modules → Bool
given m ms = ltb m.0 (length ms)

-- a mark is set
unfoldable pub marking : Mark → ModuleId → Modules → Left
marking k m ms = cond (given m ms) (record { modules = set_mark k m.0 ms; refusal = None }) (record { modules = ms; refusal = Some not_given })

-- what a reading call answers: a value, or a refusal's number and place
pub data Outcome (A : Type 0) : Type 0 where
  done : A → Outcome A
  refused : ℕ × ℕ → Outcome A

-- a mark is read
unfoldable pub read_mark : Mark → ModuleId → Modules → Outcome Bool
read_mark k m ms = cond (given m ms) (done (is_marked k m.0 ms)) (refused not_given)

-- '`wrapped_esm_id` gives (mod, export context) for wrapped stored modules, else none.'
abbrev pub esm_id : Bool → Bool → ModuleId → Option Id
esm_id wrapping stored m = cond (wrapping && stored) (Some (record { 0 = atom mod_atom; 1 = export_ctxt m })) None

unfoldable pub wrapped_esm_id : ModuleId → Modules → Outcome (Option Id)
wrapped_esm_id m ms = cond (given m ms) (done (esm_id (is_marked Wrapping m.0 ms) (is_marked Stored m.0 ms) m)) (refused not_given)
