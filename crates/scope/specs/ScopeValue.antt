-- How the code keeps a scope: the modules that a `Scope` stands for, and document 01's number and values for each answer.
use Rattle.std.specs.Prelude.{ℕ, zero, suc, ◌+◌, ◌*◌, ◌/◌, ◌%◌, ◌<◌, ◌≤◌, min, ◌≡◌, Bool, false, List, [], ◌∷◌, eqb, length, get_or, set}
use Rattle.std.specs.Prelude.{Option, None, Some, Result, Ok, Err}
use Rattle.scope.specs.Id.{empty, context, module_id}
use Rattle.scope.specs.Modules.{Module, Modules, Refusal, too_many_files, Generated, Left, not_given, Outcome, done, refused}
use Rattle.scope.specs.declared.id.FileName.{FileName}
use Rattle.scope.specs.declared.id.Id.{Id}
use Rattle.scope.specs.declared.Mark.{Mark}
use Rattle.scope.specs.declared.Mark.TheVariants.{Loaded, Stored, Cjs, Wrapping}
use Rattle.scope.specs.declared.Scope.{Scope}
use Rattle.scope.specs.declared.Gen.{Gen}
use Rattle.scope.specs.declared.Numbers.{Numbers}
use Rattle.scope.specs.declared.Requested.{Requested}
use Rattle.scope.specs.declared.Marked.{Marked}
use Rattle.scope.specs.declared.TooManyFiles.{TooManyFiles}
use Rattle.scope.specs.declared.NoSuchModule.{NoSuchModule}

-- where mark k of module n stands
abbrev pub rank_of : Mark → ℕ
rank_of Loaded = 0
rank_of Stored = 1
rank_of Cjs = 2
rank_of Wrapping = 3

abbrev pub slot_of : Mark → ℕ → ℕ
slot_of k n = 256 * rank_of k + n

abbrev pub file_number : FileName → ℕ
file_number f = f.0

abbrev pub module_at : List FileName → List Bool → ℕ → Module
module_at files marks n =
    record {
      file = file_number (get_or files n (record { 0 = 0 }));
      loaded = get_or marks (slot_of Loaded n) false;
      stored = get_or marks (slot_of Stored n) false;
      cjs = get_or marks (slot_of Cjs n) false;
      wrapping = get_or marks (slot_of Wrapping n) false;
    }

-- a scope after a mark's store
abbrev pub stored : Scope → Mark → ℕ → Bool → Scope
stored s k n on = record { count = s.count; files = s.files; marks = set s.marks (slot_of k n) on }

-- k modules from number n on
unfoldable pub modules_from : ℕ → ℕ → List FileName → List Bool → Modules
modules_from zero n files marks = []
modules_from (suc k) n files marks = module_at files marks n ∷ modules_from k (suc n) files marks

-- the modules of a scope; a count over 256 stands for 256
unfoldable pub modules_of : Scope → Modules
modules_of s = modules_from (min s.count 256) 0 s.files s.marks

-- the module that two numbers stand for: its file, and its marks (1 for loaded, 2 stored, 4 cjs, 8 wrapping, added up)
abbrev pub module_by : ℕ → ℕ → Module
module_by f m = record { file = f % 65536; loaded = eqb (m % 2) 1; stored = eqb (m / 2 % 2) 1; cjs = eqb (m / 4 % 2) 1; wrapping = eqb (m / 8 % 2) 1 }

-- k modules in cells, two cells each, from cell `at` on
unfoldable pub modules_in : ℕ → ℕ → List ℕ → Modules
modules_in zero at t = []
modules_in (suc k) at t = module_by (get_or t at 0) (get_or t (at + 1) 0) ∷ modules_in k (at + 2) t

-- cells t' are cells t but for those from lo up to hi
pub record Rewrites (lo hi : ℕ) (t t' : List ℕ) : Type 0 where
  pub size : length t' ≡ length t
  pub below : (i : ℕ) → i < lo → get_or t' i 0 ≡ get_or t i 0
  pub above : (i : ℕ) → hi ≤ i → get_or t' i 0 ≡ get_or t i 0

-- numbers and places of the refusals
abbrev pub file_refusal : {A : Type 0} → Result A TooManyFiles → Refusal
file_refusal (Ok _) = None
file_refusal (Err _) = Some too_many_files

abbrev pub set_refusal : Result Unit NoSuchModule → Refusal
set_refusal (Ok _) = None
set_refusal (Err _) = Some not_given

-- the numbers that an answer gives: refused, number 0 and the context of no module
abbrev pub numbers_by : Result Numbers TooManyFiles → Numbers
numbers_by (Ok n) = n
numbers_by (Err _) = record { id = module_id 0; local_ctxt = context empty; export_ctxt = context empty }

-- what the answers stand for
abbrev pub generated : Gen → Generated
generated r =
    record {
      modules = modules_of r.scope;
      id = (numbers_by r.answer).id;
      local_ctxt = (numbers_by r.answer).local_ctxt;
      export_ctxt = (numbers_by r.answer).export_ctxt;
      refusal = file_refusal r.answer;
    }

abbrev pub requested : Requested → Left
requested r = record { modules = modules_of r.scope; refusal = file_refusal r.answer }

abbrev pub marked_by : Marked → Left
marked_by r = record { modules = modules_of r.scope; refusal = set_refusal r.answer }

abbrev pub read_by : Result Bool NoSuchModule → Outcome Bool
read_by (Ok b) = done b
read_by (Err _) = refused not_given

abbrev pub esm_by : Result (Option Id) NoSuchModule → Outcome (Option Id)
esm_by (Ok i) = done i
esm_by (Err _) = refused not_given
