-- Demand 3, second part: the wrapping marks after every list of calls. Document 01, 'Demand 3's words', the sentence on lists.
use Rattle.std.specs.Prelude.{ℕ, ◌≡◌, Bool, false, not, ◌&&◌, ◌||◌, List, [], ◌∷◌, eqb}
use Rattle.scope.specs.declared.id.FileName.{FileName}
use Rattle.scope.specs.declared.id.ModuleId.{ModuleId}
use Rattle.scope.specs.declared.Mark.{Mark}
use Rattle.scope.specs.declared.Mark.TheVariants.{Loaded, Stored, Cjs, Wrapping}
use Rattle.scope.specs.Modules.{Modules, gen, files_in, request_all, marking, is_marked}
use Rattle.inputs.specs.Outcome.{Outcome, done, refused}
use Rattle.inputs.specs.Lists.{is_some}
use Rattle.inputs.specs.Table.{Row, rows_in}
use Rattle.extraction_rules.specs.Reach.{reaches}
use Rattle.extraction_rules.specs.Call.{Lent, Lengths, Extracted, extracted, extraction}
use Rattle.resolving_rules.specs.Call.{Lent as LentRecords, resolving}

-- ---- Lists of calls

-- a call on a scope with all its inputs: a file request, one for a lent list of files, a mark set or read (`wrapped_esm_id` reads two),
-- an extraction, a resolving; 'calls that start their own scope stand in no list'
pub data Call : Type 0 where
  requests : FileName → Call
  requests_all : List ℕ → Call
  sets : Mark → ModuleId → Call
  reads : Mark → ModuleId → Call
  reads_esm : ModuleId → Call
  extracts : Lent → Lengths → Call
  resolves : LentRecords → ℕ → Call

-- the scope's modules after a call, refused or not
unfoldable pub after : Call → Modules → Modules
after (requests f) ms = (gen f ms).modules
after (requests_all files) ms = (request_all (files_in files) ms).modules
after (sets k m) ms = (marking k m ms).modules
after (reads k m) ms = ms
after (reads_esm m) ms = ms
after (extracts l room) ms = (extraction l room ms).modules
after (resolves l room) ms = (resolving l room ms).modules

-- 'followed call by call', 'nothing else writes the scope between'
unfoldable pub after_all : List Call → Modules → Modules
after_all [] ms = ms
after_all (c ∷ l) ms = after_all l (after c ms)

-- ---- What wraps a module

-- an accepted extraction forced a source that its table resolves to the module
abbrev pub forced_to : ℕ → List Row → Outcome Extracted → Bool
forced_to n rows (done r) = reaches n rows r.modules r.forced
forced_to n rows (refused k p) = false

-- such an extraction, or an accepted call that sets the wrapping mark and names the module
unfoldable pub wraps : ℕ → Call → Modules → Bool
wraps n (requests f) ms = false
wraps n (requests_all files) ms = false
wraps n (sets Loaded m) ms = false
wraps n (sets Stored m) ms = false
wraps n (sets Cjs m) ms = false
wraps n (sets Wrapping m) ms = not (is_some (marking Wrapping m ms).refusal) && eqb n m.0
wraps n (reads k m) ms = false
wraps n (reads_esm m) ms = false
wraps n (extracts l room) ms = forced_to n (rows_in l.table) (extracted l room ms)
wraps n (resolves l room) ms = false

-- a call of the list wraps the module, where ms is the scope before the first
unfoldable pub wraps_any : ℕ → List Call → Modules → Bool
wraps_any n [] ms = false
wraps_any n (c ∷ l) ms = wraps n c ms || wraps_any n l (after c ms)

-- ---- 'a single claim on the whole list'

-- after a list 'from a fresh scope' a module is marked for wrapping exactly when a call of the list wrapped it
abbrev pub MarkedExactly : Type 0
MarkedExactly = (calls : List Call) (n : ℕ) → is_marked Wrapping n (after_all calls []) ≡ wraps_any n calls []
