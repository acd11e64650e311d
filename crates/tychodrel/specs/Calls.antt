-- What the calls give and leave that start a scope. Document 01: 'Its calls start a fresh scope and first request a lent list
-- of files in it (.. 5 there comes first, place 0)'.
use Rattle.std.specs.Prelude.{ℕ, ◌≤◌, ◌≡◌, List, [], replicate, Option, None, Some}
use Rattle.report.specs.declared.Report.{Report}
use Rattle.report.specs.Counts.{no_counts}
use Rattle.scope.specs.Modules.{Modules, Refusal, files_in, request_all}
use Rattle.extraction_rules.specs.Call.{Lent as Extracting, Lengths, Left as Extraction, extraction}
use Rattle.resolving_rules.specs.Call.{Lent as Resolving, Left as Resolution, resolving}
use Rattle.tychodrel.specs.Answer.{packed_in, scope_bytes, report_bytes}

-- ---- The files

-- after their request: refused or not, and the modules that were given
abbrev pub on_files : {A : Type 0} → Refusal → Modules → (Modules → A) → (ℕ × ℕ → Modules → A) → A
on_files None ms go stop = go ms
on_files (Some r) ms go stop = stop r ms

-- what a call gives in a fresh scope with these files
unfoldable pub with_files : {A : Type 0} → List ℕ → (Modules → A) → (ℕ × ℕ → Modules → A) → A
with_files files go stop =
    let r = request_all (files_in files) [] in
    on_files r.refusal r.modules go stop

-- ---- The calls; where the files are refused, 'buffers all zero', and the scope has those that were given

abbrev pub extract_none : Lengths → ℕ × ℕ → Modules → Extraction
extract_none room r ms =
    record {
      refusal = Some r;
      modules = ms;
      report = no_counts;
      work = replicate room.work 0;
      out = replicate room.out 0;
      records = replicate room.records 0;
    }

abbrev pub extract_call : List ℕ → Extracting → Lengths → Extraction
extract_call files l room = with_files files (extraction l room) (extract_none room)

abbrev pub resolve_none : ℕ → ℕ × ℕ → Modules → Resolution
resolve_none room r ms = record { refusal = Some r; modules = ms; report = no_counts; list = replicate room 0 }

abbrev pub resolve_call : List ℕ → Resolving → ℕ → Resolution
resolve_call files l room = with_files files (resolving l room) (resolve_none room)

-- ---- What they leave

-- a refusal's number is not 0: so a zero upper half is acceptance
abbrev pub Numbered : Option (ℕ × ℕ) → Type 0
Numbered None = Unit {0}
Numbered (Some r) = 1 ≤ r.0

-- a call answers a, and leaves s in the array for the scope and b in that for the report
pub record Tells (refusal : Option (ℕ × ℕ)) (ms : Modules) (counts : Report) (a : ℕ) (s b : List ℕ) : Type 0 where
  pub answer : a ≡ packed_in refusal
  pub numbered : Numbered refusal
  pub scope : s ≡ scope_bytes ms
  pub report : b ≡ report_bytes counts

-- and w, o, r in the buffers of an extraction
pub record Leaves (l : Extraction) (a : ℕ) (s b w o r : List ℕ) : Type 0 where
  pub tells : Tells l.refusal l.modules l.report a s b
  pub work : w ≡ l.work
  pub out : o ≡ l.out
  pub records : r ≡ l.records

-- and k in the buffer of a resolving
pub record LeavesList (l : Resolution) (a : ℕ) (s b k : List ℕ) : Type 0 where
  pub tells : Tells l.refusal l.modules l.report a s b
  pub list : k ≡ l.list
