-- What the exported calls that start a scope leave, from what their parts leave.
use Rattle.std.specs.Prelude.{Option, Some, Result, Ok, Err}
use Prim.Native.Nat.{ℕ, ◌≤◌}
use native.Mathlib.Omega.{arith}
use mathlib.Core.Path.{◌≡◌, sym, ap, subst, ◌∙◌}
use mathlib.Core.List.{List, []}
use lib.ListN.{length}
use Rattle.report.specs.declared.Report.{Report}
use Rattle.report.specs.Counts.{no_counts}
use Rattle.scope.specs.Modules.{Modules, too_many_files, Left as Requesting, files_in, request_all}
use Rattle.scope.specs.ScopeValue.{modules_of, requested, file_refusal}
use Rattle.scope.specs.declared.Requested.{Requested}
use Rattle.scope.specs.declared.TooManyFiles.{TooManyFiles}
use Rattle.tree.specs.declared.read.Why.{Why as ReadWhy}
use Rattle.tree.specs.declared.read.Why.TheVariants.{Misplaced, Cut, Lacking, Deep}
use Rattle.tree.specs.Read.{refusal_of as read_refusal}
use Rattle.writer.specs.Finished.{zeroed}
use Rattle.steps.specs.declared.Why.{Why as WalkWhy}
use Rattle.steps.specs.declared.Why.TheVariants.{TooManyFiles as TooMany, StringName, PrivateName, TableFull}
use Rattle.steps.specs.Refusal.{refusal_of as walk_refusal}
use Rattle.extraction_rules.specs.Call.{Lent as Extracting, Lengths, Left as Extracted, extraction}
use Rattle.extraction.specs.declared.Extraction.{Extraction}
use Rattle.extraction.specs.declared.ExtractError.{ExtractError}
use Rattle.extraction.specs.declared.ExtractError.TheVariants.{BadLists, NamedTwice, Unread, Refused, NoRoom}
use Rattle.extraction.specs.Answer.{answer_refusal as extract_refusal, left as left_extracting, room_in}
use Rattle.resolving_rules.specs.Call.{Lent as Resolving, Left as Listed, resolving}
use Rattle.resolving.specs.declared.Resolution.{Resolution}
use Rattle.resolving.specs.declared.ResolveError.{ResolveError}
use Rattle.resolving.specs.declared.ResolveError.TheVariants.{BadTable, NamedTwice as TableTwice, Unread as NotRecords, TooManyFiles as TooManySources, Refused as NotListed, NoRoom as NoRoomFor}
use Rattle.resolving.specs.declared.specifiers.Why.{Why as ListWhy}
use Rattle.resolving.specs.declared.specifiers.Why.TheVariants.{Unresolved, StringName as TextName}
use Rattle.resolving.specs.Answer.{why_number}
use Rattle.resolving.specs.Answer.{answer_refusal as resolve_refusal, left as left_resolving}
use Rattle.tychodrel.specs.Answer.{packed_in, scope_bytes, report_bytes}
use Rattle.tychodrel.specs.Calls.{on_files, with_files, extract_none, extract_call, resolve_none, resolve_call, Numbered, Tells, Leaves, LeavesList}

-- ---- The files are requested in a fresh scope

module _ {A : Type 0} (q : Requested) (files : List ℕ) (go : Modules → A) (stop : ℕ × ℕ → Modules → A) (asked : requested q ≡ request_all (files_in files) []) where
  files-answered : (a : Result Unit TooManyFiles) → q.answer ≡ a → with_files files go stop ≡ on_files (file_refusal a) (modules_of q.scope) go stop
  unfolding with_files
  files-answered a h =
      ap (λ (r : Requesting). on_files r.refusal r.modules go stop) (sym asked)
      ∙ ap (λ (x : Result Unit TooManyFiles). on_files (file_refusal x) (modules_of q.scope) go stop) h

  files-given : q.answer ≡ Ok tt → with_files files go stop ≡ go (modules_of q.scope)
  files-given h = files-answered (Ok tt) h

  files-refused : {e : TooManyFiles} → q.answer ≡ Err e → with_files files go stop ≡ stop too_many_files (modules_of q.scope)
  files-refused {e} h = files-answered (Err e) h

-- what is told of a refusal, of modules and of counts, by what these are
tells-as : {x y : Option (ℕ × ℕ)} {ms new : Modules} {c d : Report} {a : ℕ} {s b : List ℕ} → Numbered x → a ≡ packed_in x → s ≡ scope_bytes ms → b ≡ report_bytes c →
    x ≡ y → ms ≡ new → c ≡ d → Tells y new d a s b
tells-as n a s b x m c =
    record { answer = a ∙ ap packed_in x; numbered = subst Numbered x n; scope = s ∙ ap scope_bytes m; report = b ∙ ap report_bytes c }

-- ---- No refusal has the number 0

read-numbered : (w : ReadWhy) → 1 ≤ read_refusal w
read-numbered Misplaced = omega arith
read-numbered Cut = omega arith
read-numbered Lacking = omega arith
read-numbered Deep = omega arith

walk-numbered : (w : WalkWhy) → 1 ≤ walk_refusal w
walk-numbered TooMany = omega arith
walk-numbered StringName = omega arith
walk-numbered PrivateName = omega arith
walk-numbered TableFull = omega arith

list-numbered : (w : ListWhy) → 1 ≤ why_number w
list-numbered Unresolved = omega arith
list-numbered TextName = omega arith

extract-numbered : (a : Result Unit ExtractError) → Numbered (extract_refusal a)
extract-numbered (Ok tt) = tt
extract-numbered (Err BadLists) = omega arith
extract-numbered (Err NamedTwice) = omega arith
extract-numbered (Err (Unread u)) = read-numbered u.why
extract-numbered (Err (Refused u)) = walk-numbered u.why
extract-numbered (Err NoRoom) = omega arith

resolve-numbered : (a : Result Unit ResolveError) → Numbered (resolve_refusal a)
resolve-numbered (Ok tt) = tt
resolve-numbered (Err BadTable) = omega arith
resolve-numbered (Err TableTwice) = omega arith
resolve-numbered (Err (NotRecords u)) = omega arith
resolve-numbered (Err (TooManySources p)) = omega arith
resolve-numbered (Err (NotListed u)) = list-numbered u.why
resolve-numbered (Err NoRoomFor) = omega arith

-- ---- Extraction

-- in a scope
pub leaves-extracted : {e : Extracted} (r : Extraction) {a : ℕ} {s b w o k : List ℕ} → left_extracting r w o k ≡ e → s ≡ scope_bytes (modules_of r.scope) →
    b ≡ report_bytes r.report → a ≡ packed_in (extract_refusal r.answer) → Leaves e a s b w o k
leaves-extracted r h s b a =
    record {
      tells = tells-as (extract-numbered r.answer) a s b (ap (λ (l : Extracted). l.refusal) h) (ap (λ (l : Extracted). l.modules) h) (ap (λ (l : Extracted). l.report) h);
      work = ap (λ (l : Extracted). l.work) h;
      out = ap (λ (l : Extracted). l.out) h;
      records = ap (λ (l : Extracted). l.records) h;
    }

-- with the files
pub extract-given : (q : Requested) (files : List ℕ) (l : Extracting) (room : Lengths) {a : ℕ} {s b w o k : List ℕ} →
    requested q ≡ request_all (files_in files) [] → q.answer ≡ Ok tt →
    Leaves (extraction l room (modules_of q.scope)) a s b w o k → Leaves (extract_call files l room) a s b w o k
extract-given q files l room {a} {s} {b} {w} {o} {k} h g x =
    subst (λ (z : Extracted). Leaves z a s b w o k) (sym (files-given q files (extraction l room) (extract_none room) h g)) x

-- the files are refused
pub extract-refused : (q : Requested) (files : List ℕ) (l : Extracting) (w o k : List ℕ) {a : ℕ} {s b w' o' k' : List ℕ} {f : TooManyFiles} →
    requested q ≡ request_all (files_in files) [] → q.answer ≡ Err f →
    Tells (Some too_many_files) (modules_of q.scope) no_counts a s b → w' ≡ zeroed w → o' ≡ zeroed o → k' ≡ zeroed k → Leaves (extract_call files l (room_in w o k)) a s b w' o' k'
unfolding zeroed
extract-refused q files l w o k {a} {s} {b} {w'} {o'} {k'} h g t x y z =
    subst (λ (e : Extracted). Leaves e a s b w' o' k') (sym (files-refused q files (extraction l (room_in w o k)) (extract_none (room_in w o k)) h g))
    (record { tells = t; work = x; out = y; records = z })

-- ---- Resolving, likewise

pub leaves-resolved : {e : Listed} (r : Resolution) {a : ℕ} {s b k : List ℕ} → left_resolving r k ≡ e → s ≡ scope_bytes (modules_of r.scope) →
    b ≡ report_bytes r.report → a ≡ packed_in (resolve_refusal r.answer) → LeavesList e a s b k
leaves-resolved r h s b a =
    record {
      tells = tells-as (resolve-numbered r.answer) a s b (ap (λ (l : Listed). l.refusal) h) (ap (λ (l : Listed). l.modules) h) (ap (λ (l : Listed). l.report) h);
      list = ap (λ (l : Listed). l.list) h;
    }

pub resolve-given : (q : Requested) (files : List ℕ) (l : Resolving) (room : ℕ) {a : ℕ} {s b k : List ℕ} →
    requested q ≡ request_all (files_in files) [] → q.answer ≡ Ok tt →
    LeavesList (resolving l room (modules_of q.scope)) a s b k → LeavesList (resolve_call files l room) a s b k
resolve-given q files l room {a} {s} {b} {k} h g x =
    subst (λ (z : Listed). LeavesList z a s b k) (sym (files-given q files (resolving l room) (resolve_none room) h g)) x

pub resolve-refused : (q : Requested) (files : List ℕ) (l : Resolving) (k : List ℕ) {a : ℕ} {s b k' : List ℕ} {f : TooManyFiles} →
    requested q ≡ request_all (files_in files) [] → q.answer ≡ Err f →
    Tells (Some too_many_files) (modules_of q.scope) no_counts a s b → k' ≡ zeroed k → LeavesList (resolve_call files l (length k)) a s b k'
unfolding zeroed
resolve-refused q files l k {a} {s} {b} {k'} h g t x =
    subst (λ (e : Listed). LeavesList e a s b k') (sym (files-refused q files (resolving l (length k)) (resolve_none (length k)) h g))
    (record { tells = t; list = x })
