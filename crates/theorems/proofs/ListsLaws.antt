-- The sentence on lists: after every list of calls from a fresh scope, a module is marked for wrapping exactly when an accepted extraction
-- of the list forced a source that its table resolves to the module, or an accepted call that sets the wrapping mark named it.
use Rattle.std.specs.Prelude.{Option, None, Some}
use Prim.Native.Nat.{ℕ, ◌+◌}
use native.Mathlib.Omega.{arith}
use mathlib.Core.Path.{◌≡◌, refl, sym, ap, ◌∙◌}
use mathlib.Core.Bool.{Bool, true, false, cond, not, ◌&&◌, ◌||◌, or-false, or_assoc}
use mathlib.Core.List.{List, [], ◌∷◌}
use lib.Dec.{ltb, eqb}
use lib.ListN.{length}
use borrow.Author.Tests.{ltb-true}
use Rattle.scope.specs.declared.Mark.{Mark}
use Rattle.scope.specs.declared.Mark.TheVariants.{Loaded, Stored, Cjs, Wrapping}
use Rattle.scope.specs.Modules.{Modules, Left, request, generated_by, gen, go_on, files_in, request_all, is_marked, set_mark, given, not_given, marking}
use Rattle.scope.proofs.Laws.{request-keeps-marks, mark-keeps-kinds}
use Rattle.tree.specs.Tree.{Fields, none, more, size}
use Rattle.inputs.specs.Outcome.{Outcome, done, refused}
use Rattle.inputs.specs.Lists.{is_some}
use Rattle.inputs.specs.Table.{Row, rows_in, file_of}
use Rattle.extraction_rules.specs.Call.{Extracted, modules_after, extracted, extraction}
use Rattle.extraction_rules.proofs.OutcomeLaws.{Of, of-each, of-done, of-onto}
use Rattle.extraction_rules.proofs.MarksLaws.{SameMarks, MarksForced, mark-adds, extraction-marks}
use Rattle.resolving_rules.specs.Resolve.{sources_in, source_of, requested, number_one, number_all}
use Rattle.resolving_rules.specs.Call.{Lent as LentRecords, Numbered, numbered, modules_after as numbers_after, resolving}
use Rattle.resolving_rules.proofs.ResolvedLaws.{numbered-made}
use Rattle.theorems.specs.Lists.{Call, requests, requests_all, sets, reads, reads_esm, extracts, resolves, after, after_all, forced_to, wraps, wraps_any, MarkedExactly}

-- a call that wraps nothing
unwrapping : {a b : Bool} → a ≡ b → a ≡ b || false
unwrapping {a} {b} e = e ∙ sym (or-false b)

-- ---- Requests and marks

request-marked : (n f : ℕ) (ms : Modules) (o : Option (ℕ × Modules)) → request f ms ≡ o →
    is_marked Wrapping n (generated_by o ms).modules ≡ is_marked Wrapping n ms
request-marked n f ms None e = refl
request-marked n f ms (Some r) e = request-keeps-marks f ms e Wrapping n

request_all-marked : (n : ℕ) (fs : List ℕ) (ms : Modules) → is_marked Wrapping n (request_all fs ms).modules ≡ is_marked Wrapping n ms
unfolding request_all
request_all-marked n [] ms = refl
request_all-marked n (f ∷ fs) ms = go (request f ms) refl (λ new. request_all-marked n fs new)
  where
    go : (o : Option (ℕ × Modules)) → request f ms ≡ o → ((new : Modules) → is_marked Wrapping n (request_all fs new).modules ≡ is_marked Wrapping n new) →
        is_marked Wrapping n (go_on o (λ r. request_all fs r) ms).modules ≡ is_marked Wrapping n ms
    go None e h = refl
    go (Some r) e h = h r.1 ∙ request-keeps-marks f ms e Wrapping n

-- what setting a mark leaves, where b says whether the number was given
abbrev marking_by : Bool → Mark → ℕ → Modules → Left
marking_by b k m ms = cond b (record { modules = set_mark k m ms; refusal = None }) (record { modules = ms; refusal = Some not_given })

-- a mark of another kind
other-marked : (k : Mark) (n m : ℕ) (ms : Modules) (b : Bool) → (Wrapping ≡ k → ⊥) →
    is_marked Wrapping n (marking_by b k m ms).modules ≡ is_marked Wrapping n ms
other-marked k n m ms true d = mark-keeps-kinds k Wrapping m n ms d
other-marked k n m ms false d = refl

-- a wrapping mark is set where the call is accepted
set-marked : (n m : ℕ) (ms : Modules) (b : Bool) → ltb m (length ms) ≡ b →
    is_marked Wrapping n (marking_by b Wrapping m ms).modules ≡ is_marked Wrapping n ms || not (is_some (marking_by b Wrapping m ms).refusal) && eqb n m
set-marked n m ms true e = mark-adds Wrapping n m ms (ltb-true m (length ms) e)
set-marked n m ms false e = unwrapping refl

-- ---- Resolving only gives numbers

number_one-marks : (o : Option ℕ) (ms : Modules) (p : ℕ) → Of (number_one o ms p) (SameMarks ms)
unfolding number_one
number_one-marks None ms p = λ n. refl
number_one-marks (Some f) ms p = go (request f ms) refl
  where
    go : (o : Option (ℕ × Modules)) → request f ms ≡ o → Of (requested o p) (SameMarks ms)
    go None e = tt
    go (Some r) e = λ n. request-keeps-marks f ms e Wrapping n

same-marks-onto : (ms new : Modules) (o : Outcome Modules) → SameMarks ms new → Of o (SameMarks new) → Of o (SameMarks ms)
same-marks-onto ms new (done last) h k = λ n. k n ∙ h n
same-marks-onto ms new (refused n p) h k = tt

number_all-marks : (rows : List Row) (fs : Fields) (ms : Modules) (p : ℕ) → Of (number_all rows fs ms p) (SameMarks ms)
unfolding number_all
number_all-marks rows none ms p = λ n. refl
number_all-marks rows (more f fs) ms p =
    of-onto (number_one (file_of (source_of f) rows) ms p) _ (SameMarks ms) (SameMarks ms) (number_one-marks (file_of (source_of f) rows) ms p) λ new h.
    same-marks-onto ms new (number_all rows fs new (p + size f)) h (number_all-marks rows fs new (p + size f))

numbered-marks : (l : LentRecords) (ms : Modules) → Of (numbered l ms) (λ q. SameMarks ms q.modules)
numbered-marks l ms =
    of-each (numbered l ms) _ λ q e.
    of-done (number_all q.rows (sources_in q.records) ms 3) (SameMarks ms) q.modules (numbered-made l ms q e).2 (number_all-marks q.rows (sources_in q.records) ms 3)

numbers-marked : (n : ℕ) (ms : Modules) (o : Outcome Numbered) → Of o (λ q. SameMarks ms q.modules) →
    is_marked Wrapping n (numbers_after o ms) ≡ is_marked Wrapping n ms
numbers-marked n ms (done q) h = h n
numbers-marked n ms (refused k p) h = refl

-- ---- Each call

extraction-marked : (n : ℕ) (rows : List Row) (ms : Modules) (o : Outcome Extracted) →
    Of o (λ r. MarksForced rows ms r.forced r.modules) →
    is_marked Wrapping n (modules_after o ms) ≡ is_marked Wrapping n ms || forced_to n rows o
extraction-marked n rows ms (done r) h = h n
extraction-marked n rows ms (refused k p) h = unwrapping refl

-- kinds that are told apart
differ : ◌≡◌ {A = ℕ} 0 1 → ⊥
differ e = omega arith

-- the wrapping marks after a call are those before and the module that it wraps
call-marked : (n : ℕ) (c : Call) (ms : Modules) → is_marked Wrapping n (after c ms) ≡ is_marked Wrapping n ms || wraps n c ms
unfolding after wraps gen marking extraction resolving
call-marked n (requests f) ms = unwrapping (request-marked n f.0 ms (request f.0 ms) refl)
call-marked n (requests_all files) ms = unwrapping (request_all-marked n (files_in files) ms)
call-marked n (sets Loaded m) ms = unwrapping (other-marked Loaded n m.0 ms (given m ms) (λ e. differ (cc)))
call-marked n (sets Stored m) ms = unwrapping (other-marked Stored n m.0 ms (given m ms) (λ e. differ (cc)))
call-marked n (sets Cjs m) ms = unwrapping (other-marked Cjs n m.0 ms (given m ms) (λ e. differ (cc)))
call-marked n (sets Wrapping m) ms = set-marked n m.0 ms (given m ms) refl
call-marked n (reads k m) ms = unwrapping refl
call-marked n (reads_esm m) ms = unwrapping refl
call-marked n (extracts l room) ms = extraction-marked n (rows_in l.table) ms (extracted l room ms) (extraction-marks l room ms)
call-marked n (resolves l room) ms = unwrapping (numbers-marked n ms (numbered l ms) (numbered-marks l ms))

-- ---- The whole list

-- from any scope on: its own marks, and the modules that a call wraps
pub list-marked : (calls : List Call) (n : ℕ) (ms : Modules) →
    is_marked Wrapping n (after_all calls ms) ≡ is_marked Wrapping n ms || wraps_any n calls ms
unfolding after_all wraps_any
list-marked [] n ms = unwrapping refl
list-marked (c ∷ calls) n ms =
    list-marked calls n (after c ms)
    ∙ ap (λ (b : Bool). b || wraps_any n calls (after c ms)) (call-marked n c ms)
    ∙ or_assoc (is_marked Wrapping n ms) (wraps n c ms) (wraps_any n calls (after c ms))

pub marked-exactly : MarkedExactly
unfolding is_marked
marked-exactly calls n = list-marked calls n []
