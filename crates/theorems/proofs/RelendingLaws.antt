-- A scope's files, requested anew in order, get the numbers that they have. Every call leaves a scope in which no file stands twice and
-- which has at most 256 modules (`Lendable`): requests and marks do, so each step of an extraction does, and so both its passes, and
-- resolving only requests. Of such modules every file is new when its turn comes, and none is a 257th.
use Rattle.std.specs.Prelude.{Option, None, Some}
use Prim.Native.Nat.{ℕ, zero, suc, ◌+◌, ◌≤◌, ◌<◌}
use native.Mathlib.Omega.{arith}
use mathlib.Core.Path.{◌≡◌, refl, sym, ap, subst, ◌∙◌}
use mathlib.Core.Bool.{Bool, true, false, cond}
use mathlib.Core.List.{List, [], ◌∷◌, ◌++◌, append_assoc, append-nil}
use lib.Dec.{eqb}
use lib.ListN.{length, length-append}
use borrow.Author.Tests.{lt-ltb, ne_eqb, eqb-false}
use Rattle.scope.specs.declared.Mark.{Mark}
use Rattle.scope.specs.declared.Mark.TheVariants.{Loaded, Stored, Cjs, Wrapping}
use Rattle.scope.specs.Modules.{Module, Modules, next, place_of, number_of, unmarked, request, generated_by, gen, Left, go_on, files_in, request_all}
use Rattle.scope.specs.Modules.{with_mark, set_mark, given, not_given, marking}
use Rattle.scope.proofs.Laws.{none-some, request-cases, request-count, mark-keeps-numbers, mark-keeps-count}
use Rattle.tree.specs.Layout.{value_of}
use Rattle.tree.specs.Tree.{Fields, none, more, size}
use Rattle.inputs.specs.Outcome.{Outcome, done, refused}
use Rattle.inputs.specs.Table.{Row, rows_in, file_of}
use Rattle.extraction_rules.specs.State.{State, first, second, Setting, start}
use Rattle.extraction_rules.specs.First.{forget}
use Rattle.extraction_rules.specs.Walk.{walk_module, walk_again}
use Rattle.extraction_rules.specs.Call.{Lent, Lengths, Extracted, modules_after, setting, extracted, extraction}
use Rattle.extraction_rules.proofs.OutcomeLaws.{After, after-weaken, Of, of-each, of-done, of-onto}
use Rattle.extraction_rules.proofs.FirstLaws.{source-cases, force-cases}
use Rattle.extraction_rules.proofs.StepLaws.{EndSteps}
use Rattle.extraction_rules.proofs.WalkLaws.{Steps, imports-any-all, walk_module-keeps, walk_again-keeps}
use Rattle.extraction_rules.proofs.ExtractedLaws.{call-made, run-both}
use Rattle.resolving_rules.specs.Resolve.{sources_in, source_of, requested, number_one, number_all}
use Rattle.resolving_rules.specs.Call.{Lent as LentRecords, Numbered, numbered, modules_after as numbers_after, resolving}
use Rattle.resolving_rules.proofs.ResolvedLaws.{numbered-made}
use Rattle.theorems.specs.Lists.{Call, requests, requests_all, sets, reads, reads_esm, extracts, resolves, after, after_all}
use Rattle.theorems.specs.Relending.{files_of, without_marks, SameNumbers}

-- ---- Files that stand once

-- no file stands twice
abbrev pub Distinct : Modules → Type 0
Distinct [] = Unit {0}
Distinct (m ∷ ms) = (number_of m.file ms ≡ None) × Distinct ms

-- a file that stands neither first nor further on
nowhere : (b : Bool) (o : Option ℕ) → cond b (Some zero) (next o) ≡ None → (b ≡ false) × (o ≡ None)
nowhere true o e = none-some (sym e)
nowhere false None e = (refl, refl)
nowhere false (Some n) e = none-some (sym e)

passed : (b : Bool) (o : Option ℕ) → b ≡ false → o ≡ None → cond b (Some zero) (next o) ≡ None
passed b o p q = rw (p, q)

-- what stands nowhere is not the file of a module
other-file : (g : ℕ) (ps : Modules) (m : Module) (ms : Modules) → number_of g (ps ++ m ∷ ms) ≡ None → g ≡ m.file → ⊥
unfolding number_of place_of
other-file g [] m ms e q = eqb-false g m.file (nowhere (eqb g m.file) (number_of g ms) e).0 q
other-file g (p ∷ ps) m ms e q = other-file g ps m ms (nowhere (eqb g p.file) (number_of g (ps ++ m ∷ ms)) e).1 q

-- and is new before it
distinct-new : (ps : Modules) (m : Module) (ms : Modules) → Distinct (ps ++ m ∷ ms) → number_of m.file ps ≡ None
unfolding number_of place_of
distinct-new [] m ms h = refl
distinct-new (p ∷ ps) m ms h =
    passed (eqb m.file p.file) (number_of m.file ps) (ne_eqb m.file p.file (λ q. other-file p.file ps m ms h.0 (sym q)))
    (distinct-new ps m ms h.1)

still-nowhere : (g f : ℕ) (ms : Modules) → (g ≡ f → ⊥) → number_of g ms ≡ None → number_of g (ms ++ (unmarked f ∷ [])) ≡ None
unfolding number_of place_of
still-nowhere g f [] d e = passed (eqb g f) None (ne_eqb g f d) refl
still-nowhere g f (m ∷ ms) d e =
    let w = nowhere (eqb g m.file) (number_of g ms) e in
    passed (eqb g m.file) (number_of g (ms ++ (unmarked f ∷ []))) w.0 (still-nowhere g f ms d w.1)

distinct-last : (f : ℕ) (ms : Modules) → Distinct ms → number_of f ms ≡ None → Distinct (ms ++ (unmarked f ∷ []))
unfolding number_of place_of
distinct-last f [] h e = (refl, tt)
distinct-last f (m ∷ ms) h e =
    let w = nowhere (eqb f m.file) (number_of f ms) e in
    (still-nowhere m.file f ms (λ q. eqb-false f m.file w.0 (sym q)) h.0, distinct-last f ms h.1 w.1)

mark-file : (k : Mark) (m : Module) → (with_mark k m).file ≡ m.file
mark-file Loaded m = refl
mark-file Stored m = refl
mark-file Cjs m = refl
mark-file Wrapping m = refl

distinct-mark : (k : Mark) (n : ℕ) (ms : Modules) → Distinct ms → Distinct (set_mark k n ms)
unfolding set_mark
distinct-mark k n [] h = tt
distinct-mark k zero (m ∷ ms) h = (ap (λ (f : ℕ). number_of f ms) (mark-file k m) ∙ h.0, h.1)
distinct-mark k (suc n) (m ∷ ms) h = (mark-keeps-numbers k n ms m.file ∙ h.0, distinct-mark k n ms h.1)

-- ---- Requests and marks

-- modules whose files get the same numbers again: no file stands twice, and they are at most 256
pub record Lendable (ms : Modules) : Type 0 where
  pub distinct : Distinct ms
  pub few : length ms ≤ 256

pub lendable-fresh : Lendable []
lendable-fresh = record { distinct = tt; few = omega arith }

request-lendable : (f : ℕ) (ms : Modules) {n : ℕ} {new : Modules} → request f ms ≡ Some (n, new) → Lendable ms → Lendable new
request-lendable f ms {n} {new} e h =
    record {
      distinct =
          request-cases f ms (λ r. r ≡ Some (n, new) → Distinct new)
          (λ k w q. subst (λ (x : ℕ × Modules). Distinct x.1) (let z : (k, ms) ≡ (n, new) = cc in z) h.distinct)
          (λ w b q. subst (λ (x : ℕ × Modules). Distinct x.1) (let z : (length ms, ms ++ (unmarked f ∷ [])) ≡ (n, new) = cc in z)
          (distinct-last f ms h.distinct w))
          (λ w b q. none-some q) e;
      few = request-count f ms e h.few;
    }

mark-lendable : (k : Mark) (n : ℕ) (ms : Modules) → Lendable ms → Lendable (set_mark k n ms)
mark-lendable k n ms h = record { distinct = distinct-mark k n ms h.distinct; few = let e = mark-keeps-count k n ms in let b = h.few in omega arith }

gen-lendable : (f : ℕ) (ms : Modules) (o : Option (ℕ × Modules)) → request f ms ≡ o → Lendable ms → Lendable (generated_by o ms).modules
gen-lendable f ms None e h = h
gen-lendable f ms (Some r) e h = request-lendable f ms e h

pub request_all-lendable : (fs : List ℕ) (ms : Modules) → Lendable ms → Lendable (request_all fs ms).modules
unfolding request_all
request_all-lendable [] ms h = h
request_all-lendable (f ∷ fs) ms h = go (request f ms) refl (λ new. request_all-lendable fs new)
  where
    go : (o : Option (ℕ × Modules)) → request f ms ≡ o → ((new : Modules) → Lendable new → Lendable (request_all fs new).modules) →
        Lendable (go_on o (λ r. request_all fs r) ms).modules
    go None e k = h
    go (Some r) e k = k r.1 (request-lendable f ms e h)

-- ---- Extraction

abbrev AnyLiteral : List ℕ → Type 0
AnyLiteral x = Unit {0}

abbrev Lends : State → Type 0
Lends s = Lendable s.modules

lends-steps : (e : Setting) → Steps e AnyLiteral Lends
unfolding forget
lends-steps e =
    record {
      common =
          record {
            requires =
                record {
                  on_request = λ s f n ms q h. request-lendable f s.modules q h;
                  on_cjs = λ s n h. mark-lendable Cjs n s.modules h;
                  on_lazy = λ s r b h. h;
                };
            on_force = λ s i h. force-cases i s Lends h (λ r w. h);
            on_top = λ s b h. h;
          };
      one = λ _. record { on_note = λ s m h. h; on_usage = λ s u c w h. h; on_collect = λ s r b h. h };
      two = λ _. record { on_extend = λ s x us q h. h; on_source = λ s x b q h. source-cases (value_of x) s Lends (λ _. h) h };
    }

lends-end : EndSteps Lends
lends-end = record { on_wrap = λ s n h. mark-lendable Wrapping n s.modules h; on_lose = λ s h. h }

run-lendable : (l : Lent) (rows : List Row) (own : ℕ) (items : Fields) (s : State) → Lends s →
    After (walk_module (setting first own l rows) items s) (λ works s'. Lends s' × After (walk_again (setting second own l rows) works s') (λ outs s''. Lends s''))
run-lendable l rows own items s h =
    let one = setting first own l rows in
    let two = setting second own l rows in
    after-weaken (walk_module one items s) (λ works s'. Lends s') (λ works s'. Lends s' × After (walk_again two works s') (λ outs s''. Lends s''))
    (λ works s' w. (w, walk_again-keeps two AnyLiteral Lends (lends-steps two) lends-end works s' (imports-any-all works AnyLiteral (λ x. tt)) w))
    (walk_module-keeps one AnyLiteral Lends (lends-steps one) items s (imports-any-all items AnyLiteral (λ x. tt)) h)

extracted-lendable : (l : Lent) (room : Lengths) (ms : Modules) → Lendable ms → Of (extracted l room ms) (λ r. Lendable r.modules)
extracted-lendable l room ms h =
    of-each (extracted l room ms) _ λ r e.
    let m = call-made l room ms r e in
    let rows = rows_in l.table in
    subst (λ (z : Extracted). Lendable z.modules) m.run.given
    (run-both l rows m.own.0 m.items m.own.1 r m.run (λ works s. Lends s) (λ outs s. Lends s)
    (run-lendable l rows m.own.0 m.items (start m.own.1) (request-lendable l.file ms m.requests h))).1

extraction-after : (ms : Modules) (o : Outcome Extracted) → Of o (λ r. Lendable r.modules) → Lendable ms → Lendable (modules_after o ms)
extraction-after ms (done r) h k = h
extraction-after ms (refused n p) h k = k

pub extraction-lendable : (l : Lent) (room : Lengths) (ms : Modules) → Lendable ms → Lendable (extraction l room ms).modules
unfolding extraction
extraction-lendable l room ms h = extraction-after ms (extracted l room ms) (extracted-lendable l room ms h) h

-- ---- Resolving

number_one-lendable : (o : Option ℕ) (ms : Modules) (p : ℕ) → Lendable ms → Of (number_one o ms p) Lendable
unfolding number_one
number_one-lendable None ms p h = h
number_one-lendable (Some f) ms p h = go (request f ms) refl
  where
    go : (o : Option (ℕ × Modules)) → request f ms ≡ o → Of (requested o p) Lendable
    go None e = tt
    go (Some r) e = request-lendable f ms e h

number_all-lendable : (rows : List Row) (fs : Fields) (ms : Modules) (p : ℕ) → Lendable ms → Of (number_all rows fs ms p) Lendable
unfolding number_all
number_all-lendable rows none ms p h = h
number_all-lendable rows (more f fs) ms p h =
    of-onto (number_one (file_of (source_of f) rows) ms p) _ Lendable Lendable (number_one-lendable (file_of (source_of f) rows) ms p h) λ new k.
    number_all-lendable rows fs new (p + size f) k

numbered-lendable : (l : LentRecords) (ms : Modules) → Lendable ms → Of (numbered l ms) (λ q. Lendable q.modules)
numbered-lendable l ms h =
    of-each (numbered l ms) _ λ q e.
    of-done (number_all q.rows (sources_in q.records) ms 3) Lendable q.modules (numbered-made l ms q e).2
    (number_all-lendable q.rows (sources_in q.records) ms 3 h)

numbers_after-lendable : (ms : Modules) (o : Outcome Numbered) → Of o (λ q. Lendable q.modules) → Lendable ms → Lendable (numbers_after o ms)
numbers_after-lendable ms (done q) h k = h
numbers_after-lendable ms (refused n p) h k = k

pub resolving-lendable : (l : LentRecords) (room : ℕ) (ms : Modules) → Lendable ms → Lendable (resolving l room ms).modules
unfolding resolving
resolving-lendable l room ms h = numbers_after-lendable ms (numbered l ms) (numbered-lendable l ms h) h

-- ---- Lists of calls

call-lendable : (c : Call) (ms : Modules) → Lendable ms → Lendable (after c ms)
unfolding after gen marking
call-lendable (requests f) ms h = gen-lendable f.0 ms (request f.0 ms) refl h
call-lendable (requests_all files) ms h = request_all-lendable (files_in files) ms h
call-lendable (sets k m) ms h = go (given m ms)
  where
    go : (b : Bool) → Lendable (cond {A = Left} b (record { modules = set_mark k m.0 ms; refusal = None }) (record { modules = ms; refusal = Some not_given })).modules
    go true = mark-lendable k m.0 ms h
    go false = h
call-lendable (reads k m) ms h = h
call-lendable (reads_esm m) ms h = h
call-lendable (extracts l room) ms h = extraction-lendable l room ms h
call-lendable (resolves l room) ms h = resolving-lendable l room ms h

list-lendable : (calls : List Call) (ms : Modules) → Lendable ms → Lendable (after_all calls ms)
unfolding after_all
list-lendable [] ms h = h
list-lendable (c ∷ calls) ms h = list-lendable calls (after c ms) (call-lendable c ms h)

-- ---- Requests anew

pub unmarked-append : (ps ms : Modules) → without_marks (ps ++ ms) ≡ without_marks ps ++ without_marks ms
unmarked-append [] ms = refl
unmarked-append (p ∷ ps) ms = ap (λ (l : Modules). unmarked p.file ∷ l) (unmarked-append ps ms)

pub unmarked-count : (ms : Modules) → length (without_marks ms) ≡ length ms
unmarked-count [] = refl
unmarked-count (m ∷ ms) = ap suc (unmarked-count ms)

pub unmarked-files : (ms : Modules) → files_of (without_marks ms) ≡ files_of ms
unmarked-files [] = refl
unmarked-files (m ∷ ms) = ap (λ (l : List ℕ). m.file ∷ l) (unmarked-files ms)

pub unmarked-numbers : (f : ℕ) (ms : Modules) → number_of f (without_marks ms) ≡ number_of f ms
unfolding number_of
unmarked-numbers f ms = ap (place_of f) (unmarked-files ms)

-- a file that is new gets the next number
request-new : (f : ℕ) (ms : Modules) → number_of f ms ≡ None → length ms < 256 → request f ms ≡ Some (length ms, ms ++ (unmarked f ∷ []))
unfolding request
request-new f ms e h = rw (e, lt-ltb (length ms) 256 h)

-- with the modules ps before them
request-rest : (ps ms : Modules) → Distinct (ps ++ ms) → length ps + length ms ≤ 256 →
    request_all (files_of ms) (without_marks ps) ≡ record { modules = without_marks (ps ++ ms); refusal = None }
unfolding request_all
request-rest ps [] d h = ap (λ (l : Modules). record { modules = without_marks l; refusal = None }) (sym (append-nil ps))
request-rest ps (m ∷ ms) d h =
    let c = unmarked-count ps in
    let e = request-new m.file (without_marks ps) (unmarked-numbers m.file ps ∙ distinct-new ps m ms d) (omega arith) in
    let a = append_assoc ps (m ∷ []) ms in
    let k = length-append ps (m ∷ []) in
    ap (λ (o : Option (ℕ × Modules)). go_on o (λ r. request_all (files_of ms) r) (without_marks ps)) e
    ∙ ap (λ (l : Modules). request_all (files_of ms) l) (sym (unmarked-append ps (m ∷ [])))
    ∙ request-rest (ps ++ (m ∷ [])) ms (subst Distinct (sym a) d) (omega arith)
    ∙ ap (λ (l : Modules). record { modules = without_marks l; refusal = None }) a

pub requested-anew : (ms : Modules) → Lendable ms → request_all (files_of ms) [] ≡ record { modules = without_marks ms; refusal = None }
requested-anew ms h = let b = h.few in request-rest [] ms h.distinct (omega arith)

pub same-numbers : SameNumbers
same-numbers calls = requested-anew (after_all calls []) (list-lendable calls [] lendable-fresh)
