-- What the two exported calls of a host leave. A scope's bytes hold its files, so that the files read from them are those of its modules
-- (`files-back`); an exported extraction leaves modules whose files get the same numbers again (`call-lendable`); so resolving, lent these
-- files, is resolving with the extraction's modules without their marks (`resolved-again`), and of that the sentence holds.
use Rattle.std.specs.Prelude.{Option, None, Some, Ok, Err}
use Prim.Native.Nat.{ℕ, zero, suc, ◌+◌, ◌-◌, ◌*◌, ◌/◌, ◌%◌, ◌≤◌}
use native.Mathlib.Omega.{arith}
use mathlib.Core.Path.{◌≡◌, refl, ap, ◌∙◌}
use mathlib.Core.List.{List, [], ◌∷◌, ◌++◌}
use lib.ListN.{length, length-append, length-replicate, get_or, replicate}
use Rattle.scope.specs.Modules.{Modules, Refusal, Left as Requesting, files_in, request_all}
use Rattle.tree.specs.Layout.{two_at, field_in, Bytes}
use Rattle.extraction_rules.specs.Call.{Lent, Lengths, Left, extraction}
use Rattle.resolving_rules.specs.Call.{Lent as LentRecords, Left as LeftList, resolving}
use Rattle.resolving.specs.Answer.{lent_as}
use Rattle.theorems.specs.Relending.{files_of, without_marks}
use Rattle.theorems.proofs.RelendingLaws.{Lendable, lendable-fresh, request_all-lendable, extraction-lendable, resolving-lendable, requested-anew}
use Rattle.theorems.proofs.UnmarkedLaws.{resolves-by-files}
use Rattle.tychodrel.specs.Answer.{packed_in, marks_of, modules_bytes, listed, scope_bytes}
use Rattle.tychodrel.specs.Calls.{on_files, with_files, extract_none, extract_call, resolve_none, resolve_call, Numbered, Leaves, LeavesList}
use Rattle.corollaries.specs.declared.PairError.TheVariants.{NotExtracted, NotListed}
use Rattle.corollaries.specs.Hosts.{files_from, files_back, Relends, started, extracted_to, resolved_to, LeavesBoth}
use Rattle.corollaries.proofs.FunctionsLaws.{keep-or-part-unmarked}

-- ---- The files in a scope's bytes

files-shift : (k i x y z : ℕ) (s : List ℕ) → files_from k (suc i) (x ∷ y ∷ z ∷ s) ≡ files_from k i s
unfolding files_from
files-shift zero i x y z s = refl
files-shift (suc k) i x y z s =
    let a : 2 + 3 * suc i ≡ suc (suc (suc (2 + 3 * i))) = omega arith in
    let b : 3 + 3 * suc i ≡ suc (suc (suc (3 + 3 * i))) = omega arith in
    let c : get_or (x ∷ y ∷ z ∷ s) (2 + 3 * suc i) 0 ≡ get_or s (2 + 3 * i) 0 = ap (λ (n : ℕ). get_or (x ∷ y ∷ z ∷ s) n 0) a in
    let d : get_or (x ∷ y ∷ z ∷ s) (3 + 3 * suc i) 0 ≡ get_or s (3 + 3 * i) 0 = ap (λ (n : ℕ). get_or (x ∷ y ∷ z ∷ s) n 0) b in
    let e = files-shift k (suc i) x y z s in
    cc

-- behind any two bytes
files-listed : (ms : Modules) (x y : ℕ) (z : List ℕ) → files_in (files_from (length ms) 0 (x ∷ y ∷ modules_bytes ms ++ z)) ≡ files_of ms
unfolding files_from files_in modules_bytes
files-listed [] x y z = refl
files-listed (m ∷ ms) x y z =
    let f = m.file in
    let a : f / 256 * 256 + f % 256 ≡ f = omega arith in
    let b = files-shift (length ms) 0 x y (f / 256) (f % 256 ∷ marks_of m ∷ modules_bytes ms ++ z) in
    let c = ap files_in b ∙ files-listed ms (f % 256) (marks_of m) z in
    cc

pub count-back : (ms : Modules) → two_at (scope_bytes ms) 0 ≡ length ms
unfolding scope_bytes listed
count-back ms = omega arith

files-back : (ms : Modules) → files_in (files_back (scope_bytes ms)) ≡ files_of ms
unfolding files_back scope_bytes listed
files-back ms =
    let n = length ms in
    let a : n / 256 * 256 + n % 256 ≡ n = omega arith in
    ap (λ (k : ℕ). files_in (files_from k 0 (scope_bytes ms))) a
    ∙ files-listed ms (n / 256) (n % 256) (replicate (770 - length (listed ms)) 0)

modules-size : (ms : Modules) → length (modules_bytes ms) ≡ 3 * length ms
unfolding modules_bytes
modules-size [] = refl
modules-size (m ∷ ms) = let e = modules-size ms in omega arith

pub scope-size : (ms : Modules) → length ms ≤ 256 → length (scope_bytes ms) ≡ 770
unfolding scope_bytes listed
scope-size ms h =
    let k = modules-size ms in
    let a = length-append (listed ms) (replicate (770 - length (listed ms)) 0) in
    let b = length-replicate {A = ℕ} (770 - length (listed ms)) 0 in
    omega arith

-- ---- The calls in a fresh scope

module _ (files : List ℕ) (l : Lent) (room : Lengths) where
  pub call-lendable : Lendable (extracted_to files l room)
  unfolding with_files
  call-lendable = go (request_all (files_in files) []).refusal (started files) (request_all-lendable (files_in files) [] lendable-fresh)
    where
      go : (o : Refusal) (ms : Modules) → Lendable ms → Lendable (on_files o ms (extraction l room) (extract_none room)).modules
      go None ms h = extraction-lendable l room ms h
      go (Some r) ms h = h

  -- an accepted call is an extraction with the files' modules
  call-started : (extract_call files l room).refusal ≡ None → extract_call files l room ≡ extraction l room (started files)
  unfolding with_files
  call-started e = go (request_all (files_in files) []).refusal (started files) e
    where
      go : (o : Refusal) (ms : Modules) → (on_files o ms (extraction l room) (extract_none room)).refusal ≡ None →
          on_files o ms (extraction l room) (extract_none room) ≡ extraction l room ms
      go None ms e = refl
      go (Some r) ms e = absurd (let z : ◌≡◌ {A = ℕ} 0 1 = cc in omega arith)

-- a resolving leaves such modules, too
again-lendable : (files : List ℕ) (l : LentRecords) (n : ℕ) → Lendable (resolve_call files l n).modules
unfolding with_files
again-lendable files l n = go (request_all (files_in files) []).refusal (started files) (request_all-lendable (files_in files) [] lendable-fresh)
  where
    go : (o : Refusal) (ms : Modules) → Lendable ms → Lendable (on_files o ms (resolving l n) (resolve_none n)).modules
    go None ms h = resolving-lendable l n ms h
    go (Some r) ms h = h

-- the files that came back get the same numbers
relends : (ms : Modules) (s : List ℕ) → Lendable ms → s ≡ scope_bytes ms → Relends s ms
relends ms s h e =
    record {
      bytes = e;
      numbers = ap (λ (b : List ℕ). request_all (files_in (files_back b)) []) e ∙ ap (λ (fs : List ℕ). request_all fs []) (files-back ms) ∙ requested-anew ms h;
    }

resolved-again : (ms : Modules) (s : List ℕ) (l : LentRecords) (n : ℕ) → Relends s ms → resolve_call (files_back s) l n ≡ resolving l n (without_marks ms)
unfolding with_files
resolved-again ms s l n h = ap (λ (r : Requesting). on_files r.refusal r.modules (resolving l n) (resolve_none n)) h.numbers

-- ---- A zero answer is acceptance

accepts : (o : Option (ℕ × ℕ)) (a : ℕ) → a ≡ packed_in o → Numbered o → a ≡ 0 → o ≡ None
accepts None a e h z = refl
accepts (Some r) a e h z = absurd (omega arith)

refuses : (o : Option (ℕ × ℕ)) (a : ℕ) → a ≡ packed_in o → (a ≡ 0 → ⊥) → o ≡ None → ⊥
refuses None a e h z = h e
refuses (Some r) a e h z = let y : ◌≡◌ {A = ℕ} 0 1 = cc in omega arith

-- ---- Both calls

-- what a call leaves, with the buffers by their names
left-same : (v : Left) {w o k : List ℕ} → w ≡ v.work → o ≡ v.out → k ≡ v.records →
    record { refusal = v.refusal; modules = v.modules; report = v.report; work = w; out = o; records = k } ≡ v
left-same v {w} {o} {k} e f g =
    ap (λ (w : List ℕ). record { refusal = v.refusal; modules = v.modules; report = v.report; work = w; out = o; records = k }) e
    ∙ ap (λ (o : List ℕ). record { refusal = v.refusal; modules = v.modules; report = v.report; work = v.work; out = o; records = k }) f
    ∙ ap (λ (k : List ℕ). record { refusal = v.refusal; modules = v.modules; report = v.report; work = v.work; out = v.out; records = k }) g

list-as : (v : LeftList) {g : List ℕ} → g ≡ v.list → record { refusal = v.refusal; modules = v.modules; report = v.report; list = g } ≡ v
list-as v e = ap (λ (g : List ℕ). record { refusal = v.refusal; modules = v.modules; report = v.report; list = g }) e

module _ (files : List ℕ) (l : Lent) (room : Lengths) (n : ℕ) {a : ℕ} {s c w o k : List ℕ} (x : Leaves (extract_call files l room) a s c w o k) where
  abbrev left_there : Left
  left_there =
      record { refusal = (extract_call files l room).refusal; modules = extracted_to files l room; report = (extract_call files l room).report; work = w; out = o; records = k }

  left_there-is : left_there ≡ extract_call files l room
  left_there-is = left-same (extract_call files l room) x.work x.out x.records

  there : Relends s (extracted_to files l room)
  there = relends (extracted_to files l room) s (call-lendable files l room) x.tells.scope

  -- the scope's bytes name at most 256 modules
  pub there-scope : (two_at s 0 ≤ 256) × (length s ≡ 770)
  there-scope =
      let ms = extracted_to files l room in
      let h = (call-lendable files l room).few in
      let e = ap (λ (b : List ℕ). two_at b 0) x.tells.scope ∙ count-back ms in
      (omega arith, ap length x.tells.scope ∙ scope-size ms h)

  pub leaves-unextracted : {z g : List ℕ} → (a ≡ 0 → ⊥) → LeavesBoth files l room n s o k z g (Err NotExtracted)
  leaves-unextracted h =
      record {
        extracted = there;
        resolved = λ d. absurd (d refl);
        records = x.records;
        both = λ q. absurd (let z : ◌≡◌ {A = ℕ} 0 1 = cc in omega arith);
        unextracted = λ q. refuses (extract_call files l room).refusal a x.tells.answer h;
        unlisted = λ q. absurd (let z : ◌≡◌ {A = ℕ} 0 1 = cc in omega arith);
      }

  module _ {b : ℕ} {z d g : List ℕ} (y : LeavesList (resolve_call (files_back s) (lent_as l.modes l.table (field_in k)) n) b z d g) where
    again : resolve_call (files_back s) (lent_as l.modes l.table (field_in k)) n ≡ resolving (lent_as l.modes l.table (field_in k)) n (without_marks (extracted_to files l room))
    again = resolved-again (extracted_to files l room) s (lent_as l.modes l.table (field_in k)) n there

    here : Relends z (resolved_to s l k n)
    here = relends (resolved_to s l k n) z (again-lendable (files_back s) (lent_as l.modes l.table (field_in k)) n) y.tells.scope

    pub leaves-unlisted : (b ≡ 0 → ⊥) → LeavesBoth files l room n s o k z g (Err NotListed)
    leaves-unlisted h =
        let e = resolves-by-files (lent_as l.modes l.table (field_in k)) n (extracted_to files l room) in
        record {
          extracted = there;
          resolved = λ d. here;
          records = x.records;
          both = λ q. absurd (let z : ◌≡◌ {A = ℕ} 0 1 = cc in omega arith);
          unextracted = λ q. absurd (let z : ◌≡◌ {A = ℕ} 0 1 = cc in omega arith);
          unlisted =
              λ q r. refuses (resolve_call (files_back s) (lent_as l.modes l.table (field_in k)) n).refusal b y.tells.answer h
              (ap (λ (v : LeftList). v.refusal) (again ∙ e) ∙ r);
        }

    pub leaves-both : a ≡ 0 → b ≡ 0 → Bytes l.tree → LeavesBoth files l room n s o k z g (Ok tt)
    leaves-both h i bs =
        let refusal = accepts (extract_call files l room).refusal a x.tells.answer x.tells.numbered h in
        let v = resolve_call (files_back s) (lent_as l.modes l.table (field_in k)) n in
        let given : LeftList = record { refusal = v.refusal; modules = v.modules; report = v.report; list = g } in
        let f : given ≡ v = list-as v y.list in
        record {
          extracted = there;
          resolved = λ d. here;
          records = x.records;
          both =
              λ q items p. keep-or-part-unmarked l room (started files) left_there l.modes n given items (left_there-is ∙ call-started files l room refusal) refusal
              (f ∙ again) (accepts v.refusal b y.tells.answer y.tells.numbered i) bs p;
          unextracted = λ q. absurd (let z : ◌≡◌ {A = ℕ} 0 1 = cc in omega arith);
          unlisted = λ q. absurd (let z : ◌≡◌ {A = ℕ} 0 1 = cc in omega arith);
        }
