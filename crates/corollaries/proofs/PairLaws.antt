-- What the functions of the crate ensure, from the contracts of the calls that they make.
use Rattle.std.specs.Prelude.{Bool, None, Result, Ok, Err}
use Prim.Native.Nat.{ℕ, ◌+◌, ◌-◌, ◌≤◌}
use native.Mathlib.Omega.{arith}
use mathlib.Core.Path.{◌≡◌, refl, sym, ap, ◌∙◌}
use mathlib.Core.List.{List}
use lib.ListN.{length, take, drop}
use lib.Seq.{take-length, take_all}
use Rattle.modes.specs.declared.Modes.{Modes}
use Rattle.scope.specs.declared.Mark.TheVariants.{Wrapping}
use Rattle.scope.specs.declared.NoSuchModule.{NoSuchModule}
use Rattle.scope.specs.declared.Scope.{Scope}
use Rattle.scope.specs.declared.id.ModuleId.{ModuleId}
use Rattle.scope.specs.Modules.{Modules, read_mark}
use Rattle.scope.specs.ScopeValue.{modules_of, read_by}
use Rattle.tree.specs.Layout.{two_at, Bytes}
use Rattle.tree.specs.Layout.{field_in}
use Rattle.extraction_rules.specs.Call.{Lent, Lengths, Left, extraction}
use Rattle.extraction.specs.declared.Extraction.{Extraction}
use Rattle.extraction.specs.declared.ExtractError.{ExtractError}
use Rattle.extraction.specs.declared.ExtractError.TheVariants.{BadLists, NamedTwice, Unread, Refused, NoRoom}
use Rattle.extraction.specs.Answer.{answer_refusal, left}
use Rattle.resolving_rules.specs.Call.{Left as LeftList, resolving}
use Rattle.resolving.specs.declared.Resolution.{Resolution}
use Rattle.resolving.specs.declared.ResolveError.{ResolveError}
use Rattle.resolving.specs.declared.ResolveError.TheVariants.{BadTable, NamedTwice as TwiceNamed, Unread as NotRecords, TooManyFiles as TooManySources, Refused as TurnedBack, NoRoom as TooLong}
use Rattle.resolving.specs.Answer.{lent_as, answer_refusal as list_refusal, left as left_list}
use Rattle.corollaries.specs.declared.PairError.TheVariants.{NotExtracted, NotListed}
use Rattle.corollaries.specs.Functions.{Exact, Pairs}
use Rattle.corollaries.proofs.FunctionsLaws.{answers-exactly, answers-none, functions-keep-or-part}

-- ---- The field at the front of a buffer

pub front-cut : (s : List ℕ) → length s ≤ 3 + two_at s 1 → take (length s) s ≡ field_in s
unfolding field_in
front-cut s h = take-length s ∙ sym (take_all (3 + two_at s 1) s h)

pub front-whole : (s : List ℕ) (n : ℕ) → n ≡ 3 + two_at s 1 → take n s ≡ field_in s
unfolding field_in
front-whole s n e = ap (λ (n : ℕ). take n s) e

-- the field at the front as a part of the buffer
pub front-resolved : (modes : Modes) (table s : List ℕ) (n room : ℕ) (ms : Modules) {x : LeftList} → take n s ≡ field_in s →
    x ≡ resolving (lent_as modes table (take (n - 0) (drop 0 s))) room ms → x ≡ resolving (lent_as modes table (field_in s)) room ms
front-resolved modes table s n room ms h e =
    let z : n - 0 ≡ n = omega arith in
    e ∙ ap (λ (p : List ℕ). resolving (lent_as modes table p) room ms) (ap (λ (i : ℕ). take i s) z ∙ h)

-- ---- Both calls

-- an answer without a refusal accepts
unrefused : (a : Result Unit ExtractError) → answer_refusal a ≡ None → a ≡ Ok tt
unrefused (Ok tt) e = refl
unrefused (Err BadLists) e = absurd (let z : ◌≡◌ {A = ℕ} 0 1 = cc in omega arith)
unrefused (Err NamedTwice) e = absurd (let z : ◌≡◌ {A = ℕ} 0 1 = cc in omega arith)
unrefused (Err (Unread u)) e = absurd (let z : ◌≡◌ {A = ℕ} 0 1 = cc in omega arith)
unrefused (Err (Refused u)) e = absurd (let z : ◌≡◌ {A = ℕ} 0 1 = cc in omega arith)
unrefused (Err NoRoom) e = absurd (let z : ◌≡◌ {A = ℕ} 0 1 = cc in omega arith)

unrefused-list : (a : Result Unit ResolveError) → list_refusal a ≡ None → a ≡ Ok tt
unrefused-list (Ok tt) e = refl
unrefused-list (Err BadTable) e = absurd (let z : ◌≡◌ {A = ℕ} 0 1 = cc in omega arith)
unrefused-list (Err TwiceNamed) e = absurd (let z : ◌≡◌ {A = ℕ} 0 1 = cc in omega arith)
unrefused-list (Err (NotRecords u)) e = absurd (let z : ◌≡◌ {A = ℕ} 0 1 = cc in omega arith)
unrefused-list (Err (TooManySources p)) e = absurd (let z : ◌≡◌ {A = ℕ} 0 1 = cc in omega arith)
unrefused-list (Err (TurnedBack u)) e = absurd (let z : ◌≡◌ {A = ℕ} 0 1 = cc in omega arith)
unrefused-list (Err TooLong) e = absurd (let z : ◌≡◌ {A = ℕ} 0 1 = cc in omega arith)

module _ (l : Lent) (room : Lengths) (n : ℕ) (s : Scope) (r : Extraction) {w o k : List ℕ} (e : left r w o k ≡ extraction l room (modules_of s)) where
  pair-records : k ≡ (extraction l room (modules_of s)).records
  pair-records = ap (λ (x : Left). x.records) e

  pair-modules : modules_of r.scope ≡ (extraction l room (modules_of s)).modules
  pair-modules = ap (λ (x : Left). x.modules) e

  pub pairs-both : (q : Resolution) {g : List ℕ} → r.answer ≡ Ok tt → left_list q g ≡ resolving (lent_as l.modes l.table (field_in k)) n (modules_of r.scope) →
      q.answer ≡ Ok tt → Bytes l.tree → Pairs l room n s o k g (record { extracted = r.scope; resolved = q.scope; answer = Ok tt })
  pairs-both q {g} a f b bs =
      record {
        both = λ _ items p. functions-keep-or-part l room s r w o k l.modes n q g e a f b bs items p;
        unextracted = λ z. absurd (let z : ◌≡◌ {A = ℕ} 0 1 = cc in omega arith);
        unlisted = λ z. absurd (let z : ◌≡◌ {A = ℕ} 0 1 = cc in omega arith);
        records = pair-records;
        modules = pair-modules;
      }

  pub pairs-unlisted : (q : Resolution) {g : List ℕ} {x : ResolveError} → left_list q g ≡ resolving (lent_as l.modes l.table (field_in k)) n (modules_of r.scope) →
      q.answer ≡ Err x → Pairs l room n s o k g (record { extracted = r.scope; resolved = q.scope; answer = Err NotListed })
  pairs-unlisted q f b =
      record {
        both = λ z. absurd (let z : ◌≡◌ {A = ℕ} 0 1 = cc in omega arith);
        unextracted = λ z. absurd (let z : ◌≡◌ {A = ℕ} 0 1 = cc in omega arith);
        unlisted = λ z h. let y = sym b ∙ unrefused-list q.answer (ap (λ (x : LeftList). x.refusal) f ∙ h) in absurd (let z : ◌≡◌ {A = ℕ} 0 1 = cc in omega arith);
        records = pair-records;
        modules = pair-modules;
      }

  pub pairs-unextracted : {g : List ℕ} (t : Scope) {x : ExtractError} → r.answer ≡ Err x → Pairs l room n s o k g (record { extracted = r.scope; resolved = t; answer = Err NotExtracted })
  pairs-unextracted t a =
      record {
        both = λ z. absurd (let z : ◌≡◌ {A = ℕ} 0 1 = cc in omega arith);
        unextracted = λ z h. let y = sym a ∙ unrefused r.answer (ap (λ (x : Left). x.refusal) e ∙ h) in absurd (let z : ◌≡◌ {A = ℕ} 0 1 = cc in omega arith);
        unlisted = λ z. absurd (let z : ◌≡◌ {A = ℕ} 0 1 = cc in omega arith);
        records = pair-records;
        modules = pair-modules;
      }

-- ---- The sentence on lists

pub exact : (m : ModuleId) (t : Scope) (r : Result Bool NoSuchModule) → read_by r ≡ read_mark Wrapping m (modules_of t) → Exact m t r
exact m t r e =
    record {
      is = λ calls s fresh h b q. answers-exactly calls s t fresh h m b (sym (ap read_by q) ∙ e);
      never = λ calls s fresh h e′ q. answers-none calls s t fresh h m (sym (ap read_by q) ∙ e);
    }
