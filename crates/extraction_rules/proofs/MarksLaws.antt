-- Wrapping marks through an extraction: an accepted one marks exactly the modules of its forced sources, which are what its 83s hold, and
-- leaves all other wrapping marks. Document 01, 'Second pass': "At the end forced sources get the wrapping mark if they resolve".
use Rattle.std.specs.Prelude.{Option, None, Some}
use Prim.Native.Nat.{ℕ, ◌<◌}
use native.Mathlib.Omega.{arith}
use mathlib.Core.Path.{◌≡◌, refl, sym, ap, ◌∙◌, subst}
use mathlib.Core.Bool.{Bool, true, false, cond, ◌||◌, or-true, or-false, or_assoc}
use mathlib.Core.List.{List, [], ◌∷◌}
use lib.Dec.{eqb}
use lib.ListN.{length}
use borrow.Author.Tests.{eqb-true, eqb-false}
use Rattle.scope.specs.Modules.{Modules, number_of, request, is_marked, set_mark}
use Rattle.scope.specs.declared.Mark.{Mark}
use Rattle.scope.specs.declared.Mark.TheVariants.{Cjs, Wrapping}
use Rattle.scope.proofs.Laws.{number-below, request-keeps-marks, request-keeps-numbers, request-numbers, mark-keeps-numbers, mark-marks, mark-keeps-modules, mark-keeps-kinds}
use Rattle.tree.specs.Layout.{value_of}
use Rattle.tree.specs.Tree.{Fields, field}
use Rattle.metadata.specs.Metadata.{append}
use Rattle.inputs.specs.Outcome.{onto}
use Rattle.inputs.specs.Lists.{find, is_some}
use Rattle.inputs.specs.Table.{Row, rows_in, file_of}
use Rattle.extraction_rules.specs.State.{Record, State, first, second, Setting, start, set_modules}
use Rattle.extraction_rules.specs.First.{requested, module_of, module_for, forget}
use Rattle.extraction_rules.specs.Second.{wrap_module, wrap_all, finish}
use Rattle.extraction_rules.specs.Walk.{walk_module, walk_again}
use Rattle.extraction_rules.specs.Records.{record_fields, forced_fields, records_of}
use Rattle.extraction_rules.specs.Call.{Lent, Lengths, Extracted, setting, extracted}
use Rattle.extraction_rules.specs.Reach.{is_module_of, reaches}
use Rattle.extraction_rules.proofs.OutcomeLaws.{After, after-bind, after-weaken, Of, of-each, after-done}
use Rattle.extraction_rules.proofs.FirstLaws.{source-cases, force-cases}
use Rattle.extraction_rules.proofs.WalkLaws.{Steps, imports-any-all, walk_module-keeps}
use Rattle.extraction_rules.proofs.ExtractedLaws.{call-made}

-- ---- One mark

-- a mark that is set is added to those of its kind
pub mark-adds : (k : Mark) (n m : ℕ) (ms : Modules) → m < length ms → is_marked k n (set_mark k m ms) ≡ is_marked k n ms || eqb n m
mark-adds k n m ms h = go (eqb n m) refl
  where
    go : (b : Bool) → eqb n m ≡ b → is_marked k n (set_mark k m ms) ≡ is_marked k n ms || b
    go true e = ap (λ (i : ℕ). is_marked k i (set_mark k m ms)) (eqb-true n m e) ∙ mark-marks k m ms h ∙ sym (or-true (is_marked k n ms))
    go false e = mark-keeps-modules k k m n ms (eqb-false n m e) ∙ sym (or-false (is_marked k n ms))

-- ---- A walk keeps the wrapping marks

abbrev pub SameMarks : Modules → Modules → Type 0
SameMarks ms ms' = (n : ℕ) → is_marked Wrapping n ms' ≡ is_marked Wrapping n ms

wrapping-not-cjs : Wrapping ≡ Cjs → ⊥
wrapping-not-cjs e = let z : ◌≡◌ {A = ℕ} 0 1 = cc in omega arith

abbrev AnyLiteral : List ℕ → Type 0
AnyLiteral x = Unit {0}

abbrev Unwrapped : Modules → State → Type 0
Unwrapped ms s = SameMarks ms s.modules

unwrapped-steps : (e : Setting) (ms : Modules) → Steps e AnyLiteral (Unwrapped ms)
unfolding forget
unwrapped-steps e ms =
    record {
      common =
          record {
            requires =
                record {
                  on_request = λ s f k ms' q h n. request-keeps-marks f s.modules q Wrapping n ∙ h n;
                  on_cjs =
                      λ s m h n. mark-keeps-kinds Cjs Wrapping m n s.modules wrapping-not-cjs ∙ h n;
                  on_lazy = λ s r b h. h;
                };
            on_force = λ s i h. force-cases i s (Unwrapped ms) h (λ r w. h);
            on_top = λ s b h. h;
          };
      one = λ _. record { on_note = λ s m h. h; on_usage = λ s u c w h. h; on_collect = λ s r b h. h };
      two = λ _. record { on_extend = λ s x us q h. h; on_source = λ s x b q h. source-cases (value_of x) s (Unwrapped ms) (λ _. h) h };
    }

walk-unwrapped : (e : Setting) (items : Fields) (ms : Modules) (s : State) → Unwrapped ms s →
    After (walk_module e items s) (λ gs s'. Unwrapped ms s')
walk-unwrapped e items ms s h =
    walk_module-keeps e AnyLiteral (Unwrapped ms) (unwrapped-steps e ms) items s (imports-any-all items AnyLiteral (λ x. tt)) h

-- ---- The end of the second pass

-- from ms to ms' the modules of these sources get the wrapping mark, and numbers stay
record Wrapped (rows : List Row) (l : List (List ℕ)) (ms ms' : Modules) : Type 0 where
  marks : (n : ℕ) → is_marked Wrapping n ms' ≡ is_marked Wrapping n ms || reaches n rows ms' l
  stays : (f k : ℕ) → number_of f ms ≡ Some k → number_of f ms' ≡ Some k

found-or : (b : Bool) (a : List ℕ) (o : Option (List ℕ)) → is_some (cond b (Some a) o) ≡ b || is_some o
found-or true a o = refl
found-or false a o = refl

-- a first source a, then the rest l
module _ (rows : List Row) (a : List ℕ) (l : List (List ℕ)) where
  reaches-first : (n : ℕ) (ms : Modules) (b : Bool) → is_module_of n rows ms a ≡ b → reaches n rows ms (a ∷ l) ≡ b || reaches n rows ms l
  unfolding find
  reaches-first n ms b e = found-or (is_module_of n rows ms a) a (find (is_module_of n rows ms) l) ∙ ap (λ (c : Bool). c || reaches n rows ms l) e

  unresolved : (n : ℕ) (ms : Modules) → file_of a rows ≡ None → is_module_of n rows ms a ≡ false
  unresolved n ms q = rw q

  resolved-to : (n : ℕ) (ms : Modules) (f k : ℕ) → file_of a rows ≡ Some f → number_of f ms ≡ Some k → is_module_of n rows ms a ≡ eqb n k
  resolved-to n ms f k q r = rw (q, r)

  -- the first does not resolve
  wrap-none : (ms ms' : Modules) → file_of a rows ≡ None → Wrapped rows l ms ms' → Wrapped rows (a ∷ l) ms ms'
  wrap-none ms ms' q w =
      record {
        marks = λ n. w.marks n ∙ ap (λ (b : Bool). is_marked Wrapping n ms || b) (sym (reaches-first n ms' false (unresolved n ms' q)));
        stays = w.stays;
      }

  -- the first is of the file f, which a request finds as module k
  wrap-more : (f k : ℕ) (ms new ms' : Modules) → file_of a rows ≡ Some f → request f ms ≡ Some (k, new) →
      Wrapped rows l (set_mark Wrapping k new) ms' → Wrapped rows (a ∷ l) ms ms'
  wrap-more f k ms new ms' q r w =
      let here : number_of f new ≡ Some k = request-numbers f ms r in
      let there : number_of f ms' ≡ Some k = w.stays f k (mark-keeps-numbers Wrapping k new f ∙ here) in
      record {
        marks = λ n.
            let rest = reaches n rows ms' l in
            w.marks n
            ∙ ap (λ (b : Bool). b || rest) (mark-adds Wrapping n k new (number-below f new here))
            ∙ ap (λ (b : Bool). b || eqb n k || rest) (request-keeps-marks f ms r Wrapping n)
            ∙ or_assoc (is_marked Wrapping n ms) (eqb n k) rest
            ∙ ap (λ (b : Bool). is_marked Wrapping n ms || b) (sym (reaches-first n ms' (eqb n k) (resolved-to n ms' f k q there)));
        stays = λ g j h. w.stays g j (mark-keeps-numbers Wrapping k new g ∙ request-keeps-numbers f ms r g j h);
      }

abbrev WrappedAfter : Setting → List (List ℕ) → State → State → Type 0
WrappedAfter e l s s' = (s'.forced ≡ s.forced) × Wrapped e.table l s.modules s'.modules

-- what marking these sources does from any state on
abbrev WrapsAll : Setting → List (List ℕ) → Type 0
WrapsAll e l = (s : State) → After (wrap_all e l s) (λ _ s'. WrappedAfter e l s s')

wrap_all-after : (e : Setting) (l : List (List ℕ)) → WrapsAll e l
unfolding wrap_all module_for wrap_module find
wrap_all-after e [] s = (refl, record { marks = λ n. sym (or-false (is_marked Wrapping n s.modules)); stays = λ f k h. h })
wrap_all-after e (a ∷ l) s = named (file_of a e.table) refl (wrap_all-after e l)
  where
    asked : (f : ℕ) (o : Option (ℕ × Modules)) → file_of a e.table ≡ Some f → request f s.modules ≡ o → WrapsAll e l →
        After (onto (requested o 0 s) (λ q. onto (wrap_module q.0 q.1) (λ q. wrap_all e l q.1))) (λ _ s'. WrappedAfter e (a ∷ l) s s')
    asked f None q r rest = tt
    asked f (Some k) q r rest =
        let t : State = set_modules (set_mark Wrapping k.0 k.1) s in
        after-weaken (wrap_all e l t) (λ _ s'. WrappedAfter e l t s') (λ _ s'. WrappedAfter e (a ∷ l) s s')
        (λ _ s' w. (w.0, wrap-more e.table a l f k.0 s.modules k.1 s'.modules q r w.1)) (rest t)

    named : (o : Option ℕ) → file_of a e.table ≡ o → WrapsAll e l →
        After (onto (module_of o 0 s) (λ q. onto (wrap_module q.0 q.1) (λ q. wrap_all e l q.1))) (λ _ s'. WrappedAfter e (a ∷ l) s s')
    named None q rest =
        after-weaken (wrap_all e l s) (λ _ s'. WrappedAfter e l s s') (λ _ s'. WrappedAfter e (a ∷ l) s s')
        (λ _ s' w. (w.0, wrap-none e.table a l s.modules s'.modules q w.1)) (rest s)
    named (Some f) q rest = asked f (request f s.modules) q refl rest

-- ---- The whole call

-- the wrapping marks after are those before and those of the modules of the forced sources
abbrev pub MarksForced : List Row → Modules → List (List ℕ) → Modules → Type 0
MarksForced rows ms forced ms' = (n : ℕ) → is_marked Wrapping n ms' ≡ is_marked Wrapping n ms || reaches n rows ms' forced

again-marks : (e : Setting) (items : Fields) (ms : Modules) (s : State) → Unwrapped ms s →
    After (walk_again e items s) (λ gs s'. MarksForced e.table ms s'.forced s'.modules)
unfolding walk_again finish
again-marks e items ms s h =
    let Q : State → Type 0 = λ s'. MarksForced e.table ms s'.forced s'.modules in
    after-bind (walk_module e items s) _ (λ gs s'. Unwrapped ms s') (λ gs s'. Q s') (walk-unwrapped e items ms s h) λ gs s k.
    after-bind (onto (wrap_all e s.forced s) _) _ (λ _ s'. Q s') (λ gs s'. Q s')
    (after-bind (wrap_all e s.forced s) _ (λ _ s'. WrappedAfter e s.forced s s') (λ _ s'. Q s') (wrap_all-after e s.forced s)
    (λ _ s' w n. w.1.marks n ∙ ap (λ (b : Bool). b || reaches n e.table s'.modules s.forced) (k n) ∙ rw w.0))
    (λ _ s' q. q)

-- an accepted extraction adds exactly the wrapping marks of the modules that its table names for its forced sources
pub extraction-marks : (l : Lent) (room : Lengths) (ms : Modules) →
    Of (extracted l room ms) (λ r. MarksForced (rows_in l.table) ms r.forced r.modules)
extraction-marks l room ms =
    of-each (extracted l room ms) _ λ r e.
    let m = call-made l room ms r e in
    let u = m.run in
    let one = setting first m.own.0 l (rows_in l.table) in
    let two = setting second m.own.0 l (rows_in l.table) in
    let a = after-done (walk_module one m.items (start m.own.1)) (λ works s. Unwrapped ms s) (u.works, u.middle) u.once
    (walk-unwrapped one m.items ms (start m.own.1) (request-keeps-marks l.file ms m.requests Wrapping)) in
    subst (λ (z : Extracted). MarksForced (rows_in l.table) ms z.forced z.modules) u.given
    (after-done (walk_again two u.works u.middle) (λ outs s. MarksForced (rows_in l.table) ms s.forced s.modules) (u.outs, u.end)
    u.twice (again-marks two u.works ms u.middle a))

-- ---- What a call forces is what its 83s hold

abbrev pub Recorded : Extracted → Type 0
Recorded r =
    (c : List Record) × (z : List Record)
    × (r.records ≡ field 0x02 [] (append (record_fields 0x80 c) (append (record_fields 0x81 z) (forced_fields r.forced))))

pub forced-recorded : (l : Lent) (room : Lengths) (ms : Modules) → Of (extracted l room ms) Recorded
unfolding records_of
forced-recorded l room ms =
    of-each (extracted l room ms) Recorded λ r e. let u = (call-made l room ms r e).run in subst Recorded u.given (u.end.collected, u.end.lazy, refl)
