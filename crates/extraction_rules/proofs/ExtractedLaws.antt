-- What an accepted call is made of: the two passes that it ran, and what the second pass's end left.
use Rattle.std.specs.Prelude.{Option, None, Some}
use Prim.Native.Nat.{ℕ}
use mathlib.Core.Path.{◌≡◌, refl, sym, ap, ◌∙◌, subst}
use mathlib.Core.Bool.{true}
use mathlib.Core.List.{List, [], ◌∷◌, map}
use Rattle.scope.specs.Modules.{Modules, number_of, request}
use Rattle.tree.specs.declared.grammar.Set.TheVariants.{Module}
use Rattle.tree.specs.Tree.{Fields, size}
use Rattle.tree.specs.Read.{read}
use Rattle.writer.specs.Finished.{has_room}
use Rattle.inputs.specs.Outcome.{Outcome, done, refused, placeless, refuse_if}
use Rattle.inputs.specs.Table.{Row, rows_in, table_of}
use Rattle.inputs.specs.Buffer.{fits}
use Rattle.inputs.proofs.AcceptedLaws.{done-inj, onto-done, placeless-done, table-rows, done-refused, fits-room}
use Rattle.extraction_rules.specs.State.{State, first, second, Setting, start, set_modules}
use Rattle.extraction_rules.specs.First.{module_for}
use Rattle.extraction_rules.specs.Second.{wrap_module, wrap_all, lose_namespaces, finish}
use Rattle.extraction_rules.specs.Walk.{walk_module, walk_again}
use Rattle.extraction_rules.specs.Records.{records_of}
use Rattle.extraction_rules.specs.Call.{Lent, Lengths, Extracted, bad_lists, items_read, own_module, setting, module_with, extracted_from, passes, extracted}
use Rattle.extraction_rules.proofs.OutcomeLaws.{After, after-bind, after-both, after-weaken, after-done}
use Rattle.extraction_rules.proofs.StepLaws.{finish-keeps, module_for-stays}
use Rattle.extraction_rules.proofs.SanityLaws.{Numbered, numbered-steps, numbered-end}

-- ---- Both passes of an accepted call

pub record Run (l : Lent) (room : Lengths) (rows : List Row) (own : ℕ) (items : Fields) (ms : Modules) (r : Extracted) : Type 0 where
  -- the first pass
  pub works : Fields
  pub middle : State
  pub once : walk_module (setting first own l rows) items (start ms) ≡ done (works, middle)
  pub work_room : has_room (size (module_with works)) room.work ≡ true
  -- the second pass, with its end
  pub outs : Fields
  pub end : State
  pub twice : walk_again (setting second own l rows) works middle ≡ done (outs, end)
  pub out_room : has_room (size (module_with outs)) room.out ≡ true
  pub records_room : has_room (size (records_of end)) room.records ≡ true
  pub given : extracted_from works outs end ≡ r

passes-done : (l : Lent) (room : Lengths) (rows : List Row) (items : Fields) (own : ℕ × Modules) (r : Extracted) →
    passes l room rows items own ≡ done r → Run l room rows own.0 items own.1 r
unfolding passes
passes-done l room rows items own r e =
    let a = onto-done (walk_module (setting first own.0 l rows) items (start own.1)) _ r e in
    let b = onto-done (fits (module_with a.0.0) room.work) _ r a.2 in
    let c = onto-done (placeless (walk_again (setting second own.0 l rows) a.0.0 a.0.1)) _ r b.2 in
    let d = onto-done (fits (module_with c.0.0) room.out) _ r c.2 in
    let f = onto-done (fits (records_of c.0.1) room.records) _ r d.2 in
    record {
      works = a.0.0;
      middle = a.0.1;
      once = a.1;
      work_room = fits-room (module_with a.0.0) room.work b.0 b.1;
      outs = c.0.0;
      end = c.0.1;
      twice = placeless-done (walk_again (setting second own.0 l rows) a.0.0 a.0.1) c.0 c.1;
      out_room = fits-room (module_with c.0.0) room.out d.0 d.1;
      records_room = fits-room (records_of c.0.1) room.records f.0 f.1;
      given = done-inj f.2;
    }

own-done : (o : Option (ℕ × Modules)) (r : ℕ × Modules) → own_module o ≡ done r → o ≡ Some r
own-done None r e = done-refused e
own-done (Some q) r e = ap Some (done-inj e)

-- the items that the call read, its own module, and its passes
pub record Made (l : Lent) (room : Lengths) (ms : Modules) (r : Extracted) : Type 0 where
  pub items : Fields
  pub reads : items_read (read Module l.tree) ≡ done items
  pub own : ℕ × Modules
  pub requests : request l.file ms ≡ Some own
  pub run : Run l room (rows_in l.table) own.0 items own.1 r

pub call-made : (l : Lent) (room : Lengths) (ms : Modules) (r : Extracted) → extracted l room ms ≡ done r → Made l room ms r
unfolding extracted
call-made l room ms r e =
    let a = onto-done (refuse_if (bad_lists l) 1) _ r e in
    let b = onto-done (table_of l.table) _ r a.2 in
    let c = onto-done (items_read (read Module l.tree)) _ r b.2 in
    let d = onto-done (own_module (request l.file ms)) _ r c.2 in
    record {
      items = c.0;
      reads = c.1;
      own = d.0;
      requests = own-done (request l.file ms) d.0 d.1;
      run = subst (λ (rows : List Row). Run l room rows d.0.0 c.0 d.0.1 r) (table-rows l.table b.0 b.1) (passes-done l room b.0 c.0 d.0 r d.2);
    }

-- the same for items and a module that are known
pub call-run : (l : Lent) (room : Lengths) (ms : Modules) (r : Extracted) (items : Fields) (own : ℕ × Modules) → extracted l room ms ≡ done r →
    items_read (read Module l.tree) ≡ done items → request l.file ms ≡ Some own → Run l room (rows_in l.table) own.0 items own.1 r
call-run l room ms r items own e p q =
    let m = call-made l room ms r e in
    let i : m.items ≡ items = done-inj (sym m.reads ∙ p) in
    let o : m.own ≡ own = done-inj (ap own_module (sym m.requests ∙ q)) in
    subst (λ (o : ℕ × Modules). Run l room (rows_in l.table) o.0 items o.1 r) o (subst (λ (fs : Fields). Run l room (rows_in l.table) m.own.0 fs m.own.1 r) i m.run)

-- each buffer of an accepted call has room for what it is to hold
pub call-room : (l : Lent) (room : Lengths) (ms : Modules) (r : Extracted) → extracted l room ms ≡ done r →
    (has_room (size r.work) room.work ≡ true) × (has_room (size r.out) room.out ≡ true) × (has_room (size r.records) room.records ≡ true)
call-room l room ms r e =
    let u = (call-made l room ms r e).run in
    subst (λ (z : Extracted). (has_room (size z.work) room.work ≡ true) × (has_room (size z.out) room.out ≡ true) × (has_room (size z.records) room.records ≡ true))
    u.given (u.work_room, u.out_room, u.records_room)

-- what both passes say of a run
pub run-both : (l : Lent) {room : Lengths} (rows : List Row) (own : ℕ) (items : Fields) (ms : Modules) (r : Extracted) (u : Run l room rows own items ms r) (P Q : Fields → State → Type 0) →
    After (walk_module (setting first own l rows) items (start ms)) (λ works s. P works s × After (walk_again (setting second own l rows) works s) Q) →
    P u.works u.middle × Q u.outs u.end
run-both l rows own items ms r u P Q h =
    let a = after-done (walk_module (setting first own l rows) items (start ms)) (λ works s. P works s × After (walk_again (setting second own l rows) works s) Q) (u.works, u.middle) u.once h in
    (a.0, after-done (walk_again (setting second own l rows) u.works u.middle) Q (u.outs, u.end) u.twice a.1)

-- ---- The second pass's end: 'other records lose namespaces'

-- records, forced sources and lazy records are as they were
abbrev Untouched : State → State → Type 0
Untouched s t = (t.collected ≡ s.collected) × (t.forced ≡ s.forced) × (t.lazy ≡ s.lazy)

-- what the end leaves of these
abbrev pub Finished : State → State → Type 0
Finished s t =
    (t.collected ≡ map (lose_namespaces s.forced) s.collected)
    × (t.forced ≡ s.forced)
    × (t.lazy ≡ s.lazy)
    × ((f n : ℕ) → number_of f s.modules ≡ Some n → number_of f t.modules ≡ Some n)

-- what holds after a step for each b
after-each : {A B : Type 0} (m : Outcome (A × State)) (P : B → A → State → Type 0) → ((b : B) → After m (P b)) → After m (λ a s. (b : B) → P b a s)
after-each (done r) P h = h
after-each (refused n p) P h = tt

module _ (e : Setting) where
  module_for-untouched : (a : List ℕ) (p : ℕ) (s : State) → After (module_for e a p s) (λ n t. Untouched s t)
  module_for-untouched a p s =
      after-weaken (module_for e a p s) (λ n t. t ≡ set_modules t.modules s) (λ n t. Untouched s t)
      (λ n t k. (ap (λ (t : State). t.collected) k, ap (λ (t : State). t.forced) k, ap (λ (t : State). t.lazy) k)) (module_for-stays e a p s)

  wrap_module-untouched : (o : Option ℕ) (s : State) → After (wrap_module o s) (λ n t. Untouched s t)
  unfolding wrap_module
  wrap_module-untouched None s = (refl, refl, refl)
  wrap_module-untouched (Some n) s = (refl, refl, refl)

  untouched-next : (s t u : State) → Untouched s t → Untouched t u → Untouched s u
  untouched-next s t u h k = (k.0 ∙ h.0, k.1 ∙ h.1, k.2 ∙ h.2)

  wrap_all-untouched : (l : List (List ℕ)) (s t : State) → Untouched s t → After (wrap_all e l t) (λ n u. Untouched s u)
  unfolding wrap_all
  wrap_all-untouched [] s t h = h
  wrap_all-untouched (a ∷ l) s t h =
      after-bind (module_for e a 0 t) _ (λ n u. Untouched t u) (λ n u. Untouched s u) (module_for-untouched a 0 t) λ n u k.
      after-bind (wrap_module n u) _ (λ n v. Untouched u v) (λ n u. Untouched s u) (wrap_module-untouched n u) λ _ v m.
      wrap_all-untouched l s v (untouched-next s u v (untouched-next s t u h k) m)

  finish-records : (s : State) → After (finish e s) (λ _ t. (t.collected ≡ map (lose_namespaces s.forced) s.collected) × (t.forced ≡ s.forced) × (t.lazy ≡ s.lazy))
  unfolding finish
  finish-records s =
      after-bind (wrap_all e s.forced s) _ (λ n t. Untouched s t) (λ _ t. (t.collected ≡ map (lose_namespaces s.forced) s.collected) × (t.forced ≡ s.forced) × (t.lazy ≡ s.lazy))
      (wrap_all-untouched s.forced s s (refl, refl, refl)) λ _ t h. (rw (h.0, h.1), h.1, h.2)

  -- numbers that were given stay
  finish-numbers : (s : State) → After (finish e s) (λ _ t. (k : (f : ℕ) × (n : ℕ) × (number_of f s.modules ≡ Some n)) → number_of k.0 t.modules ≡ Some k.1)
  finish-numbers s =
      after-each (finish e s) (λ k _ t. number_of k.0 t.modules ≡ Some k.1)
      (λ k. finish-keeps e (Numbered k.0 k.1) (numbered-steps e (λ _. Unit {0}) k.0 k.1).common.requires (numbered-end k.0 k.1) s k.2)

  pub finish-leaves : (s : State) → After (finish e s) (λ _ t. Finished s t)
  finish-leaves s =
      after-weaken (finish e s)
      (λ _ t. ((t.collected ≡ map (lose_namespaces s.forced) s.collected) × (t.forced ≡ s.forced) × (t.lazy ≡ s.lazy))
      × ((k : (f : ℕ) × (n : ℕ) × (number_of f s.modules ≡ Some n)) → number_of k.0 t.modules ≡ Some k.1)) (λ _ t. Finished s t)
      (λ _ t h. (h.0.0, h.0.1, h.0.2, λ f n w. h.1 (f, n, w)))
      (after-both (finish e s) (λ _ t. (t.collected ≡ map (lose_namespaces s.forced) s.collected) × (t.forced ≡ s.forced) × (t.lazy ≡ s.lazy))
      (λ _ t. (k : (f : ℕ) × (n : ℕ) × (number_of f s.modules ≡ Some n)) → number_of k.0 t.modules ≡ Some k.1) (finish-records s) (finish-numbers s))

  -- the second pass is a walk, then its end
  pub again-done : (items : Fields) (s : State) (r : Fields × State) → walk_again e items s ≡ done r →
      (t : State) × (walk_module e items s ≡ done (r.0, t)) × Finished t r.1
  unfolding walk_again
  again-done items s r q =
      let a = onto-done (walk_module e items s) _ r q in
      let b = onto-done (finish e a.0.1) _ r a.2 in
      let m = done-inj b.2 in
      let f = after-done (finish e a.0.1) (λ _ t. Finished a.0.1 t) b.0 b.1 (finish-leaves a.0.1) in
      (a.0.1, a.1 ∙ ap (λ (x : Fields). done (x, a.0.1)) (ap (λ (y : Fields × State). y.0) m), rw (ap (λ (y : Fields × State). y.1) m) at f)
