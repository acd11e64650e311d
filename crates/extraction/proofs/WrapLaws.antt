-- 'At the end forced sources get the wrapping mark if they resolve', one after the other.
use Rattle.std.specs.Prelude.{Option, None, Some, Result, Ok, Err}
use Prim.Native.Nat.{ℕ, ◌+◌, ◌≤◌}
use native.Mathlib.Omega.{arith}
use mathlib.Core.Path.{◌≡◌, refl, sym, ap, subst, ◌∙◌}
use mathlib.Core.List.{List, [], ◌∷◌}
use lib.ListN.{length, drop, drop_of_length-le}
use Rattle.scope.specs.Modules.{Modules, request, set_mark}
use Rattle.scope.specs.declared.Mark.TheVariants.{Wrapping as WrappingMark}
use Rattle.scope.specs.declared.id.ModuleId.{ModuleId}
use Rattle.tree.specs.Layout.{two}
use Rattle.inputs.specs.Outcome.{Outcome, done, refused, onto, placeless}
use Rattle.inputs.specs.Table.{file_of}
use Rattle.extraction_rules.specs.State.{State, Setting, Act, set_modules}
use Rattle.extraction_rules.specs.First.{requested, module_of, module_for}
use Rattle.extraction_rules.specs.Second.{wrap_module, wrap_all}
use Rattle.extraction_rules.proofs.OutcomeLaws.{After, after-bind, after-weaken, after-done}
use Rattle.extraction_rules.proofs.StepLaws.{module_for-stays}
use Rattle.state.specs.Cells.{Env, Good, forces, table_of, held}
use Rattle.tables.proofs.RowLaws.{rows-length}
use Rattle.state.specs.Does.{Tells, Holds, Turns, Resolves}
use Rattle.scope.specs.declared.TooManyFiles.{TooManyFiles}
use Rattle.steps.specs.Refusal.{Refusal}
use Rattle.steps.specs.declared.Why.TheVariants.{TooManyFiles as NoNumber}
use Rattle.steps.specs.Step.{Effect, Effects}
use Rattle.steps.specs.Refusal.{refusal, refusal_of}
use Rattle.steps.proofs.StepsLaws.{fine-turned, turned-as}
use Rattle.extraction.proofs.HeldLaws.{refused-place}
use Rattle.extraction.specs.Stages.{Anywhere, wrap_one, wrap_from, Wrapping}

-- ---- One source

abbrev wraps : ℕ → Env → Act (Unit {0})
wraps a x = wrap_one x.setting (two a)

abbrev wraps_from : ℕ → Env → Act (Unit {0})
wraps_from i x = wrap_from i x.setting

module _ (a : ℕ) where
  wrapped : (e : Setting) (s : State) (m : Outcome (Option ℕ × State)) → module_for e (two a) 0 s ≡ m → wrap_one e (two a) s ≡ onto m (λ r. wrap_module r.0 r.1)
  wrapped e s m q = ap (λ (m : Outcome (Option ℕ × State)). onto m (λ r. wrap_module r.0 r.1)) q

  pub source-marked : {t t1 t2 : List ℕ} {r : Result (Option ModuleId) TooManyFiles} (n : ModuleId) → Resolves (λ e. module_for e (two a)) t t1 r → r ≡ Ok (Some n) →
      Turns (λ s. set_modules (set_mark WrappingMark n.0 s.modules) s) t1 t2 → Effects Anywhere (wraps a) t t2 (Ok tt)
  unfolding wrap_module
  source-marked n g q u =
      record {
        fine = λ f {x = x} s w c.
            let d = g.resolved (Some n) q s 0 w in
            record {
              state = set_modules (set_mark WrappingMark n.0 d.state.modules) d.state;
              is = wrapped x.setting s (done (Some n.0, d.state)) d.is;
              shows = u.shows d.state d.shows;
            };
        turned = λ v f s w c. fine-turned f;
      }

  pub source-unresolved : {t t1 : List ℕ} {r : Result (Option ModuleId) TooManyFiles} → Resolves (λ e. module_for e (two a)) t t1 r → r ≡ Ok None → Effects Anywhere (wraps a) t t1 (Ok tt)
  unfolding wrap_module
  source-unresolved g q =
      record {
        fine = λ f {x = x} s w c.
            let d = g.resolved None q s 0 w in
            record { state = d.state; is = wrapped x.setting s (done (None, d.state)) d.is; shows = d.shows };
        turned = λ v f s w c. fine-turned f;
      }

  pub source-full : {t t1 : List ℕ} {r : Result (Option ModuleId) TooManyFiles} {e : TooManyFiles} → Resolves (λ e. module_for e (two a)) t t1 r → r ≡ Err e →
      Effects Anywhere (wraps a) t t1 (Err (refusal NoNumber 0))
  source-full {e = e} g q =
      record {
        fine = λ f s w c. fine-turned (sym f);
        turned = λ v f {x = x} s w c. turned-as (wrapped x.setting s (refused 5 0) (g.full e q s 0 w)) f;
      }

-- ---- All of them

onto-onto : {A B C : Type 0} (m : Outcome A) (f : A → Outcome B) (g : B → Outcome C) → onto m (λ a. onto (f a) g) ≡ onto (onto m f) g
onto-onto (done a) f g = refl
onto-onto (refused n p) f g = refl

module-forced : (o : Option ℕ) (s : State) → After (wrap_module o s) (λ _ t. t.forced ≡ s.forced)
unfolding wrap_module
module-forced None s = refl
module-forced (Some n) s = refl

-- forced sources stay
forced-same : (e : Setting) (a : List ℕ) (s : State) → After (wrap_one e a s) (λ _ t. t.forced ≡ s.forced)
forced-same e a s =
    after-bind (module_for e a 0 s) _ (λ n t. t ≡ set_modules t.modules s) (λ _ t. t.forced ≡ s.forced) (module_for-stays e a 0 s) λ n s1 q.
    after-weaken (wrap_module n s1) (λ _ t. t.forced ≡ s1.forced) (λ _ t. t.forced ≡ s.forced) (λ _ t h. h ∙ ap (λ (z : State). z.forced) q) (module-forced n s1)

first-wrapped : (e : Setting) (a : List ℕ) (l : List (List ℕ)) (s : State) → wrap_all e (a ∷ l) s ≡ onto (wrap_one e a s) (λ q. wrap_all e l q.1)
unfolding wrap_all
first-wrapped e a l s = onto-onto (module_for e a 0 s) (λ r. wrap_module r.0 r.1) (λ q. wrap_all e l q.1)

module _ (e : Setting) (i : ℕ) (s : State) where
  wrap-step : (a b : List ℕ) → a ≡ b → drop i s.forced ≡ a ∷ drop (i + 1) s.forced → (m : Outcome (Unit {0} × State)) → wrap_one e b s ≡ m →
      wrap_from i e s ≡ onto m (λ q. wrap_all e (drop (i + 1) s.forced) q.1)
  wrap-step a b p q m h =
      ap (λ (l : List (List ℕ)). wrap_all e l s) (q ∙ ap (λ (c : List ℕ). c ∷ drop (i + 1) s.forced) p)
      ∙ first-wrapped e b (drop (i + 1) s.forced) s ∙ ap (λ (m : Outcome (Unit {0} × State)). onto m (λ q. wrap_all e (drop (i + 1) s.forced) q.1)) h

  wrap-next : (a b : List ℕ) → a ≡ b → drop i s.forced ≡ a ∷ drop (i + 1) s.forced → (s1 : State) → wrap_one e b s ≡ done (tt, s1) →
      wrap_from i e s ≡ wrap_from (i + 1) e s1
  wrap-next a b p q s1 h =
      let k : s1.forced ≡ s.forced = after-done (wrap_one e b s) (λ _ t. t.forced ≡ s.forced) (tt, s1) h (forced-same e b s) in
      wrap-step a b p q (done (tt, s1)) h ∙ ap (λ (l : List (List ℕ)). wrap_all e (drop (i + 1) l) s1) (sym k)

nothing-wrapped : (i : ℕ) (e : Setting) (s : State) → length s.forced ≤ i → wrap_from i e s ≡ done (tt, s)
unfolding wrap_all
nothing-wrapped i e s h = ap (λ (l : List (List ℕ)). wrap_all e l s) (drop_of_length-le s.forced h)

module _ {t : List ℕ} {i : ℕ} where
  pub wrap-more : {t1 t' : List ℕ} {k : Effect} (a : ℕ) → Holds (λ s. s.forced) (λ a. a) i t (λ _. two a) → Effects Anywhere (wraps a) t t1 (Ok tt) →
      Effects Anywhere (wraps_from (i + 1)) t1 t' k → Effects Anywhere (wraps_from i) t t' k
  wrap-more a h f r =
      record {
        fine = λ p {x = x} s w c.
            let b = h.is s w in
            let d = f.fine refl s w tt in
            let z = r.fine p d.state d.shows tt in
            record { state = z.state; is = wrap-next x.setting i s b.0 (two a) b.1 b.2 d.state d.is ∙ z.is; shows = z.shows };
        turned = λ v g {x = x} s w c.
            let b = h.is s w in
            let d = f.fine refl s w tt in
            wrap-next x.setting i s b.0 (two a) b.1 b.2 d.state d.is ∙ r.turned v g d.state d.shows tt;
      }

  pub wrap-turned : {t1 : List ℕ} {v : Refusal} (a : ℕ) → Holds (λ s. s.forced) (λ a. a) i t (λ _. two a) → Effects Anywhere (wraps a) t t1 (Err v) →
      Effects Anywhere (wraps_from i) t t1 (Err v)
  wrap-turned {v = v} a h f =
      record {
        fine = λ g s w c. fine-turned (sym g);
        turned = λ u g {x = x} s w c.
            let b = h.is s w in
            turned-as (wrap-step x.setting i s b.0 (two a) b.1 b.2 (refused (refusal_of v.why) v.place) (f.turned v refl s w tt)) g;
      }

  pub wrap-over : {n : ℕ} → Tells (λ s. length s.forced) t n → n ≤ i → Effects Anywhere (wraps_from i) t t (Ok tt)
  wrap-over h le =
      record {
        fine = λ p {x = x} s w c. record { state = s; is = nothing-wrapped i x.setting s (let z = h.is s w in omega arith); shows = w };
        turned = λ v f s w c. fine-turned f;
      }

-- ---- 'All of pass two: 0'

onto-placeless : {A B : Type 0} (m : Outcome A) (f : A → Outcome B) → placeless m ≡ m → ((a : A) → placeless (f a) ≡ f a) → placeless (onto m f) ≡ onto m f
onto-placeless (done a) f h g = g a
onto-placeless (refused n p) f h g = ap (refused n) (refused-place h)

-- a module is asked for at place 0
module-placeless : (e : Setting) (a : List ℕ) (s : State) → placeless (module_for e a 0 s) ≡ module_for e a 0 s
unfolding module_for
module-placeless e a s = go (file_of a e.table)
  where
    ask : (r : Option (ℕ × Modules)) → placeless (requested r 0 s) ≡ requested r 0 s
    ask None = refl
    ask (Some r) = refl

    go : (o : Option ℕ) → placeless (module_of o 0 s) ≡ module_of o 0 s
    go None = refl
    go (Some f) = ask (request f s.modules)

mark-placeless : (o : Option ℕ) (s : State) → placeless (wrap_module o s) ≡ wrap_module o s
unfolding wrap_module
mark-placeless None s = refl
mark-placeless (Some n) s = refl

pub wrap-placeless : (e : Setting) (l : List (List ℕ)) (s : State) → placeless (wrap_all e l s) ≡ wrap_all e l s
unfolding wrap_all
wrap-placeless e [] s = refl
wrap-placeless e (a ∷ l) s =
    ap placeless (first-wrapped e a l s)
    ∙ onto-placeless (wrap_one e a s) (λ q. wrap_all e l q.1)
    (onto-placeless (module_for e a 0 s) (λ r. wrap_module r.0 r.1) (module-placeless e a s) (λ r. mark-placeless r.0 r.1)) (λ q. wrap-placeless e l q.1)
    ∙ sym (first-wrapped e a l s)

-- ---- The loop

pub wrapping-start : {t : List ℕ} → Wrapping t 0 t
wrapping-start = record { rest = λ t' k w. w }

pub wrapping-next : {t₀ t t1 : List ℕ} {i : ℕ} {k : Effect} (a : ℕ) → Wrapping t₀ i t → Holds (λ s. s.forced) (λ a. a) i t (λ _. two a) →
    Effects Anywhere (wraps a) t t1 k → k ≡ Ok tt → Wrapping t₀ (i + 1) t1
wrapping-next {t = t} {t1} a w h f q =
    record { rest = λ t' k r. w.rest t' k (wrap-more a h (subst (Effects Anywhere (wraps a) t t1) q f) r) }

pub wrapping-turned : {t₀ t t1 : List ℕ} {i : ℕ} {k : Effect} {v : Refusal} (a : ℕ) → Wrapping t₀ i t → Holds (λ s. s.forced) (λ a. a) i t (λ _. two a) →
    Effects Anywhere (wraps a) t t1 k → k ≡ Err v → Effects Anywhere (wraps_from 0) t₀ t1 (Err v)
wrapping-turned {t = t} {t1} {v = v} a w h f q = w.rest t1 (Err v) (wrap-turned a h (subst (Effects Anywhere (wraps a) t t1) q f))

pub wrapping-over : {t₀ t : List ℕ} {i n : ℕ} → Wrapping t₀ i t → Tells (λ s. length s.forced) t n → n ≤ i → Effects Anywhere (wraps_from 0) t₀ t (Ok tt)
wrapping-over {t = t} w h le = w.rest t (Ok tt) (wrap-over h le)

-- at most 256 sources are forced
pub forces-most : {t : List ℕ} → Good t → held forces t ≤ 256
forces-most {t} g = let a = (g.lies forces).held in let b = rows-length (table_of forces) t in omega arith
