-- A call that stands written is amended as the rules for calls of require do it: the module is marked, the callee set, the record made.
use Rattle.std.specs.Prelude.{Option, None, Some, Result, Ok, Err}
use Prim.Native.Nat.{ℕ}
use mathlib.Core.Path.{◌≡◌, refl, sym, ap, subst, ◌∙◌}
use mathlib.Core.Bool.{Bool, true, false, cond}
use mathlib.Core.List.{List, [], ◌++◌, append-nil}
use Rattle.scope.specs.declared.id.ModuleId.{ModuleId}
use Rattle.scope.specs.declared.TooManyFiles.{TooManyFiles}
use Rattle.writer.specs.Wrote.{Wrote}
use Rattle.writer.proofs.Wrote.{wrote-then, wrote-as}
use Rattle.tree.specs.Tree.{Field, Fields, none, encode}
use Rattle.inputs.specs.Outcome.{Outcome, done, onto}
use Rattle.extraction_rules.specs.State.{Record, State, Act, set_collected}
use Rattle.extraction_rules.specs.First.{bindings, with_callee, mark_required, collect, add_lazy, require, require_lazily}
use Rattle.state.specs.Cells.{Env, literal_by, Valued, Shows}
use Rattle.state.specs.Does.{place_in, Anyhow, Tells, Says, Acts, Collects}
use Rattle.state.specs.declared.Literal.{Literal}
use Rattle.state.proofs.NamespaceLaws.{extend-none}
use Rattle.state.specs.declared.TableFull.{TableFull}
use Rattle.expressions.specs.Require.{called, Requires, CalleeSet}
use Rattle.steps.specs.Refusal.{Refusal}
use Rattle.steps.specs.declared.Why.TheVariants.{TooManyFiles as too-many, TableFull as no-room}
use Rattle.steps.specs.Refusal.{refusal}
use Rattle.steps.specs.Step.{Step, Effect, Steps}
use Rattle.steps.proofs.StepsLaws.{done-refused, fine-turned, turned-as, steps-by, then_of, steps-did, steps-refused, refused-as}
use Rattle.walking.specs.Walking.{recorded, Marks, Amends}

-- ---- Records

-- a lazy record, by what stands at its place
module _ (l : Literal) (at place : ℕ) (out : List ℕ) {t t' : List ℕ} {r : Result Unit TableFull}
    (m : Acts Anyhow (λ x. add_lazy (record { literal = literal_by x l; specifiers = x.bound place })) t t' r) where
  pub lazy-made : {p : ℕ} → r ≡ Ok tt →
      Steps (λ _. []) (λ x u. Unit {0}) (λ x. add_lazy (record { literal = literal_by x l; specifiers = x.bound place }) at) t out p t' out (Ok p)
  lazy-made e = steps-did (λ x s w c. m.made e s at w tt)

  pub lazy-full : {p : ℕ} {e : TableFull} → r ≡ Err e →
      Steps (λ _. []) (λ x u. Unit {0}) (λ x. add_lazy (record { literal = literal_by x l; specifiers = x.bound place }) at) t out p t' out (Err (refusal no-room at))
  lazy-full {e = e} h = steps-refused refl (λ x s w c. m.full e h s at w tt)

-- what binds nothing, and is a literal by its value
abbrev pub Bare : Literal → Env → Type 0
Bare l x = (x.bound 0 ≡ none) × Valued x l

-- 'collected if *top*, else lazy'; the code asks whether *top* is clear
module _ (l : Literal) (at : ℕ) (out : List ℕ) {t : List ℕ} {b : Bool} (d : Tells (λ s. s.top) t b) where
  recorded-as : {x : Env} (i : List ℕ) (c : Bool) → b ≡ c → (s : State) → Shows x t s →
      recorded i at s ≡ cond c (collect (record { literal = i; specifiers = none }) at) (add_lazy (record { literal = i; specifiers = none }) at) s
  recorded-as i c e s w =
      ap (λ (z : Bool). cond z (collect (record { literal = i; specifiers = none }) at) (add_lazy (record { literal = i; specifiers = none }) at) s)
      (sym (d.is s w) ∙ e)

  pub record-lazy : {t' : List ℕ} {p : ℕ} {k : Step} → b ≡ false →
      Steps (λ _. []) (λ x u. Unit {0}) (λ x. add_lazy (record { literal = literal_by x l; specifiers = x.bound 0 }) at) t out p t' out k →
      Steps (λ _. []) (λ x u. Bare l x) (λ x. recorded (literal_by x l) at) t out p t' out k
  record-lazy e m =
      steps-by (λ x. recorded (literal_by x l) at) m (λ x s w c. (
        tt,
        recorded-as (literal_by x l) false e s w ∙ ap (λ (fs : Fields). add_lazy (record { literal = literal_by x l; specifiers = fs }) at s) (sym c.0),
      ))

  pub record-collected : {t' : List ℕ} {p i : ℕ} {r : Result ℕ TableFull} → b ≡ true → Collects l t t' r → r ≡ Ok i →
      Steps (λ _. []) (λ x u. Bare l x) (λ x. recorded (literal_by x l) at) t out p t' out (Ok p)
  record-collected {i = i} e m h =
      steps-did (λ x s w c.
      let g = m.made i h s w c.1 in
      record {
        state = set_collected g.list s;
        is = recorded-as (literal_by x l) true e s w ∙ g.is none at ∙ ap (λ (k : List Record). done (tt, set_collected k s)) (extend-none i g.list);
        shows = g.shows;
      })

  pub record-full : {t' : List ℕ} {p : ℕ} {r : Result ℕ TableFull} {y : TableFull} → b ≡ true → Collects l t t' r → r ≡ Err y →
      Steps (λ _. []) (λ x u. Bare l x) (λ x. recorded (literal_by x l) at) t out p t' out (Err (refusal no-room at))
  record-full {y = y} e m h = steps-refused refl (λ x s w c. recorded-as (literal_by x l) true e s w ∙ m.full y h s w c.1 none at)

-- ---- A module is marked, and the callee set

module _ (l : Literal) (at : ℕ) {t t1 : List ℕ} {r : Result (Option ModuleId) TooManyFiles} (m : Requires l t t1 r) where
  pub marks-found : {n : ModuleId} {out out1 : List ℕ} {o : ℕ} → r ≡ Ok (Some n) → CalleeSet n.0 o out out1 → Marks l at o t out t1 out1 (Ok tt)
  marks-found {n} {out} {out1} {o} c y =
      record {
        size = y.size;
        marked = λ _. record {
          found = Some n;
          gave = λ {x} f s w h. m.marked (Some n) c f at s w h;
          writes = λ {i} {p} f bs b wrote.
              let h = b.3 in
              subst (λ (g : Field). Wrote i o (encode (with_callee n.0 g) ++ bs) out1 p) (sym h)
              (y.writes i p b.0 bs b.1 b.2 b.4 (subst (λ (g : Field). Wrote i o (encode g ++ bs) out p) h wrote));
        };
        turned = λ e k f s w h. fine-turned k;
      }

  pub marks-none : {out : List ℕ} {o : ℕ} → r ≡ Ok None → Marks l at o t out t1 out (Ok tt)
  marks-none c =
      record {
        size = refl;
        marked = λ _. record { found = None; gave = λ {x} f s w h. m.marked None c f at s w h; writes = λ {i} {p} f bs b wrote. wrote };
        turned = λ e k f s w h. fine-turned k;
      }

  pub marks-full : {e : TooManyFiles} {out : List ℕ} {o : ℕ} → r ≡ Err e → Marks l at o t out t1 out (Err (refusal too-many at))
  marks-full {e} c =
      record { size = refl; marked = λ k. fine-turned (sym k); turned = λ y k f s w h. turned-as (m.full e c f at s w h) k }

-- ---- And then a rule that writes nothing follows

module _ (l : Literal) (at : ℕ) (rule : Env → Field → Act Field) (act : Env → Act (Unit {0}))
    (is : (x : Env) (f : Field) (s : State) → rule x f s ≡ then_of (λ y. mark_required y.setting (literal_by y l) f at) act x s) where
  -- the call f, which becomes g, and then the rule
  then-as : (x : Env) (f g : Field) (s u : State) → mark_required x.setting (literal_by x l) f at s ≡ done (g, u) →
      rule x f s ≡ onto (act x u) (λ b. done (g, b.1))
  then-as x f g s u h = is x f s ∙ ap (λ (z : Outcome (Field × State)). onto z (λ a. onto (act x a.1) (λ b. done (a.0, b.1)))) h

  module _ {P : Env → Type 0} {Q : Env → State → Type 0} {t t1 out out1 : List ℕ} {o : ℕ} (to : (x : Env) (s v : State) → Shows x t s → P x → Q x v)
      (valued : (x : Env) → P x → Valued x l) {j : Effect} (m : Marks l at o t out t1 out1 j) where
    amends-then : {t2 : List ℕ} {p : ℕ} {k : Step} → j ≡ Ok tt → Steps (λ _. []) Q act t1 out1 p t2 out1 k → Amends P rule o p t out t2 out1 k
    amends-then e n =
        let z = m.marked e in
        record {
          size = m.size;
          made = λ q c {x = x} s w h i f bs b wrote.
              let a = z.gave f s w (valued x h) in
              let d = n.made q c a.state a.shows (to x s a.state w h) in
              record {
                value = called z.found f;
                state = d.state;
                is = then-as x f (called z.found f) s a.state a.is ∙ ap (λ (y : Outcome (Unit {0} × State)). onto y (λ b. done (called z.found f, b.1))) d.is;
                wrote = wrote-as (wrote-then (z.writes f bs b wrote) d.wrote) (append-nil (encode (called z.found f) ++ bs));
                shows = d.shows;
              };
          turned = λ y c {x = x} s w h f.
              let a = z.gave f s w (valued x h) in
              then-as x f (called z.found f) s a.state a.is
              ∙ ap (λ (y : Outcome (Unit {0} × State)). onto y (λ b. done (called z.found f, b.1))) (n.turned y c a.state a.shows (to x s a.state w h));
        }

    amends-turned : {p : ℕ} {e : Refusal} → j ≡ Err e → Amends P rule o p t out t1 out1 (Err e)
    amends-turned {e = e} c =
        record {
          size = m.size;
          made = λ q k s w h i f bs b wrote. done-refused k refl;
          turned = λ y k {x = x} s w h f.
              refused-as
              (is x f s ∙ ap (λ (z : Outcome (Field × State)). onto z (λ a. onto (act x a.1) (λ b. done (a.0, b.1)))) (m.turned e c f s w (valued x h))) k;
        }

-- ---- 'Record without specifiers'

module _ (l : Literal) (at : ℕ) where
  abbrev require_rule : Env → Field → Act Field
  require_rule x f = require (Some (literal_by x l)) x.setting f at

  require-then : (x : Env) (f : Field) (s : State) → require_rule x f s ≡ then_of (λ y. mark_required y.setting (literal_by y l) f at) (λ y. recorded (literal_by y l) at) x s
  unfolding require
  require-then x f s = refl

  module _ {t t1 out out1 : List ℕ} {o p : ℕ} {j : Effect} (m : Marks l at o t out t1 out1 j) where
    pub require-marked : {t2 : List ℕ} {k : Step} → j ≡ Ok tt → Steps (λ _. []) (λ x u. Bare l x) (λ x. recorded (literal_by x l) at) t1 out1 p t2 out1 k →
        Amends (Bare l) require_rule o p t out t2 out1 k
    require-marked = amends-then l at require_rule (λ x. recorded (literal_by x l) at) require-then (λ x s v w c. c) (λ x c. c.1) m

    pub require-turned : {e : Refusal} → j ≡ Err e → Amends (Bare l) require_rule o p t out t1 out1 (Err e)
    require-turned = amends-turned l at require_rule (λ x. recorded (literal_by x l) at) require-then {Q = λ x u. Bare l x} (λ x s v w c. c) (λ x c. c.1) m

-- ---- 'marks cjs, sets the callee, adds a lazy record'

-- what the pattern q at a place binds, and is a literal by its value
abbrev pub Bound : Literal → ℕ → Field → Env → Type 0
Bound l pattern q x = (bindings q ≡ x.bound (place_in x.setting.pass pattern)) × Valued x l

module _ (l : Literal) (at pattern : ℕ) (q : Field) where
  abbrev lazily_rule : Env → Field → Act Field
  lazily_rule x f = require_lazily (Some (literal_by x l)) x.setting q f at

  abbrev lazy_rule : Env → Act (Unit {0})
  lazy_rule x = add_lazy (record { literal = literal_by x l; specifiers = bindings q }) at

  lazily-then : (x : Env) (f : Field) (s : State) → lazily_rule x f s ≡ then_of (λ y. mark_required y.setting (literal_by y l) f at) lazy_rule x s
  unfolding require_lazily
  lazily-then x f s = refl

  lazily-at : {t : List ℕ} {place : ℕ} → Says (λ e. place_in e.pass pattern) t place → (x : Env) (s v : State) → Shows x t s → Bound l pattern q x → bindings q ≡ x.bound place
  lazily-at z x s v w c = c.0 ∙ ap x.bound (sym (z.is s w))

  module _ {t t1 out out1 : List ℕ} {o p : ℕ} {j : Effect} (m : Marks l at o t out t1 out1 j) {place : ℕ} (z : Says (λ e. place_in e.pass pattern) t place) where
    -- the record by what stands at its place is that of the pattern
    pub lazily-marked : {t2 : List ℕ} {k : Step} → j ≡ Ok tt →
        Steps (λ _. []) (λ x u. Unit {0}) (λ x. add_lazy (record { literal = literal_by x l; specifiers = x.bound place }) at) t1 out1 p t2 out1 k →
        Amends (Bound l pattern q) lazily_rule o p t out t2 out1 k
    lazily-marked c n =
        amends-then l at lazily_rule lazy_rule lazily-then (lazily-at z) (λ x c. c.1) m c
        (steps-by lazy_rule n (λ x s w c. (tt, ap (λ (fs : Fields). add_lazy (record { literal = literal_by x l; specifiers = fs }) at s) c)))

    pub lazily-turned : {e : Refusal} → j ≡ Err e → Amends (Bound l pattern q) lazily_rule o p t out t1 out1 (Err e)
    lazily-turned = amends-turned l at lazily_rule lazy_rule lazily-then {Q = λ x u. bindings q ≡ x.bound place} (lazily-at z) (λ x c. c.1) m
