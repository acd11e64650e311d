-- What the rules make of a field, whatever the state: a call, as it was or with another callee; a declarator with such an initialiser.
use Rattle.std.specs.Prelude.{Option, None, Some}
use Prim.Native.Nat.{ℕ}
use mathlib.Core.Path.{◌≡◌, refl}
use mathlib.Core.Bool.{Bool, true, false, not, cond, ◌&&◌}
use mathlib.Core.List.{List}
use native.Mathlib.Omega.{arith}
use lib.Dec.{eqb}
use borrow.Author.Tests.{eqb-true}
use Rattle.tree.proofs.Table.{both-true}
use Rattle.scope.specs.Id.{require_atom}
use Rattle.tree.specs.Layout.{same, two, name_of, value_of}
use Rattle.tree.specs.Tree.{Field, field, Fields, none, more, tag_of, fixed_of, parts_of}
use Rattle.inputs.specs.Outcome.{Outcome, done, refused}
use Rattle.inputs.specs.Fields.{has, sole}
use Rattle.extraction_rules.specs.State.{Record, State, Pass, first, second, Setting}
use Rattle.extraction_rules.specs.First.{module_for, on_ident, usage, argument, not_external, required, with_callee, mark_cjs, mark_required}
use Rattle.extraction_rules.specs.First.{collect, add_lazy, require, bindings, require_lazily, declarator, import_first}
use Rattle.extraction_rules.specs.Second.{import_second}
use Rattle.extraction_rules.specs.Walk.{after_expression, after_import, rule_for, after, parts_for, walk}
use Rattle.extraction_rules.proofs.OutcomeLaws.{After, after-bind, after-if}

pub after-any : {A : Type 0} (m : Outcome (A × State)) → After m (λ a s. Unit {0})
after-any (done r) = tt
after-any (refused n p) = tt

-- a 10 is walked by its own rule alone
pub walk-first : (e : Setting) → e.pass ≡ first → (f : Field) (p : ℕ) (s : State) → tag_of f ≡ 0x10 → walk f e false p s ≡ import_first e (fixed_of f) (parts_of f) p s
unfolding walk parts_for rule_for after after_import
walk-first e q (field t x cs) p s h = rw (h, q)

pub walk-second : (e : Setting) → e.pass ≡ second → (f : Field) (p : ℕ) (s : State) → tag_of f ≡ 0x10 → walk f e false p s ≡ import_second e (fixed_of f) (parts_of f) s
unfolding walk parts_for rule_for after after_import
walk-second e q (field t x cs) p s h = rw (h, q)

-- the require conditions: a 65 with a callee 60
pub required-call : (e : Setting) (t : ℕ) (x : List ℕ) (c : Field) (gs : Fields) (l : List ℕ) →
    required e (field t x (more c gs)) ≡ Some l → (t ≡ 0x65) × (tag_of c ≡ 0x60)
unfolding required
required-call e t x c gs l q = go (e.config.require && eqb t 0x65 && has 0x60 c && same (name_of (fixed_of c)) (two require_atom)) refl q
  where
    go : (b : Bool) → e.config.require && eqb t 0x65 && has 0x60 c && same (name_of (fixed_of c)) (two require_atom) ≡ b →
        cond b (not_external e (argument (sole gs))) None ≡ Some l → (t ≡ 0x65) × (tag_of c ≡ 0x60)
    go true w q =
        let a = both-true (e.config.require && eqb t 0x65 && has 0x60 c) (same (name_of (fixed_of c)) (two require_atom)) w in
        let b = both-true (e.config.require && eqb t 0x65) (has 0x60 c) a.0 in
        let d = both-true e.config.require (eqb t 0x65) b.0 in
        (eqb-true t 0x65 d.1, eqb-true (tag_of c) 0x60 b.1)
    go false w q = absurd (let z : ◌≡◌ {A = ℕ} 0 1 = cc in omega arith)

module _ (e : Setting) (Q : Field → Type 0) where
  -- Q holds of the field, and of it with another callee where it meets the require conditions
  abbrev pub Called : Field → Type 0
  Called f = Q f × ((n : ℕ) (l : List ℕ) → required e f ≡ Some l → Q (with_callee n f))

  mark_cjs-value : (o : Option ℕ) (f : Field) (s : State) → Q f → ((n : ℕ) → Q (with_callee n f)) → After (mark_cjs o f s) (λ g s. Q g)
  unfolding mark_cjs
  mark_cjs-value None f s h k = h
  mark_cjs-value (Some n) f s h k = k n

  mark_required-value : (l : List ℕ) (f : Field) (p : ℕ) (s : State) → required e f ≡ Some l → Called f → After (mark_required e l f p s) (λ g s. Q g)
  unfolding mark_required
  mark_required-value l f p s w h =
      after-bind (module_for e (value_of l) p s) _ (λ n s. Unit {0}) (λ g s. Q g) (after-any (module_for e (value_of l) p s)) λ n s _.
      mark_cjs-value n f s h.0 (λ m. h.1 m l w)

  require-by : (o : Option (List ℕ)) (f : Field) (p : ℕ) (s : State) → required e f ≡ o → Called f → After (require o e f p s) (λ g s. Q g)
  unfolding require
  require-by None f p s w h = h.0
  require-by (Some l) f p s w h =
      let r : Record = record { literal = l; specifiers = none } in
      after-bind (mark_required e l f p s) _ (λ g s. Q g) (λ g s. Q g) (mark_required-value l f p s w h) λ g s k.
      after-bind (cond s.top (collect r p) (add_lazy r p) s) _ (λ _ s. Unit {0}) (λ g s. Q g)
      (after-any (cond s.top (collect r p) (add_lazy r p) s)) λ _ s _. k

  expression-value : (f : Field) (object : Bool) (p : ℕ) (s : State) → Called f → After (after_expression first e f object p s) (λ g s. Q g)
  unfolding after_expression
  expression-value f object p s h =
      after-if (has 0x60 f && not object) _ _ s (λ g s. Q g) (λ _. h.0)
      (λ _. after-bind (usage (on_ident f) e p s) _ (λ _ s. Unit {0}) (λ g s. Q g) (after-any (usage (on_ident f) e p s)) λ _ s _. require-by
      (required e f) f p s refl h)

  require_lazily-value : (o : Option (List ℕ)) (q i : Field) (p : ℕ) (s : State) → required e i ≡ o → Called i →
      After (require_lazily o e q i p s) (λ g s. Q g)
  unfolding require_lazily
  require_lazily-value None q i p s w h = h.0
  require_lazily-value (Some l) q i p s w h =
      after-bind (mark_required e l i p s) _ (λ g s. Q g) (λ g s. Q g) (mark_required-value l i p s w h) λ g s k.
      after-bind (add_lazy (record { literal = l; specifiers = bindings q }) p s) _ (λ _ s. Unit {0}) (λ g s. Q g)
      (after-any (add_lazy (record { literal = l; specifiers = bindings q }) p s)) λ _ s _. k

-- an expression, in the first pass
pub first-expression : (e : Setting) (Q : Field → Type 0) (k : Pass) → k ≡ first → (f : Field) (object : Bool) (p : ℕ) (s : State) →
    Called e Q f → After (after_expression k e f object p s) (λ g s. Q g)
first-expression e Q first q f object p s h = expression-value e Q f object p s h
first-expression e Q second q f object p s h = absurd (let z : ◌≡◌ {A = ℕ} 0 1 = cc in omega arith)

-- a declarator keeps its pattern and what stands behind the initialiser
pub declarator-value : (e : Setting) (R : Fields → Type 0) (cs : Fields) (p : ℕ) (s : State) → R cs →
    ((q i : Field) (rest : Fields) (n : ℕ) (l : List ℕ) → cs ≡ more q (more i rest) → required e i ≡ Some l → R
    (more q (more (with_callee n i) rest))) → After (declarator e cs p s) (λ ds s. R ds)
unfolding declarator
declarator-value e R none p s h k = h
declarator-value e R (more q none) p s h k = h
declarator-value e R (more q (more i rest)) p s h k =
    after-bind (require_lazily (required e i) e q i p s) _ (λ g s. R (more q (more g rest))) (λ ds s. R ds)
    (require_lazily-value e (λ g. R (more q (more g rest))) (required e i) q i p s refl (h, λ n l w. k q i rest n l refl w)) λ g s w. w
