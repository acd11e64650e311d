-- Whether a walked expression meets the require conditions is told before it is walked.
use Rattle.std.specs.Prelude.{Option, None, Some}
use Prim.Native.Nat.{ℕ, ◌+◌}
use mathlib.Core.Path.{◌≡◌, refl, sym, ap, subst, ◌∙◌}
use mathlib.Core.Bool.{Bool, true, false, cond, ◌&&◌}
use mathlib.Core.List.{List, [], ◌∷◌, ◌++◌}
use native.Mathlib.Omega.{arith}
use lib.Dec.{eqb}
use borrow.Author.Tests.{eqb-true, eqb-false, ne_eqb}
use Rattle.scope.specs.Id.{require_atom, export}
use Rattle.tree.specs.Layout.{two, four, same, name_of}
use Rattle.tree.specs.Tree.{Field, field, Fields, none, more, tag_of, fixed_of, size}
use Rattle.tree.specs.Grammar.{within}
use Rattle.inputs.specs.Fields.{has, sole, inside}
use Rattle.extraction_rules.specs.State.{Usage, State, Pass, first, second, Setting}
use Rattle.extraction_rules.specs.First.{imported_as, on_ident, argument, not_external, required, with_callee}
use Rattle.extraction_rules.specs.Second.{usages_of, as_property, rewritten}
use Rattle.extraction_rules.specs.Walk.{after_expression, rule_for, after, parts_for, walk, walk_all}
use Rattle.extraction_rules.proofs.OutcomeLaws.{After, after-bind, after-weaken}
use Rattle.extraction_rules.proofs.ValueLaws.{after-any, first-expression}
use Rattle.extraction_rules.proofs.WalkLaws.{walk_parts}
use Rattle.extraction_rules.proofs.AlikeLaws.{Regular, RegularAll, required-named}
use Rattle.extraction_rules.proofs.StayLaws.{Same, no-member, expression-same, walk-same}
use Rattle.expressions.specs.After.{ident_of, ident_after, if_require, required_after}
use Rattle.expressions.proofs.IdentLaws.{walk-ident}

-- ---- A walked field has another tag only where a 63 became a 60

property-tag : (us : List Usage) (c : Option (List ℕ)) (q f : Field) (u : ℕ) → (u ≡ 0x60 → ⊥) → tag_of (as_property us c q f) ≡ u → tag_of f ≡ u
unfolding as_property
property-tag [] c q f u h w = w
property-tag (v ∷ us) None q f u h w = w
property-tag (v ∷ us) (Some c) q f u h w = go (has 0x70 q) w
  where
    go : (b : Bool) → tag_of (cond b (field 0x60 (fixed_of q ++ c) none) f) ≡ u → tag_of f ≡ u
    go true w = absurd (h (sym w))
    go false w = w

rewritten-tag : (o : Option (Field × Field)) (f : Field) (s : State) (u : ℕ) → (u ≡ 0x60 → ⊥) → tag_of (rewritten o f s) ≡ u → tag_of f ≡ u
unfolding rewritten
rewritten-tag None f s u h w = w
rewritten-tag (Some m) f s u h w = property-tag (usages_of (fixed_of m.0) s.usages) (imported_as (fixed_of m.0) s.imported) m.1 f u h w

expression-tag : (k : Pass) (e : Setting) (t : ℕ) (x : List ℕ) (ds : Fields) (object : Bool) (p : ℕ) (s : State) (u : ℕ) → (u ≡ 0x60 → ⊥) →
    After (after_expression k e (field t x ds) object p s) (λ g s'. tag_of g ≡ u → t ≡ u)
unfolding after_expression
expression-tag first e t x ds object p s u h =
    after-weaken (after_expression first e (field t x ds) object p s) (λ g s'. Same t x g) _ (λ g s' q w. sym q.0 ∙ w)
    (expression-same first e t x ds object p s (λ z. absurd (let v : ◌≡◌ {A = ℕ} 0 1 = cc in omega arith)))
expression-tag second e t x ds object p s u h = rewritten-tag (on_ident (field t x ds)) (field t x ds) s u h

-- a tag u that no 63 becomes
member-other : (e : Setting) (x : List ℕ) (cs : Fields) (object : Bool) (p : ℕ) (s : State) (u : ℕ) → (u ≡ 0x60 → ⊥) → (0x63 ≡ u → ⊥) →
    After (walk (field 0x63 x cs) e object p s) (λ g s'. tag_of g ≡ u → ⊥)
unfolding walk parts_for rule_for within after
member-other e x cs object p s u h k =
    after-bind (walk_parts (parts_for 0x63) cs e object (inside p x) s) _ (λ _ _. Unit {0}) (λ g s'. tag_of g ≡ u → ⊥)
    (after-any (walk_parts (parts_for 0x63) cs e object (inside p x) s)) λ ds s' _.
    after-weaken (after_expression e.pass e (field 0x63 x ds) object p s') (λ g s''. tag_of g ≡ u → 0x63 ≡ u) _ (λ g s'' q z. k (q z))
    (expression-tag e.pass e 0x63 x ds object p s' u h)

walk-other : (e : Setting) (f : Field) (object : Bool) (p : ℕ) (s : State) (u : ℕ) → Regular f → (u ≡ 0x60 → ⊥) → (tag_of f ≡ u → ⊥) →
    After (walk f e object p s) (λ g s'. tag_of g ≡ u → ⊥)
unfolding walk
walk-other e (field t x cs) object p s u w h k = go (eqb t 0x63) refl
  where
    member : (t : ℕ) → t ≡ 0x63 → (t ≡ u → ⊥) → After (walk (field t x cs) e object p s) (λ g s'. tag_of g ≡ u → ⊥)
    member t q k = subst (λ (m : ℕ). After (walk (field m x cs) e object p s) (λ g s'. tag_of g ≡ u → ⊥)) (sym q) (member-other e x cs object p s u h (λ z. k (q ∙ z)))

    go : (b : Bool) → eqb t 0x63 ≡ b → After (walk (field t x cs) e object p s) (λ g s'. tag_of g ≡ u → ⊥)
    go true q = member t (eqb-true t 0x63 q) k
    go false q =
        after-weaken (walk (field t x cs) e object p s) (λ g s'. Same t x g) _ (λ g s' m z. k (sym m.0 ∙ z))
        (walk-same e t x cs object p s w.0.no_import (eqb-false t 0x63 q))

-- ---- The argument

-- whether a field is a 61, and its literal, stay
walk-61 : (e : Setting) (f : Field) (object : Bool) (p : ℕ) (s : State) → Regular f →
    After (walk f e object p s) (λ g s'. cond {A = Option (List ℕ)} (has 0x61 g) (Some (fixed_of g)) None ≡ cond (has 0x61 f) (Some (fixed_of f)) None)
walk-61 e (field t x cs) object p s w = go (eqb t 0x61) refl
  where
    go : (b : Bool) → eqb t 0x61 ≡ b →
        After (walk (field t x cs) e object p s) (λ g s'. cond {A = Option (List ℕ)} (has 0x61 g) (Some (fixed_of g)) None ≡ cond (eqb t 0x61) (Some x) None)
    go true q =
        after-weaken (walk (field t x cs) e object p s) (λ g s'. Same t x g) _
        (λ g s' m. rw (m.0, m.1 (λ z. let v : ◌≡◌ {A = ℕ} 0x61 0x23 = sym (eqb-true t 0x61 q) ∙ z in omega arith)) refl)
        (walk-same e t x cs object p s w.0.no_import (λ z. let v : ◌≡◌ {A = ℕ} 0x61 0x63 = sym (eqb-true t 0x61 q) ∙ z in omega arith))
    go false q =
        after-weaken (walk (field t x cs) e object p s) (λ g s'. tag_of g ≡ 0x61 → ⊥) _
        (λ g s' m. ap (λ (b : Bool). cond b (Some (fixed_of g)) None) (ne_eqb (tag_of g) 0x61 m) ∙ sym (ap (λ (b : Bool). cond b (Some x) None) q))
        (walk-other e (field t x cs) object p s 0x61 w (λ z. omega arith) (eqb-false t 0x61 q))

-- no argument but in a 75
no-argument : (f : Field) → (tag_of f ≡ 0x75 → ⊥) → argument (Some f) ≡ None
unfolding argument
no-argument (field t x none) h = refl
no-argument (field t x (more f fs)) h = ap (λ (b : Bool). cond (b && same x (0 ∷ []) && has 0x61 f) (Some (fixed_of f)) None) (ne_eqb t 0x75 h)

-- the argument in a 75, by its first part
argument-75 : (x : List ℕ) (f : Field) (fs : Fields) (y : Option (List ℕ)) → cond (has 0x61 f) (Some (fixed_of f)) None ≡ y →
    argument (Some (field 0x75 x (more f fs))) ≡ cond (same x (0 ∷ [])) y None
unfolding argument
argument-75 x f fs y q = go (same x (0 ∷ []))
  where
    go : (b : Bool) → cond (b && has 0x61 f) (Some (fixed_of f)) None ≡ cond b y None
    go true = q
    go false = refl

parts-75 : (e : Setting) (x : List ℕ) (cs : Fields) (object : Bool) (p : ℕ) (s : State) → RegularAll cs →
    After (walk_all cs e object p s) (λ ds s'. argument (Some (field 0x75 x ds)) ≡ argument (Some (field 0x75 x cs)))
unfolding walk
parts-75 e x none object p s w = refl
parts-75 e x (more f fs) object p s w =
    after-bind (walk f e object p s) _ _ _ (walk-61 e f object p s w.0) λ g s' q.
    after-bind (walk_all fs e object (p + size f) s') _ (λ _ _. Unit {0}) _ (after-any (walk_all fs e object (p + size f) s')) λ gs s'' _.
    argument-75 x g gs (cond (has 0x61 f) (Some (fixed_of f)) None) q ∙ sym (argument-75 x f fs (cond (has 0x61 f) (Some (fixed_of f)) None) refl)

walk-75 : (e : Setting) (x : List ℕ) (cs : Fields) (object : Bool) (p : ℕ) (s : State) → RegularAll cs →
    After (walk (field 0x75 x cs) e object p s) (λ g s'. argument (Some g) ≡ argument (Some (field 0x75 x cs)))
unfolding walk parts_for rule_for within after
walk-75 e x cs object p s w =
    after-bind (walk_all cs e object (inside p x) s) _ _ (λ g s'. argument (Some g) ≡ argument (Some (field 0x75 x cs))) (parts-75 e x cs object (inside p x) s w) λ ds s' q. q

argument-walk : (e : Setting) (f : Field) (object : Bool) (p : ℕ) (s : State) → Regular f → After (walk f e object p s) (λ g s'. argument (Some g) ≡ argument (Some f))
argument-walk e (field t x cs) object p s w = go (eqb t 0x75) refl
  where
    go : (b : Bool) → eqb t 0x75 ≡ b → After (walk (field t x cs) e object p s) (λ g s'. argument (Some g) ≡ argument (Some (field t x cs)))
    go true q =
        subst (λ (u : ℕ). After (walk (field u x cs) e object p s) (λ g s'. argument (Some g) ≡ argument (Some (field u x cs)))) (sym (eqb-true t 0x75 q))
        (walk-75 e x cs object p s w.1)
    go false q =
        after-weaken (walk (field t x cs) e object p s) (λ g s'. tag_of g ≡ 0x75 → ⊥) _
        (λ g s' m. no-argument g m ∙ sym (no-argument (field t x cs) (eqb-false t 0x75 q)))
        (walk-other e (field t x cs) object p s 0x75 w (λ z. omega arith) (eqb-false t 0x75 q))

-- 'just one argument'
arguments-walk : (e : Setting) (gs : Fields) (object : Bool) (p : ℕ) (s : State) → RegularAll gs →
    After (walk_all gs e object p s) (λ hs s'. argument (sole hs) ≡ argument (sole gs))
unfolding walk sole
arguments-walk e none object p s w = refl
arguments-walk e (more f none) object p s w = after-bind (walk f e object p s) _ _ _ (argument-walk e f object p s w.0) λ g s' q. q
arguments-walk e (more f (more g gs)) object p s w =
    after-bind (walk f e object p s) _ (λ _ _. Unit {0}) _ (after-any (walk f e object p s)) λ f' s' _.
    after-bind (walk_all (more g gs) e object (p + size f) s') _ (λ hs s''. (h : Field) × (ks : Fields) × (hs ≡ more h ks)) _
    (after-bind (walk g e object (p + size f) s') _ (λ _ _. Unit {0}) _ (after-any (walk g e object (p + size f) s')) λ g' s'' _.
    after-bind (walk_all gs e object (p + size f + size g) s'') _ (λ _ _. Unit {0}) _ (after-any (walk_all gs e object (p + size f + size g) s'')) λ ks s''' _. (g', ks, refl))
    λ hs s'' m. ap (λ (l : Fields). argument (sole (more f' l))) m.2

-- ---- The require conditions

pub no-required : (e : Setting) (f : Field) → (tag_of f ≡ 0x65 → ⊥) → required e f ≡ None
unfolding required
no-required e (field t x none) h = refl
no-required e (field t x (more c gs)) h = go e.config.require (eqb t 0x65) (ne_eqb t 0x65 h)
  where
    go : (a b : Bool) → b ≡ false → cond (a && b && has 0x60 c && same (name_of (fixed_of c)) (two require_atom)) (not_external e (argument (sole gs))) None ≡ None
    go true true q = absurd (let z : ◌≡◌ {A = ℕ} 0 1 = cc in omega arith)
    go true false q = refl
    go false b q = refl

pub none-after : (e : Setting) (f : Field) (s : State) → (tag_of f ≡ 0x65 → ⊥) → required_after e f s ≡ None
unfolding required_after
none-after e (field t x none) s h = refl
none-after e (field t x (more c gs)) s h = go e.config.require (eqb t 0x65) (ne_eqb t 0x65 h)
  where
    go : (a b : Bool) → b ≡ false → cond (a && b) (if_require (ident_after c e.pass s) (not_external e (argument (sole gs)))) None ≡ None
    go true true q = absurd (let z : ◌≡◌ {A = ℕ} 0 1 = cc in omega arith)
    go true false q = refl
    go false b q = refl

-- from the walked callee and arguments
required-by : (e : Setting) (x : List ℕ) (c c' : Field) (gs gs' : Fields) (s : State) → ident_after c e.pass s ≡ ident_of c' → argument (sole gs') ≡ argument (sole gs) →
    required e (field 0x65 x (more c' gs')) ≡ required_after e (field 0x65 x (more c gs)) s
unfolding required required_after ident_of
required-by e x c (field t y ds) gs gs' s h k = rw (k, h) (go e.config.require (eqb t 0x60))
  where
    go : (a b : Bool) →
        cond (a && true && b && same (name_of y) (two require_atom)) (not_external e (argument (sole gs))) None ≡
        cond (a && true) (if_require (cond b (Some y) None) (not_external e (argument (sole gs)))) None
    go true true = refl
    go true false = refl
    go false b = refl

-- another callee of the same name
callee-required : (e : Setting) (n : ℕ) (t : ℕ) (x : List ℕ) (ds : Fields) (l : List ℕ) → required e (field t x ds) ≡ Some l →
    required e (with_callee n (field t x ds)) ≡ required e (field t x ds)
unfolding required with_callee
callee-required e n t x none l q = refl
callee-required e n t x (more c gs) l q =
    let m = required-named e t x c gs l q in
    ap (λ (y : List ℕ). cond (e.config.require && eqb t 0x65 && has 0x60 c && same (name_of (y ++ four (export n))) (two require_atom)) (not_external e (argument (sole gs))) None) m
    ∙ sym (ap (λ (y : List ℕ). cond (e.config.require && eqb t 0x65 && has 0x60 c && same y (two require_atom)) (not_external e (argument (sole gs))) None) m)

expression-required : (k : Pass) (e : Setting) (x : List ℕ) (ds : Fields) (object : Bool) (p : ℕ) (s : State) →
    After (after_expression k e (field 0x65 x ds) object p s) (λ g s'. required e g ≡ required e (field 0x65 x ds))
unfolding after_expression rewritten
expression-required first e x ds object p s =
    first-expression e (λ g. required e g ≡ required e (field 0x65 x ds)) first refl (field 0x65 x ds) object p s (refl, λ n l w. callee-required e n 0x65 x ds l w)
expression-required second e x ds object p s =
    ap (λ (o : Option (Field × Field)). required e (rewritten o (field 0x65 x ds) s)) (no-member 0x65 x ds (λ z. omega arith))

-- the parts of a call
pub parts-required : (e : Setting) (x : List ℕ) (cs : Fields) (object : Bool) (p : ℕ) (s : State) → RegularAll cs →
    After (walk_all cs e object p s) (λ ds s'. required e (field 0x65 x ds) ≡ required_after e (field 0x65 x cs) s)
unfolding walk required required_after
parts-required e x none object p s w = refl
parts-required e x (more c gs) object p s w =
    after-bind (walk c e object p s) _ _ _ (walk-ident e c object p s w.0) λ c' s' b.
    after-bind (walk_all gs e object (p + size c) s') _ _ _ (arguments-walk e gs object (p + size c) s' w.1) λ gs' s'' a. required-by e x c c' gs gs' s b.0 a

call-required : (e : Setting) (x : List ℕ) (cs : Fields) (object : Bool) (p : ℕ) (s : State) → RegularAll cs →
    After (walk (field 0x65 x cs) e object p s) (λ g s'. required e g ≡ required_after e (field 0x65 x cs) s)
unfolding walk parts_for rule_for within after
call-required e x cs object p s w =
    after-bind (walk_all cs e object (inside p x) s) _ _ (λ g s'. required e g ≡ required_after e (field 0x65 x cs) s) (parts-required e x cs object (inside p x) s w) λ ds s' q.
    after-weaken (after_expression e.pass e (field 0x65 x ds) object p s') _ (λ g s''. required e g ≡ required_after e (field 0x65 x cs) s) (λ g s'' h. h ∙ q)
    (expression-required e.pass e x ds object p s')

pub walk-required : (e : Setting) (f : Field) (object : Bool) (p : ℕ) (s : State) → Regular f → After (walk f e object p s) (λ g s'. required e g ≡ required_after e f s)
walk-required e (field t x cs) object p s w = go (eqb t 0x65) refl
  where
    go : (b : Bool) → eqb t 0x65 ≡ b → After (walk (field t x cs) e object p s) (λ g s'. required e g ≡ required_after e (field t x cs) s)
    go true q =
        subst (λ (u : ℕ). After (walk (field u x cs) e object p s) (λ g s'. required e g ≡ required_after e (field u x cs) s)) (sym (eqb-true t 0x65 q))
        (call-required e x cs object p s w.1)
    go false q =
        after-weaken (walk (field t x cs) e object p s) (λ g s'. tag_of g ≡ 0x65 → ⊥) _
        (λ g s' m. no-required e g m ∙ sym (none-after e (field t x cs) s (eqb-false t 0x65 q)))
        (walk-other e (field t x cs) object p s 0x65 w (λ z. omega arith) (eqb-false t 0x65 q))
