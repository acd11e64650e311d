-- A walked pattern binds the ids that it bound.
use Rattle.std.specs.Prelude.{Option, None, Some}
use Prim.Native.Nat.{ℕ, ◌+◌}
use mathlib.Core.Path.{◌≡◌, refl, sym, ap, ap₂, subst, ◌∙◌}
use mathlib.Core.Logic.{◌⊎◌}
use mathlib.Core.Bool.{Bool, true, false, cond, ◌||◌}
use mathlib.Core.List.{List, [], ◌∷◌, ◌++◌}
use native.Mathlib.Omega.{arith}
use lib.Dec.{eqb}
use lib.ListN.{get_or}
use borrow.Author.Tests.{eqb-true, eqb-false}
use Rattle.tree.specs.Tree.{Field, field, Fields, none, more, tag_of, fixed_of, size}
use Rattle.inputs.specs.Outcome.{Outcome, done, onto}
use Rattle.inputs.specs.Fields.{has, inside}
use Rattle.metadata.specs.Metadata.{append}
use Rattle.extraction_rules.specs.State.{Usage, State, Pass, first, second, Setting, refuse}
use Rattle.extraction_rules.specs.First.{imported_as, on_ident, required, with_callee, export_specifier, declarator, Binding, bound, left, below, binding_of, bindings, bindings_all, bindings_first}
use Rattle.extraction_rules.specs.Second.{usages_of, as_property, rewritten}
use Rattle.extraction_rules.specs.Walk.{Rule, import, export as exporting, declare, express, nothing as plain, after_expression, rule_for, after}
use Rattle.extraction_rules.specs.Walk.{Parts, unwalked, member, super, assignment, children, parts_for, enter, walk, walk_all, walk_member}
use Rattle.extraction_rules.specs.Walk.{walk_assignment, walk_target}
use Rattle.extraction_rules.proofs.OutcomeLaws.{After, after-bind, after-if, after-weaken, after-both}
use Rattle.extraction_rules.proofs.ValueLaws.{required-call, first-expression, declarator-value}
use Rattle.extraction_rules.proofs.TagLaws.{rule-import, rule-export}
use Rattle.extraction_rules.proofs.WalkLaws.{walk_parts}
use Rattle.extraction_rules.proofs.AlikeLaws.{Two, RegularAt, Regular, RegularAll}
use Rattle.extraction_rules.proofs.StayLaws.{no-member}
use Rattle.extraction_rules.proofs.RecordedLaws.{bindings_by}
use Rattle.expressions.specs.After.{ident_of}
use Rattle.expressions.proofs.IdentLaws.{Became, walk-ident, Membered, parts-63}

-- ---- Fields and rows that bind the same

abbrev Binds : Fields → Fields → Type 0
Binds cs ds = (bindings_all ds ≡ bindings_all cs) × (bindings_first ds ≡ bindings_first cs)

binds-more : (f g : Field) (fs gs : Fields) → bindings g ≡ bindings f → Binds fs gs → Binds (more f fs) (more g gs)
unfolding bindings
binds-more f g fs gs h k = (ap₂ append h k.0, h)

bindings-by : (t : ℕ) (x : List ℕ) (cs : Fields) → bindings (field t x cs) ≡ bindings_by (binding_of t) x cs
unfolding bindings
bindings-by t x cs = refl

binds-field : (t : ℕ) (x : List ℕ) (cs ds : Fields) → Binds cs ds → bindings (field t x ds) ≡ bindings (field t x cs)
binds-field t x cs ds h = bindings-by t x ds ∙ go (binding_of t) ∙ sym (bindings-by t x cs)
  where
    go : (b : Binding) → bindings_by b x ds ≡ bindings_by b x cs
    go bound = refl
    go left = h.1
    go below = h.0

-- a field that is no 50, 54 or 55 binds what its parts bind
below-binds : (t : ℕ) (x : List ℕ) (cs : Fields) → binding_of t ≡ below → bindings (field t x cs) ≡ bindings_all cs
below-binds t x cs q = bindings-by t x cs ∙ ap (λ (b : Binding). bindings_by b x cs) q

ident-below : binding_of 0x60 ≡ below
unfolding binding_of
ident-below = refl

-- another callee
callee-binds : (e : Setting) (n : ℕ) (t : ℕ) (x : List ℕ) (ds : Fields) (l : List ℕ) → required e (field t x ds) ≡ Some l →
    bindings (with_callee n (field t x ds)) ≡ bindings (field t x ds)
unfolding with_callee
callee-binds e n t x none l q = refl
callee-binds e n t x (more (field u y cs) gs) l q =
    let w = (required-call e t x (field u y cs) gs l q).1 in
    binds-field t x (more (field u y cs) gs) (more (field u _ cs) gs)
    (binds-more (field u y cs) (field u _ cs) gs gs (below-binds u _ cs (callee-below w) ∙ sym (below-binds u y cs (callee-below w)))
    (refl, refl))
  where
    callee-below : u ≡ 0x60 → binding_of u ≡ below
    callee-below w = ap binding_of w ∙ ident-below

bare : bindings_all none ≡ none
unfolding bindings
bare = refl

export-below : binding_of 0x23 ≡ below
unfolding binding_of
export-below = refl

name-below : binding_of 0x70 ≡ below
unfolding binding_of
name-below = refl

member-below : binding_of 0x63 ≡ below
unfolding binding_of
member-below = refl

member-way : parts_for 0x63 ≡ member
unfolding parts_for
member-way = refl

-- ---- The rules

module _ (e : Setting) where
  -- a 63 that becomes a 60 binds nothing
  abbrev Unbound : ℕ → List ℕ → Fields → Type 0
  Unbound t x ds = (o q : Field) → on_ident (field t x ds) ≡ Some (o, q) → has 0x70 q ≡ true → bindings (field t x ds) ≡ none

  property-binds : (us : List Usage) (c : Option (List ℕ)) (q f : Field) → (has 0x70 q ≡ true → bindings f ≡ none) → bindings (as_property us c q f) ≡ bindings f
  unfolding as_property
  property-binds [] c q f h = refl
  property-binds (u ∷ us) None q f h = refl
  property-binds (u ∷ us) (Some c) q f h = go (has 0x70 q) h
    where
      go : (b : Bool) → (b ≡ true → bindings f ≡ none) → bindings (cond b (field 0x60 (fixed_of q ++ c) none) f) ≡ bindings f
      go true h = below-binds 0x60 (fixed_of q ++ c) none ident-below ∙ bare ∙ sym (h refl)
      go false h = refl

  expression-binds : (k : Pass) (t : ℕ) (x : List ℕ) (ds : Fields) (object : Bool) (p : ℕ) (s : State) → (k ≡ second → Unbound t x ds) →
      After (after_expression k e (field t x ds) object p s) (λ g s'. bindings g ≡ bindings (field t x ds))
  unfolding after_expression rewritten
  expression-binds first t x ds object p s h =
      first-expression e (λ g. bindings g ≡ bindings (field t x ds)) first refl (field t x ds) object p s (refl, λ n l w. callee-binds e n t x ds l w)
  expression-binds second t x ds object p s h = go (on_ident (field t x ds)) refl
    where
      go : (o : Option (Field × Field)) → on_ident (field t x ds) ≡ o → bindings (rewritten o (field t x ds) s) ≡ bindings (field t x ds)
      go None q = refl
      go (Some m) q = property-binds (usages_of (fixed_of m.0) s.usages) (imported_as (fixed_of m.0) s.imported) m.1 (field t x ds) (h refl m.0 m.1 q)

  declarator-binds : (ds : Fields) (p : ℕ) (s : State) → After (declarator e ds p s) (λ gs s'. Binds ds gs)
  declarator-binds ds p s =
      declarator-value e (Binds ds) ds p s (refl, refl)
      (λ q i rest n l w r. subst (λ (l : Fields). Binds l (more q (more (with_callee n i) rest))) (sym w) (changed q i rest n l r))
    where
      changed : (q i : Field) (rest : Fields) (n : ℕ) (l : List ℕ) → required e i ≡ Some l → Binds (more q (more i rest)) (more q (more (with_callee n i) rest))
      changed q (field t x cs) rest n l r = binds-more q q (more (field t x cs) rest) (more (with_callee n (field t x cs)) rest) refl
          (binds-more (field t x cs) (with_callee n (field t x cs)) rest rest (callee-binds e n t x cs l r) (refl, refl))

  after-binds : (r : Rule) (t : ℕ) (x : List ℕ) (cs ds : Fields) (object : Bool) (p : ℕ) (s : State) → rule_for t ≡ r → RegularAt t x cs →
      Binds cs ds → (e.pass ≡ second → Unbound t x ds) →
      After (after r e t x ds object p s) (λ g s'. bindings g ≡ bindings (field t x cs))
  unfolding after export_specifier
  after-binds import t x cs ds object p s q w h u = absurd (w.no_import (rule-import t q))
  after-binds exporting t x cs ds object p s q w h u =
      after-if (eqb (get_or x 0 0) 2 || eqb (get_or x 7 0) 2) (refuse 6 p) _ s (λ g s'. bindings g ≡ bindings (field t x cs)) (λ _. tt)
      (λ _. below-binds 0x23 _ none export-below ∙ bare
      ∙ sym (below-binds t x cs (ap binding_of (rule-export t q) ∙ export-below) ∙ ap bindings_all (w.export_bare (rule-export t q)) ∙ bare))
  after-binds declare t x cs ds object p s q w h u =
      after-bind (declarator e ds p s) _ (λ gs s'. Binds ds gs) _ (declarator-binds ds p s) λ gs s' k. binds-field t x cs gs (k.0 ∙ h.0, k.1 ∙ h.1)
  after-binds express t x cs ds object p s q w h u =
      after-weaken (after_expression e.pass e (field t x ds) object p s) _ _ (λ g s' k. k ∙ binds-field t x cs ds h) (expression-binds e.pass t x ds object p s u)
  after-binds plain t x cs ds object p s q w h u = binds-field t x cs ds h

  -- ---- The walk

  parts-bind : (v : Parts) (cs : Fields) (object : Bool) (p : ℕ) (s : State) → ((b : Bool) (p : ℕ) (s : State) → After (walk_all cs e b p s) (λ ds s'. Binds cs ds)) →
      ((p : ℕ) (s : State) → After (walk_member cs e p s) (λ ds s'. Binds cs ds)) → ((p : ℕ) (s : State) → After (walk_assignment cs e object p s) (λ ds s'. Binds cs ds)) →
      After (walk_parts v cs e object p s) (λ ds s'. Binds cs ds)
  parts-bind unwalked cs object p s all mem asg = (refl, refl)
  parts-bind member cs object p s all mem asg = mem p s
  parts-bind super cs object p s all mem asg = all false p s
  parts-bind assignment cs object p s all mem asg = asg p s
  parts-bind children cs object p s all mem asg = all object p s

  both-bind : (f : Field) (fs : Fields) (m : Outcome (Field × State)) (k : State → Outcome (Fields × State)) → After m (λ g s. bindings g ≡ bindings f) →
      ((s : State) → After (k s) (λ gs s. Binds fs gs)) →
      After (onto m (λ r. onto (k r.1) (λ q. done (more r.0 q.0, q.1)))) (λ gs s. Binds (more f fs) gs)
  both-bind f fs m k h w =
      after-bind m _ (λ g s. bindings g ≡ bindings f) _ h λ g s a.
      after-bind (k s) _ (λ gs s. Binds fs gs) _ (w s) λ gs s b. binds-more f g fs gs a b

  -- a 63 on a 60, with a 70: nothing in it binds
  pair-binds : (x : List ℕ) (o q : Field) → bindings o ≡ none → bindings q ≡ none → bindings (field 0x63 x (more o (more q none))) ≡ none
  unfolding bindings append
  pair-binds x o q h k = below-binds 0x63 x (more o (more q none)) member-below ∙ rw (h, k) refl

  name-binds : (q : Field) → Regular q → tag_of q ≡ 0x70 → bindings q ≡ none
  name-binds (field t x cs) w k = below-binds t x cs (ap binding_of k ∙ name-below) ∙ ap bindings_all (w.0.name_bare k) ∙ bare

  unbound : (x : List ℕ) (o q : Field) (o' q' : Field) (s s1 s2 : State) → e.pass ≡ second → Regular q → Became e o s o' s1 → Membered e q s1 q' s2 →
      Unbound 0x63 x (more o' (more q' none))
  unfolding on_ident ident_of
  unbound x o q (field t y cs) q' s s1 s2 two w b v oo qq i h = go (eqb t 0x60) refl i
    where
      go : (c : Bool) → eqb t 0x60 ≡ c → cond {A = Option (Field × Field)} c (Some (field t y cs, q')) None ≡ Some (oo, qq) →
          bindings (field 0x63 x (more (field t y cs) (more q' none))) ≡ none
      go true k i =
          let pair : ◌≡◌ {A = Field × Field} (field t y cs, q') (oo, qq) = cc in
          let z : q' ≡ qq = ap (λ (m : Field × Field). m.1) pair in
          let tag : tag_of q ≡ 0x70 = sym v.0 ∙ ap tag_of z ∙ eqb-true (tag_of qq) 0x70 h in
          let ident = (b.1 two y (ap (λ (c : Bool). cond c (Some y) None) k)).0 in
          pair-binds x (field t y cs) q' (ap bindings ident ∙ below-binds 0x60 y none ident-below ∙ bare) (ap bindings (v.1 tag).0 ∙ name-binds q w tag)
      go false k i = absurd (let z : ◌≡◌ {A = ℕ} 0 1 = cc in omega arith)

  unbound-first : (t : ℕ) (x : List ℕ) (ds : Fields) → (t ≡ 0x63 → ⊥) → Unbound t x ds
  unbound-first t x ds h o q i k = absurd (let n = no-member t x ds h in let z : ◌≡◌ {A = ℕ} 0 1 = cc in omega arith)

  -- what is known of the parts of a field behind them: those of a 63 that becomes a 60 bind nothing
  abbrev Bound : ℕ → List ℕ → Fields → Fields → Type 0
  Bound t x cs ds = Binds cs ds × (e.pass ≡ second → Unbound t x ds)

  member-bound : (x : List ℕ) (cs : Fields) (p : ℕ) (s : State) → Two cs → RegularAll cs → After (walk_member cs e p s) (λ ds s'. Binds cs ds) →
      After (walk_member cs e p s) (λ ds s'. Bound 0x63 x cs ds)
  member-bound x cs p s m w h = go m.0 m.1 m.2 m.3
    where
      go : (o q : Field) → cs ≡ more o (more q none) → ((tag_of q ≡ 0x70) ⊎ ((tag_of q ≡ 0x71) ⊎ (tag_of q ≡ 0x72))) → After (walk_member cs e p s) (λ ds s'. Bound 0x63 x cs ds)
      go o q z t =
          let r : RegularAll (more o (more q none)) = subst RegularAll z w in
          after-weaken (walk_member cs e p s) _ (λ ds s'. Bound 0x63 x cs ds)
          (λ ds s2 k. (k.0, λ two. subst (Unbound 0x63 x) (sym k.1.3) (unbound x o q k.1.0 k.1.1 s k.1.2 s2 two r.1.0 k.1.4 k.1.5)))
          (after-both (walk_member cs e p s) (λ ds s'. Binds cs ds)
          (λ ds s2. (o' q' : Field) × (s1 : State) × (ds ≡ more o' (more q' none)) × Became e o s o' s1 × Membered e q s1 q' s2) h
          (subst (λ (l : Fields). After (walk_member l e p s) (λ ds s2. (o' q' : Field) × (s1 : State) × (ds ≡ more o' (more q' none)) × Became e o s o' s1 × Membered e q s1 q' s2)) (sym z)
          (parts-63 e o q p s t r.1.0 (walk-ident e o true p s r.0))))

  parts-bound : (t : ℕ) (x : List ℕ) (cs : Fields) (object : Bool) (p : ℕ) (s : State) → Regular (field t x cs) →
      ((b : Bool) (p : ℕ) (s : State) → After (walk_all cs e b p s) (λ ds s'. Binds cs ds)) → ((p : ℕ) (s : State) → After (walk_member cs e p s) (λ ds s'. Binds cs ds)) →
      ((p : ℕ) (s : State) → After (walk_assignment cs e object p s) (λ ds s'. Binds cs ds)) →
      After (walk_parts (parts_for t) cs e object p s) (λ ds s'. Bound t x cs ds)
  parts-bound t x cs object p s w all mem asg = go (eqb t 0x63) refl
    where
      go : (b : Bool) → eqb t 0x63 ≡ b → After (walk_parts (parts_for t) cs e object p s) (λ ds s'. Bound t x cs ds)
      go true k =
          subst (λ (u : ℕ). After (walk_parts (parts_for u) cs e object p s) (λ ds s'. Bound u x cs ds)) (sym (eqb-true t 0x63 k))
          (subst (λ (v : Parts). After (walk_parts v cs e object p s) (λ ds s'. Bound 0x63 x cs ds)) (sym member-way)
          (member-bound x cs p s (w.0.member_two (eqb-true t 0x63 k)) w.1 (mem p s)))
      go false k =
          after-weaken (walk_parts (parts_for t) cs e object p s) (λ ds s'. Binds cs ds) _ (λ ds s' h. (h, λ _. unbound-first t x ds (eqb-false t 0x63 k)))
          (parts-bind (parts_for t) cs object p s all mem asg)

  mutual
    unfolding walk

    pub walk-binds : (f : Field) (object : Bool) (p : ℕ) (s : State) → Regular f → After (walk f e object p s) (λ g s'. bindings g ≡ bindings f)
    walk-binds (field t x cs) object p s w =
        after-bind (walk_parts (parts_for t) cs e object (inside p x) (enter t s)) _ (λ ds s'. Bound t x cs ds) _
        (parts-bound t x cs object (inside p x) (enter t s) w (λ b p s. walk_all-binds cs b p s w.1) (λ p s. walk_member-binds cs p s w.1) (λ p s. walk_assignment-binds cs object p s w.1))
        λ ds s' h. after-binds (rule_for t) t x cs ds object p s' refl w.0 h.0 h.1

    walk_all-binds : (fs : Fields) (object : Bool) (p : ℕ) (s : State) → RegularAll fs → After (walk_all fs e object p s) (λ gs s'. Binds fs gs)
    walk_all-binds none object p s w = (refl, refl)
    walk_all-binds (more f fs) object p s w =
        both-bind f fs (walk f e object p s) (walk_all fs e object (p + size f)) (walk-binds f object p s w.0)
        (λ s. walk_all-binds fs object (p + size f) s w.1)

    walk_member-binds : (fs : Fields) (p : ℕ) (s : State) → RegularAll fs → After (walk_member fs e p s) (λ gs s'. Binds fs gs)
    walk_member-binds none p s w = (refl, refl)
    walk_member-binds (more f fs) p s w = both-bind f fs (walk f e true p s) (walk_all fs e false (p + size f)) (walk-binds f true p s w.0) (λ s. walk_all-binds fs false (p + size f) s w.1)

    walk_assignment-binds : (fs : Fields) (object : Bool) (p : ℕ) (s : State) → RegularAll fs → After (walk_assignment fs e object p s) (λ gs s'. Binds fs gs)
    walk_assignment-binds none object p s w = (refl, refl)
    walk_assignment-binds (more f fs) object p s w =
        both-bind f fs (walk_target f e p s) (walk_all fs e object (p + size f)) (walk_target-binds f p s w.0)
        (λ s. walk_all-binds fs object (p + size f) s w.1)

    walk_target-binds : (f : Field) (p : ℕ) (s : State) → Regular f → After (walk_target f e p s) (λ g s'. bindings g ≡ bindings f)
    walk_target-binds (field t x cs) p s w =
        after-bind (walk_member cs e (inside p x) s) _ (λ ds s'. Binds cs ds) _ (walk_member-binds cs (inside p x) s w.1) λ ds s' h. binds-field t x cs ds h
