-- What every elementary step keeps, the walk keeps: both passes, and the second pass with its end.
use Prim.Native.Nat.{ℕ, ◌+◌}
use mathlib.Core.Path.{◌≡◌, refl, sym, ap, subst, ◌∙◌}
use mathlib.Core.Bool.{Bool, true, false, cond}
use mathlib.Core.List.{List}
use lib.Dec.{eqb}
use borrow.Author.Tests.{eqb-true, ne_eqb}
use Rattle.tree.specs.Tree.{Field, field, Fields, none, more, size}
use Rattle.tree.specs.Grammar.{expression_tag}
use Rattle.inputs.specs.Fields.{inside}
use Rattle.extraction_rules.specs.State.{State, first, second, Setting, Act, give, set_top}
use Rattle.extraction_rules.specs.Second.{finish}
use Rattle.extraction_rules.specs.Walk.{Rule, import, export, declare, express, nothing, rule_for, Parts, unwalked, member, super, assignment}
use Rattle.extraction_rules.specs.Walk.{children, parts_for, enter, walk, walk_all, walk_member, walk_assignment, walk_target, walk_module}
use Rattle.extraction_rules.specs.Walk.{walk_again}
use Rattle.extraction_rules.proofs.StepLaws.{CommonSteps, FirstSteps, SecondSteps, EndSteps, Keeps, after-keeps, finish-keeps, then-keeps, enter-keeps}

-- ---- Tags

-- the tag of a rule that has one
abbrev pub RuleTag : Rule → ℕ → Type 0
RuleTag import t = t ≡ 0x10
RuleTag export t = t ≡ 0x23
RuleTag declare t = t ≡ 0x42
RuleTag express t = Unit {0}
RuleTag nothing t = Unit {0}

tag-by : (t : ℕ) (a b c d : Bool) → eqb t 0x10 ≡ a → eqb t 0x23 ≡ b → eqb t 0x42 ≡ c →
    RuleTag (cond a import (cond b export (cond c declare (cond d express nothing)))) t
tag-by t true b c d x y z = eqb-true t 0x10 x
tag-by t false true c d x y z = eqb-true t 0x23 y
tag-by t false false true d x y z = eqb-true t 0x42 z
tag-by t false false false true x y z = tt
tag-by t false false false false x y z = tt

pub rule-tag : (t : ℕ) (r : Rule) → rule_for t ≡ r → RuleTag r t
unfolding rule_for
rule-tag t r q = subst (λ (k : Rule). RuleTag k t) q (tag-by t (eqb t 0x10) (eqb t 0x23) (eqb t 0x42) (expression_tag t) refl refl refl)

-- the field of another rule is no 10
pub rule-not-import : (t : ℕ) (r : Rule) → rule_for t ≡ r → (r ≡ import → ⊥) → t ≡ 0x10 → ⊥
unfolding rule_for
rule-not-import t r w h q = h (sym w ∙ ap rule_for q)

abbrev pub PartsTag : Parts → ℕ → Type 0
PartsTag unwalked t = Unit {0}
PartsTag member t = Unit {0}
PartsTag super t = Unit {0}
PartsTag assignment t = t ≡ 0x66
PartsTag children t = Unit {0}

walked-by : (t : ℕ) (a b c d f : Bool) → eqb t 0x66 ≡ f →
    PartsTag (cond a unwalked (cond b unwalked (cond c member (cond d super (cond f assignment children))))) t
walked-by t true b c d f x = tt
walked-by t false true c d f x = tt
walked-by t false false true d f x = tt
walked-by t false false false true f x = tt
walked-by t false false false false true x = eqb-true t 0x66 x
walked-by t false false false false false x = tt

pub parts-tag : (t : ℕ) (v : Parts) → parts_for t ≡ v → PartsTag v t
unfolding parts_for
parts-tag t v q = subst (λ (k : Parts). PartsTag k t) q (walked-by t (eqb t 0x10) (eqb t 0x23) (eqb t 0x63) (eqb t 0x64) (eqb t 0x66) refl)

-- a field whose parts are walked otherwise is no 66
pub parts-other : (t : ℕ) (v : Parts) → parts_for t ≡ v → (v ≡ assignment → ⊥) → eqb t 0x66 ≡ false
unfolding parts_for
parts-other t v w h = ne_eqb t 0x66 (λ q. h (sym w ∙ ap parts_for q))

pub parts-children : (t : ℕ) → (t ≡ 0x10 → ⊥) → (t ≡ 0x23 → ⊥) → (t ≡ 0x63 → ⊥) → (t ≡ 0x64 → ⊥) → (t ≡ 0x66 → ⊥) → parts_for t ≡ children
unfolding parts_for
parts-children t a b c d e = rw (ne_eqb t 0x10 a, ne_eqb t 0x23 b, ne_eqb t 0x63 c, ne_eqb t 0x64 d, ne_eqb t 0x66 e) refl

-- ---- The imports that the walk comes to

abbrev mutual
  -- P holds of the literal of each
  pub Imports : Field → (List ℕ → Type 0) → Type 0
  Imports (field t x cs) P =
      (t ≡ 0x10 → P x)
      × elim (parts_for t) as (λ _. Type 0) [
        | unwalked ↦ Unit {0}
        | member ↦ ImportsAll cs P
        | super ↦ ImportsAll cs P
        | assignment ↦ ImportsAssignment cs P
        | children ↦ ImportsAll cs P
      ]

  pub ImportsAll : Fields → (List ℕ → Type 0) → Type 0
  ImportsAll none P = Unit {0}
  ImportsAll (more f fs) P = Imports f P × ImportsAll fs P

  pub ImportsAssignment : Fields → (List ℕ → Type 0) → Type 0
  ImportsAssignment none P = Unit {0}
  ImportsAssignment (more f fs) P = ImportsTarget f P × ImportsAll fs P

  pub ImportsTarget : Field → (List ℕ → Type 0) → Type 0
  ImportsTarget (field t x cs) P = ImportsAll cs P

-- of the parts of a field
abbrev pub ImportsParts : Parts → Fields → (List ℕ → Type 0) → Type 0
ImportsParts v cs P =
    elim v as (λ _. Type 0) [
      | unwalked ↦ Unit {0}
      | member ↦ ImportsAll cs P
      | super ↦ ImportsAll cs P
      | assignment ↦ ImportsAssignment cs P
      | children ↦ ImportsAll cs P
    ]

-- what is known of the parts in each way to walk them
pub parts-weaken : (v : Parts) (cs : Fields) (P Q : List ℕ → Type 0) → (ImportsAll cs P → ImportsAll cs Q) →
    (ImportsAssignment cs P → ImportsAssignment cs Q) → ImportsParts v cs P → ImportsParts v cs Q
parts-weaken unwalked cs P Q all asg h = tt
parts-weaken member cs P Q all asg h = all h
parts-weaken super cs P Q all asg h = all h
parts-weaken assignment cs P Q all asg h = asg h
parts-weaken children cs P Q all asg h = all h

-- from those in all parts and behind a target
pub imports-parts : (v : Parts) (cs : Fields) (P : List ℕ → Type 0) → ImportsAll cs P → ImportsAssignment cs P → ImportsParts v cs P
imports-parts unwalked cs P all asg = tt
imports-parts member cs P all asg = all
imports-parts super cs P all asg = all
imports-parts assignment cs P all asg = asg
imports-parts children cs P all asg = all

mutual
  pub imports-any : (f : Field) (P : List ℕ → Type 0) → ((x : List ℕ) → P x) → Imports f P
  imports-any (field t x cs) P h = (λ _. h x, imports-parts (parts_for t) cs P (imports-any-all cs P h) (imports-any-assignment cs P h))

  pub imports-any-all : (fs : Fields) (P : List ℕ → Type 0) → ((x : List ℕ) → P x) → ImportsAll fs P
  imports-any-all none P h = tt
  imports-any-all (more f fs) P h = (imports-any f P h, imports-any-all fs P h)

  imports-any-assignment : (fs : Fields) (P : List ℕ → Type 0) → ((x : List ℕ) → P x) → ImportsAssignment fs P
  imports-any-assignment none P h = tt
  imports-any-assignment (more f fs) P h = (imports-any-target f P h, imports-any-all fs P h)

  imports-any-target : (f : Field) (P : List ℕ → Type 0) → ((x : List ℕ) → P x) → ImportsTarget f P
  imports-any-target (field t x cs) P h = imports-any-all cs P h

-- ---- The walk

-- how the parts of a field are walked
abbrev pub walk_parts : Parts → Fields → Setting → Bool → ℕ → Act Fields
walk_parts v cs e object p =
    elim v as (λ _. Act Fields) [
      | unwalked ↦ give cs
      | member ↦ walk_member cs e p
      | super ↦ walk_all cs e false p
      | assignment ↦ walk_assignment cs e object p
      | children ↦ walk_all cs e object p
    ]

-- all that the walk does in a pass
pub record Steps (e : Setting) (P : List ℕ → Type 0) (J : State → Type 0) : Type 0 where
  pub common : CommonSteps e J
  pub one : e.pass ≡ first → FirstSteps e J
  pub two : e.pass ≡ second → SecondSteps e P J

-- two predicates at once
pub both-steps : (e : Setting) (P : List ℕ → Type 0) (J K : State → Type 0) → Steps e P J → Steps e P K → Steps e P (λ s. J s × K s)
both-steps e P J K a b =
    let c = a.common in
    let d = b.common in
    record {
      common =
          record {
            requires =
                record {
                  on_request = λ s f n ms q h. (c.requires.on_request s f n ms q h.0, d.requires.on_request s f n ms q h.1);
                  on_cjs = λ s n h. (c.requires.on_cjs s n h.0, d.requires.on_cjs s n h.1);
                  on_lazy = λ s r w h. (c.requires.on_lazy s r w h.0, d.requires.on_lazy s r w h.1);
                };
            on_force = λ s i h. (c.on_force s i h.0, d.on_force s i h.1);
            on_top = λ s t h. (c.on_top s t h.0, d.on_top s t h.1);
          };
      one =
          λ k.
          let f = a.one k in
          let g = b.one k in
          record {
            on_note = λ s m h. (f.on_note s m h.0, g.on_note s m h.1);
            on_usage = λ s u i w h. (f.on_usage s u i w h.0, g.on_usage s u i w h.1);
            on_collect = λ s r w h. (f.on_collect s r w h.0, g.on_collect s r w h.1);
          };
      two =
          λ k.
          let f = a.two k in
          let g = b.two k in
          record {
            on_extend = λ s x us p h. (f.on_extend s x us p h.0, g.on_extend s x us p h.1);
            on_source = λ s x w p h. (f.on_source s x w p h.0, g.on_source s x w p h.1);
          };
    }

pub both-end : (J K : State → Type 0) → EndSteps J → EndSteps K → EndSteps (λ s. J s × K s)
both-end J K a b = record { on_wrap = λ s n h. (a.on_wrap s n h.0, b.on_wrap s n h.1); on_lose = λ s h. (a.on_lose s h.0, b.on_lose s h.1) }

module _ (e : Setting) (P : List ℕ → Type 0) (J : State → Type 0) (steps : Steps e P J) where
  -- a walk of parts
  abbrev WalkKeeps : (ℕ → Act Fields) → Type 0
  WalkKeeps m = (p : ℕ) (s : State) → J s → Keeps J (m p s)

  parts-keep : (v : Parts) (cs : Fields) (object : Bool) (p : ℕ) (s : State) → ImportsParts v cs P →
      (ImportsAll cs P → (b : Bool) → WalkKeeps (walk_all cs e b)) → (ImportsAll cs P → WalkKeeps (walk_member cs e)) →
      (ImportsAssignment cs P → WalkKeeps (walk_assignment cs e object)) → J s →
      Keeps J (walk_parts v cs e object p s)
  parts-keep unwalked cs object p s i all mem asg h = h
  parts-keep member cs object p s i all mem asg h = mem i p s h
  parts-keep super cs object p s i all mem asg h = all i false p s h
  parts-keep assignment cs object p s i all mem asg h = asg i p s h
  parts-keep children cs object p s i all mem asg h = all i object p s h

  mutual
    unfolding walk

    pub walk-keeps : (f : Field) (object : Bool) (p : ℕ) (s : State) → Imports f P → J s → Keeps J (walk f e object p s)
    walk-keeps (field t x cs) object p s i h =
        then-keeps J (walk_parts (parts_for t) cs e object (inside p x) (enter t s)) _
        (parts-keep (parts_for t) cs object (inside p x) (enter t s) i.1
        (λ i b p s h. walk_all-keeps cs b p s i h) (λ i p s h. walk_member-keeps cs p s i h)
        (λ i p s h. walk_assignment-keeps cs object p s i h) (enter-keeps J steps.common.on_top t s h)) λ ds s h.
        after-keeps e J steps.common P steps.one steps.two (rule_for t) t x ds object p s (λ q. i.0 (rule-tag t import q)) h

    pub walk_all-keeps : (fs : Fields) (object : Bool) (p : ℕ) (s : State) → ImportsAll fs P → J s → Keeps J (walk_all fs e object p s)
    walk_all-keeps none object p s i h = h
    walk_all-keeps (more f fs) object p s i h =
        then-keeps J (walk f e object p s) _ (walk-keeps f object p s i.0 h) λ g s h.
        then-keeps J (walk_all fs e object (p + size f) s) _ (walk_all-keeps fs object (p + size f) s i.1 h) λ gs s h. h

    walk_member-keeps : (fs : Fields) (p : ℕ) (s : State) → ImportsAll fs P → J s → Keeps J (walk_member fs e p s)
    walk_member-keeps none p s i h = h
    walk_member-keeps (more f fs) p s i h =
        then-keeps J (walk f e true p s) _ (walk-keeps f true p s i.0 h) λ g s h.
        then-keeps J (walk_all fs e false (p + size f) s) _ (walk_all-keeps fs false (p + size f) s i.1 h) λ gs s h. h

    walk_assignment-keeps : (fs : Fields) (object : Bool) (p : ℕ) (s : State) → ImportsAssignment fs P → J s → Keeps J (walk_assignment fs e object p s)
    walk_assignment-keeps none object p s i h = h
    walk_assignment-keeps (more f fs) object p s i h =
        then-keeps J (walk_target f e p s) _ (walk_target-keeps f p s i.0 h) λ g s h.
        then-keeps J (walk_all fs e object (p + size f) s) _ (walk_all-keeps fs object (p + size f) s i.1 h) λ gs s h. h

    walk_target-keeps : (f : Field) (p : ℕ) (s : State) → ImportsTarget f P → J s → Keeps J (walk_target f e p s)
    walk_target-keeps (field t x cs) p s i h =
        then-keeps J (walk_member cs e (inside p x) s) _ (walk_member-keeps cs (inside p x) s i h) λ ds s h. h

  pub walk_module-keeps : (items : Fields) (s : State) → ImportsAll items P → J s → Keeps J (walk_module e items s)
  unfolding walk_module
  walk_module-keeps items s i h = then-keeps J (walk_all items e false 3 (set_top true s)) _
      (walk_all-keeps items false 3 (set_top true s) i (steps.common.on_top s true h)) λ gs s h. h

  pub walk_again-keeps : EndSteps J → (items : Fields) (s : State) → ImportsAll items P → J s → Keeps J (walk_again e items s)
  unfolding walk_again
  walk_again-keeps end items s i h =
      then-keeps J (walk_module e items s) _ (walk_module-keeps items s i h) λ gs s h. then-keeps J (finish e s) _
      (finish-keeps e J steps.common.requires end s h) λ _ s h. h
