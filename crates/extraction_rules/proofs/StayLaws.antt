-- The walk keeps a field's tag, but for a 63, and its fixed bytes, but for a 23. So an item that stays in its module stays there.
use Rattle.std.specs.Prelude.{Option, None, Some}
use Prim.Native.Nat.{ℕ, ◌+◌}
use mathlib.Core.Path.{◌≡◌, refl, sym, ap, subst, ◌∙◌}
use mathlib.Core.Bool.{Bool, true, false, not, cond, ◌&&◌, ◌||◌, true≢false}
use mathlib.Core.List.{List}
use native.Mathlib.Omega.{arith}
use lib.Dec.{eqb}
use lib.ListN.{get_or}
use borrow.Author.Tests.{eqb-true, eqb-false, ne_eqb}
use Rattle.tree.specs.declared.grammar.Set.TheVariants.{Item}
use Rattle.tree.specs.Tree.{Field, field, Fields, none, more, tag_of, fixed_of, parts_of, size}
use Rattle.tree.specs.Grammar.{within, holds_at}
use Rattle.inputs.specs.Outcome.{Outcome}
use Rattle.inputs.specs.Fields.{has, inside}
use Rattle.extraction_rules.specs.State.{State, Pass, first, second, Setting, refuse}
use Rattle.extraction_rules.specs.First.{on_ident, with_callee, export_specifier, declarator, stays}
use Rattle.extraction_rules.specs.Second.{rewritten}
use Rattle.extraction_rules.specs.Walk.{Rule, import, export as exporting, declare, express, nothing as plain, after_expression, rule_for, after, parts_for, enter, walk, walk_all}
use Rattle.extraction_rules.proofs.OutcomeLaws.{After, after-bind, after-if, after-both, after-weaken}
use Rattle.extraction_rules.proofs.ValueLaws.{after-any, first-expression}
use Rattle.extraction_rules.proofs.TagLaws.{rule-import, rule-export}
use Rattle.extraction_rules.proofs.WalkLaws.{walk_parts}

-- ---- The tag and the fixed bytes

-- g has the tag t and the fixed bytes x
abbrev pub Same : ℕ → List ℕ → Field → Type 0
Same t x g = (tag_of g ≡ t) × ((t ≡ 0x23 → ⊥) → fixed_of g ≡ x)

callee-same : (n : ℕ) (t : ℕ) (x : List ℕ) (ds : Fields) → Same t x (with_callee n (field t x ds))
unfolding with_callee
callee-same n t x none = (refl, λ _. refl)
callee-same n t x (more c gs) = (refl, λ _. refl)

pub no-member : (t : ℕ) (x : List ℕ) (cs : Fields) → (t ≡ 0x63 → ⊥) → on_ident (field t x cs) ≡ None
unfolding on_ident
no-member t x none h = refl
no-member t x (more o none) h = refl
no-member t x (more o (more q qs)) h = ap (λ (b : Bool). cond (b && has 0x60 o) (Some (o, q)) None) (ne_eqb t 0x63 h)

pub expression-same : (k : Pass) (e : Setting) (t : ℕ) (x : List ℕ) (ds : Fields) (object : Bool) (p : ℕ) (s : State) → (k ≡ second → on_ident (field t x ds) ≡ None) →
    After (after_expression k e (field t x ds) object p s) (λ g s'. Same t x g)
unfolding after_expression rewritten
expression-same first e t x ds object p s h =
    first-expression e (Same t x) first refl (field t x ds) object p s ((refl, λ _. refl), λ n l w. callee-same n t x ds)
expression-same second e t x ds object p s h =
    subst (λ (o : Option (Field × Field)). Same t x (rewritten o (field t x ds) s)) (sym (h refl)) (refl, λ _. refl)

after-same : (e : Setting) (r : Rule) (t : ℕ) (x : List ℕ) (ds : Fields) (object : Bool) (p : ℕ) (s : State) → rule_for t ≡ r → (t ≡ 0x10 → ⊥) → (t ≡ 0x63 → ⊥) →
    After (after r e t x ds object p s) (λ g s'. Same t x g)
unfolding after export_specifier
after-same e import t x ds object p s q h k = absurd (h (rule-import t q))
after-same e exporting t x ds object p s q h k =
    after-if (eqb (get_or x 0 0) 2 || eqb (get_or x 7 0) 2) (refuse 6 p) _ s (λ g s'. Same t x g) (λ _. tt) (λ _. (sym (rule-export t q), λ n. absurd (n (rule-export t q))))
after-same e declare t x ds object p s q h k =
    after-bind (declarator e ds p s) _ (λ _ _. Unit {0}) (λ g s'. Same t x g) (after-any (declarator e ds p s)) λ gs s _. (refl, λ _. refl)
after-same e express t x ds object p s q h k = expression-same e.pass e t x ds object p s (λ _. no-member t x ds k)
after-same e plain t x ds object p s q h k = (refl, λ _. refl)

pub walk-same : (e : Setting) (t : ℕ) (x : List ℕ) (cs : Fields) (object : Bool) (p : ℕ) (s : State) → (t ≡ 0x10 → ⊥) → (t ≡ 0x63 → ⊥) →
    After (walk (field t x cs) e object p s) (λ g s'. Same t x g)
unfolding walk
walk-same e t x cs object p s h k =
    after-bind (walk_parts (parts_for t) cs e object (inside p x) (enter t s)) _ (λ _ _. Unit {0}) (λ g s'. Same t x g)
    (after-any (walk_parts (parts_for t) cs e object (inside p x) (enter t s))) λ ds s _. after-same e (rule_for t) t x ds object p s refl h k

-- ---- Which items stay

-- no item is a 63
pub item-no-member : (t : ℕ) → holds_at Item t ≡ true → t ≡ 0x63 → ⊥
unfolding holds_at within
item-no-member t h q = true≢false (sym h ∙ ap (holds_at Item) q)

pub stays-from : (g : Field) → (tag_of g ≡ 0x40 → ⊥) → (tag_of g ≡ 0x41 → (f : Field) × (fs : Fields) × (parts_of g ≡ more f fs)) → stays g ≡ true
unfolding stays
stays-from (field t x none) h k = by (eqb t 0x41) refl
  where
    by : (b : Bool) → eqb t 0x41 ≡ b → not (eqb t 0x40 || eqb t 0x41) ≡ true
    by true q = absurd (let w = k (eqb-true t 0x41 q) in let v = w.2 in let z : ◌≡◌ {A = ℕ} 0 1 = cc in omega arith)
    by false q = ap (λ (a : Bool). not (a || eqb t 0x41)) (ne_eqb t 0x40 h) ∙ ap not q
stays-from (field t x (more f fs)) h k = ap not (ne_eqb t 0x40 h)

pub stays-plain : (g : Field) → (tag_of g ≡ 0x40 → ⊥) → (tag_of g ≡ 0x41 → ⊥) → stays g ≡ true
stays-plain g h k = stays-from g h (λ q. absurd (k q))

-- an import does
pub import-stays : (g : Field) → tag_of g ≡ 0x10 → stays g ≡ true
import-stays g q = stays-plain g (λ z. let v : ◌≡◌ {A = ℕ} 0x10 0x40 = sym q ∙ z in omega arith) (λ z. let v : ◌≡◌ {A = ℕ} 0x10 0x41 = sym q ∙ z in omega arith)

stays-not : (g : Field) → stays g ≡ true → tag_of g ≡ 0x40 → ⊥
unfolding stays
stays-not (field t x none) h q = true≢false (sym h ∙ ap (λ (k : ℕ). stays (field k x none)) q)
stays-not (field t x (more f fs)) h q = true≢false (sym h ∙ ap (λ (k : ℕ). stays (field k x (more f fs))) q)

module _ (e : Setting) where
  keeps-tag : (f : Field) (p : ℕ) (s : State) → (tag_of f ≡ 0x10 → ⊥) → (tag_of f ≡ 0x63 → ⊥) → After (walk f e false p s) (λ g s'. tag_of g ≡ tag_of f)
  keeps-tag (field t x cs) p s h k = after-weaken (walk (field t x cs) e false p s) (λ g s'. Same t x g) (λ g s'. tag_of g ≡ t) (λ g s' r. r.0) (walk-same e t x cs false p s h k)

  -- a 41 keeps its parts
  walk-41 : (x : List ℕ) (f : Field) (fs : Fields) (p : ℕ) (s : State) → After (walk (field 0x41 x (more f fs)) e false p s) (λ g s'. (h : Field) × (hs : Fields) × (parts_of g ≡ more h hs))
  unfolding walk parts_for rule_for within after
  walk-41 x f fs p s =
      after-bind (walk_all (more f fs) e false (inside p x) s) _ (λ ds s'. (h : Field) × (hs : Fields) × (ds ≡ more h hs)) (λ g s'. (h : Field) × (hs : Fields) × (parts_of g ≡ more h hs))
      (after-bind (walk f e false (inside p x) s) _ (λ _ _. Unit {0}) (λ ds s'. (h : Field) × (hs : Fields) × (ds ≡ more h hs)) (after-any (walk f e false (inside p x) s)) λ g s1 _.
      after-bind (walk_all fs e false (inside p x + size f) s1) _ (λ _ _. Unit {0}) (λ ds s'. (h : Field) × (hs : Fields) × (ds ≡ more h hs))
      (after-any (walk_all fs e false (inside p x + size f) s1)) λ gs s2 _. (g, gs, refl))
      λ ds s1 k. k

  -- one that stays, if it is no import, is walked to one that stays
  pub walk-stays : (f : Field) (p : ℕ) (s : State) → (tag_of f ≡ 0x10 → ⊥) → (tag_of f ≡ 0x63 → ⊥) → stays f ≡ true → After (walk f e false p s) (λ g s'. stays g ≡ true)
  unfolding stays
  walk-stays f p s h k w =
      after-weaken (walk f e false p s) (λ g s'. (tag_of g ≡ tag_of f) × (tag_of f ≡ 0x41 → (a : Field) × (bs : Fields) × (parts_of g ≡ more a bs))) (λ g s'. stays g ≡ true)
      (λ g s' r. stays-from g (λ q. stays-not f w (sym r.0 ∙ q)) (λ q. r.1 (sym r.0 ∙ q)))
      (after-both (walk f e false p s) (λ g s'. tag_of g ≡ tag_of f) (λ g s'. tag_of f ≡ 0x41 → (a : Field) × (bs : Fields) × (parts_of g ≡ more a bs)) (keeps-tag f p s h k) (parted f w))
    where
      later : (m : Outcome (Field × State)) (t : ℕ) → (eqb t 0x41 ≡ true → After m (λ g s'. (a : Field) × (bs : Fields) × (parts_of g ≡ more a bs))) →
          After m (λ g s'. t ≡ 0x41 → (a : Field) × (bs : Fields) × (parts_of g ≡ more a bs))
      later m t z = by (eqb t 0x41) refl
        where
          by : (b : Bool) → eqb t 0x41 ≡ b → After m (λ g s'. t ≡ 0x41 → (a : Field) × (bs : Fields) × (parts_of g ≡ more a bs))
          by true q = after-weaken m (λ g s'. (a : Field) × (bs : Fields) × (parts_of g ≡ more a bs)) _ (λ g s' r _. r) (z q)
          by false q = after-weaken m (λ _ _. Unit {0}) _ (λ g s' _ r. absurd (eqb-false t 0x41 q r)) (after-any m)

      parted : (f : Field) → stays f ≡ true → After (walk f e false p s) (λ g s'. tag_of f ≡ 0x41 → (a : Field) × (bs : Fields) × (parts_of g ≡ more a bs))
      parted (field t x none) w = later (walk (field t x none) e false p s) t (λ q. absurd (true≢false (sym w ∙ ap (λ (k : ℕ). stays (field k x none)) (eqb-true t 0x41 q))))
      parted (field t x (more f fs)) w =
          later (walk (field t x (more f fs)) e false p s) t
          (λ q. subst (λ (k : ℕ). After (walk (field k x (more f fs)) e false p s) (λ g s'. (a : Field) × (bs : Fields) × (parts_of g ≡ more a bs)))
          (sym (eqb-true t 0x41 q)) (walk-41 x f fs p s))
