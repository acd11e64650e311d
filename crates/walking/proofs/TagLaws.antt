-- What the walk does to a field of each tag.
use Prim.Native.Nat.{ℕ}
use native.Mathlib.Omega.{arith}
use mathlib.Core.Path.{◌≡◌, refl, sym, ap, subst, ◌∙◌}
use mathlib.Core.Bool.{Bool, true, false, cond}
use mathlib.Core.List.{List}
use borrow.Author.Tests.{ne_eqb}
use Rattle.tree.specs.Tree.{Field, field, Fields, none, tag_of}
use Rattle.tree.specs.Grammar.{within, expression_tag}
use Rattle.inputs.specs.Outcome.{Outcome, done, refused, onto}
use Rattle.inputs.specs.Fields.{inside}
use Rattle.extraction_rules.specs.State.{State, Pass, first, second, Setting, Act, set_top}
use Rattle.extraction_rules.specs.First.{force_id, on_ident, usage, required, require, export_specifier, declarator}
use Rattle.extraction_rules.specs.Second.{rewritten}
use Rattle.extraction_rules.specs.Walk.{express, nothing as plain, after_expression, rule_for, after, Parts, super, assignment}
use Rattle.extraction_rules.specs.Walk.{children, parts_for, enter, walk, walk_all, walk_member, walk_assignment, walk_target}
use Rattle.extraction_rules.proofs.WalkLaws.{walk_parts, parts-children}
use Rattle.extraction_rules.proofs.StayLaws.{no-member}
use Rattle.expressions.proofs.RequiredLaws.{no-required}
use Rattle.walking.specs.declared.Way.TheVariants.{Children, Member, Assignment}
use Rattle.walking.specs.Walking.{node_by, row_by, forced_by}

-- the parts of a field, and then the field with them
abbrev pub around : ℕ → List ℕ → Act Fields → Act Field
around n x m = λ s. onto (m s) (λ r. done (field n x r.0, r.1))

-- ---- Fields without a rule of their own

-- an expression that is no 60, 63 or 65 stays as it is behind its parts
express-plain : (k : Pass) (e : Setting) (t : ℕ) (x : List ℕ) (ds : Fields) (object : Bool) (p : ℕ) (s : State) →
    (t ≡ 0x60 → ⊥) → (t ≡ 0x63 → ⊥) → (t ≡ 0x65 → ⊥) → after_expression k e (field t x ds) object p s ≡ done (field t x ds, s)
unfolding after_expression rewritten usage require
express-plain first e t x ds object p s a b c = rw (ne_eqb t 0x60 a, no-member t x ds b, no-required e (field t x ds) c) refl
express-plain second e t x ds object p s a b c = rw (no-member t x ds b) refl

plain-after : (e : Setting) (t : ℕ) (x : List ℕ) (ds : Fields) (object : Bool) (p : ℕ) (s : State) → (t ≡ 0x10 → ⊥) → (t ≡ 0x23 → ⊥) → (t ≡ 0x42 → ⊥) →
    (t ≡ 0x60 → ⊥) → (t ≡ 0x63 → ⊥) → (t ≡ 0x65 → ⊥) → after (rule_for t) e t x ds object p s ≡ done (field t x ds, s)
unfolding rule_for after
plain-after e t x ds object p s i j k a b c = rw (ne_eqb t 0x10 i, ne_eqb t 0x23 j, ne_eqb t 0x42 k) (go (expression_tag t))
  where
    go : (b : Bool) → after (cond b express plain) e t x ds object p s ≡ done (field t x ds, s)
    go true = express-plain e.pass e t x ds object p s a b c
    go false = refl

-- a walk by its parts and its rule
by-parts : (e : Setting) (t : ℕ) (x : List ℕ) (cs : Fields) (object : Bool) (p : ℕ) (s : State) (v : Parts) → parts_for t ≡ v →
    ((ds : Fields) (u : State) → after (rule_for t) e t x ds object p u ≡ done (field t x ds, u)) →
    walk (field t x cs) e object p s ≡ around t x (walk_parts v cs e object (inside p x)) (enter t s)
unfolding walk
by-parts e t x cs object p s v q h =
    ap (λ (w : Parts). onto (walk_parts w cs e object (inside p x) (enter t s)) (λ r. after (rule_for t) e t x r.0 object p r.1)) q
    ∙ go (walk_parts v cs e object (inside p x) (enter t s))
  where
    go : (m : Outcome (Fields × State)) → onto m (λ r. after (rule_for t) e t x r.0 object p r.1) ≡ onto m (λ r. done (field t x r.0, r.1))
    go (done r) = h r.0 r.1
    go (refused n q) = refl

-- ---- Each tag

module _ (e : Setting) (x : List ℕ) (cs : Fields) (object : Bool) (p : ℕ) (s : State) where
  pub walk-plain : (t : ℕ) → (t ≡ 0x10 → ⊥) → (t ≡ 0x23 → ⊥) → (t ≡ 0x42 → ⊥) → (t ≡ 0x45 → ⊥) → (t ≡ 0x60 → ⊥) → (t ≡ 0x63 → ⊥) → (t ≡ 0x64 →
      ⊥) →
      (t ≡ 0x65 → ⊥) → (t ≡ 0x66 → ⊥) →
      walk (field t x cs) e object p s ≡ around t x (walk_all cs e object (inside p x)) s
  walk-plain t i j k b a m u c g =
      by-parts e t x cs object p s children (parts-children t i j m u g) (λ ds u. plain-after e t x ds object p u i j k a m c)
      ∙ ap (around t x (walk_all cs e object (inside p x))) (ap (λ (b : Bool). cond b (set_top false s) s) (ne_eqb t 0x45 b))

  -- 'A block clears *top* for good.'
  pub walk-45 : walk (field 0x45 x cs) e object p s ≡ around 0x45 x (walk_all cs e object (inside p x)) (set_top false s)
  unfolding walk parts_for rule_for within after
  walk-45 = refl

  -- '64: only a 71, clear'
  pub walk-64 : walk (field 0x64 x cs) e object p s ≡ around 0x64 x (walk_all cs e false (inside p x)) s
  unfolding parts_for
  walk-64 =
      by-parts e 0x64 x cs object p s super refl
      (λ ds u. plain-after e 0x64 x ds object p u (λ z. omega arith) (λ z. omega arith) (λ z. omega arith) (λ z. omega arith) (λ z. omega arith)
      (λ z. omega arith))

  pub walk-66 : walk (field 0x66 x cs) e object p s ≡ around 0x66 x (walk_assignment cs e object (inside p x)) s
  unfolding parts_for
  walk-66 =
      by-parts e 0x66 x cs object p s assignment refl
      (λ ds u. plain-after e 0x66 x ds object p u (λ z. omega arith) (λ z. omega arith) (λ z. omega arith) (λ z. omega arith) (λ z. omega arith)
      (λ z. omega arith))

  pub walk-23 : walk (field 0x23 x cs) e object p s ≡ export_specifier e x p s
  unfolding walk parts_for rule_for within after
  walk-23 = refl

  pub walk-42 : walk (field 0x42 x cs) e object p s ≡ onto (walk_all cs e object (inside p x) s) (λ r. onto (declarator e r.0 p r.1) (λ d. done (field 0x42 x d.0, d.1)))
  unfolding walk parts_for rule_for within after
  walk-42 = refl

  pub walk-63 : walk (field 0x63 x cs) e object p s ≡ onto (walk_member cs e (inside p x) s) (λ r. after_expression e.pass e (field 0x63 x r.0) object p r.1)
  unfolding walk parts_for rule_for within after
  walk-63 = refl

  pub walk-65 : walk (field 0x65 x cs) e object p s ≡ onto (walk_all cs e object (inside p x) s) (λ r. after_expression e.pass e (field 0x65 x r.0) object p r.1)
  unfolding walk parts_for rule_for within after
  walk-65 = refl

pub walk-60 : (e : Setting) (x : List ℕ) (object : Bool) (p : ℕ) (s : State) → walk (field 0x60 x none) e object p s ≡ after_expression e.pass e (field 0x60 x none) object p s
unfolding walk parts_for rule_for within after
walk-60 e x object p s = refl

-- ---- Behind the parts

pub first-60 : (e : Setting) (x : List ℕ) (object : Bool) (p : ℕ) (s : State) →
    after_expression first e (field 0x60 x none) object p s ≡ done (field 0x60 x none, cond object s (force_id x s))
unfolding after_expression on_ident usage required require
first-60 e x true p s = refl
first-60 e x false p s = refl

pub second-60 : (e : Setting) (x : List ℕ) (object : Bool) (p : ℕ) (s : State) → after_expression second e (field 0x60 x none) object p s ≡ done (field 0x60 x none, s)
unfolding after_expression on_ident rewritten
second-60 e x object p s = refl

pub first-63 : (e : Setting) (x : List ℕ) (ds : Fields) (object : Bool) (p : ℕ) (s : State) →
    after_expression first e (field 0x63 x ds) object p s ≡ onto (usage (on_ident (field 0x63 x ds)) e p s) (λ q. done (field 0x63 x ds, q.1))
unfolding after_expression require
first-63 e x ds object p s = rw (no-required e (field 0x63 x ds) (λ z. omega arith)) refl

pub first-65 : (e : Setting) (x : List ℕ) (ds : Fields) (object : Bool) (p : ℕ) (s : State) →
    after_expression first e (field 0x65 x ds) object p s ≡ require (required e (field 0x65 x ds)) e (field 0x65 x ds) p s
unfolding after_expression usage
first-65 e x ds object p s = rw (no-member 0x65 x ds (λ z. omega arith)) refl

pub second-65 : (e : Setting) (x : List ℕ) (ds : Fields) (object : Bool) (p : ℕ) (s : State) → after_expression second e (field 0x65 x ds) object p s ≡ done (field 0x65 x ds, s)
unfolding after_expression rewritten
second-65 e x ds object p s = rw (no-member 0x65 x ds (λ z. omega arith)) refl

-- ---- By a field's tag: what its parts make of it, and the rule behind them

module _ (e : Setting) (object : Bool) (p : ℕ) (s : State) where
  pub plain-by : (f : Field) → (tag_of f ≡ 0x10 → ⊥) → (tag_of f ≡ 0x23 → ⊥) → (tag_of f ≡ 0x42 → ⊥) → (tag_of f ≡ 0x45 → ⊥) → (tag_of f ≡ 0x60 → ⊥) →
      (tag_of f ≡ 0x63 → ⊥) →
      (tag_of f ≡ 0x64 → ⊥) → (tag_of f ≡ 0x65 → ⊥) → (tag_of f ≡ 0x66 → ⊥) → walk f e object p s ≡ node_by (Children object) f e p s
  unfolding node_by row_by
  plain-by (field t x cs) i j k b a m u c g = walk-plain e x cs object p s t i j k b a m u c g

  pub block-by : (f : Field) → tag_of f ≡ 0x45 → walk f e object p s ≡ node_by (Children object) f e p (set_top false s)
  unfolding node_by row_by
  block-by (field t x cs) q = subst (λ (n : ℕ). walk (field n x cs) e object p s ≡ around n x (walk_all cs e object (inside p x)) (set_top false s)) (sym q) (walk-45 e x cs object p s)

  pub super-by : (f : Field) → tag_of f ≡ 0x64 → walk f e object p s ≡ node_by (Children false) f e p s
  unfolding node_by row_by
  super-by (field t x cs) q = subst (λ (n : ℕ). walk (field n x cs) e object p s ≡ around n x (walk_all cs e false (inside p x)) s) (sym q) (walk-64 e x cs object p s)

  pub assignment-by : (f : Field) → tag_of f ≡ 0x66 → walk f e object p s ≡ node_by (Assignment object) f e p s
  unfolding node_by row_by
  assignment-by (field t x cs) q = subst (λ (n : ℕ). walk (field n x cs) e object p s ≡ around n x (walk_assignment cs e object (inside p x)) s) (sym q) (walk-66 e x cs object p s)

-- the target of a 66
pub target-by : (e : Setting) (p : ℕ) (s : State) (f : Field) → walk_target f e p s ≡ node_by Member f e p s
unfolding walk node_by row_by
target-by e p s (field t x cs) = refl

-- a 60 without parts
pub ident-by : (k : Pass) (e : Setting) (x : List ℕ) (object : Bool) (p : ℕ) (s : State) →
    after_expression k e (field 0x60 x none) object p s ≡ done (field 0x60 x none, forced_by k object x s)
unfolding forced_by
ident-by first e x object p s = first-60 e x object p s
ident-by second e x object p s = second-60 e x object p s
