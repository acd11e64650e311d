-- The grammar's rules as the walk meets them: in every row but that of a 66 an expression 60 may stand where a 63 stands,
-- a 10 stands only among a module's items, and a module nowhere.
use Rattle.std.specs.Prelude.{Option, Some}
use Prim.Native.Nat.{ℕ, zero, suc}
use mathlib.Core.Path.{◌≡◌, refl, sym, ap, ap₂, ◌∙◌}
use mathlib.Core.Logic.{◌⊎◌, inl, inr, ⊎_elim}
use mathlib.Core.Bool.{Bool, true, false, not, ◌||◌, true≢false, cond}
use native.Mathlib.Omega.{arith}
use lib.Dec.{eqb}
use Rattle.tree.specs.declared.grammar.Set.{Set}
use Rattle.tree.specs.declared.grammar.Slot.{Slot}
use Rattle.tree.specs.declared.grammar.Slot.TheVariants.{Nothing, One, Maybe, Many}
use Rattle.tree.specs.declared.grammar.Rule.{Rule}
use Rattle.tree.specs.declared.grammar.Fit.{Fit}
use Rattle.tree.specs.declared.grammar.Fit.TheVariants.{Stay, Used, Over, No}
use Rattle.tree.specs.Grammar.{within, holds_at, parts0, parts1, parts3, parts4, statements, patterns, expressions, others, rule_of, slot_at, rest_of, on_fit, step_by, step_at}
use Rattle.tree.proofs.Table.{passes, find-passes}
use Rattle.tree.proofs.GrammarLaws.{no-step, maybe-slot, many-slot, go-inj}
use Rattle.tree.proofs.FixedLaws.{or-right}
use Rattle.extraction_rules.proofs.TestLaws.{or-neither}

-- ---- Sets in a rule

-- a set that p picks out stands in a slot, in a rule
abbrev pub in_slot : (Set → Bool) → Slot → Bool
in_slot p Nothing = false
in_slot p (One x) = p x
in_slot p (Maybe x) = p x
in_slot p (Many x) = p x

abbrev pub in_rule : (Set → Bool) → Rule → Bool
in_rule p q = in_slot p q.first || (in_slot p q.second || (in_slot p q.third || in_slot p q.fourth))

rest-without : (p : Set → Bool) (q : Rule) → in_rule p q ≡ false → in_rule p (rest_of q) ≡ false
rest-without p q h =
    let a = or-neither (in_slot p q.first) _ h in
    let b = or-neither (in_slot p q.second) _ a.1 in
    let c = or-neither (in_slot p q.third) _ b.1 in
    go (in_slot p q.second) (in_slot p q.third) (in_slot p q.fourth) b.0 c.0 c.1
  where
    go : (x y z : Bool) → x ≡ false → y ≡ false → z ≡ false → x || (y || (z || false)) ≡ false
    go false false false e f g = refl
    go false false true e f g = g
    go false true z e f g = absurd (true≢false f)
    go true y z e f g = absurd (true≢false e)

-- the rule that is left behind a part has no other sets
without-by : (p : Set → Bool) (n : ℕ) (q q' : Rule) (t : ℕ) → in_rule p q ≡ false → step_by n q t ≡ Some q' → in_rule p q' ≡ false
unfolding step_by
without-by p zero q q' t h e = absurd (let z : ◌≡◌ {A = ℕ} 0 1 = cc in omega arith)
without-by p (suc n) q q' t h e = on (slot_at q.first t) e (without-by p n (rest_of q) q' t (rest-without p q h))
  where
    on : (f : Fit) → on_fit f q (step_by n (rest_of q) t) ≡ Some q' → (step_by n (rest_of q) t ≡ Some q' → in_rule p q' ≡ false) → in_rule p q' ≡ false
    on Stay e k = ap (in_rule p) (sym (go-inj e)) ∙ h
    on Used e k = ap (in_rule p) (sym (go-inj e)) ∙ rest-without p q h
    on Over e k = k e
    on No e k = absurd (let z : ◌≡◌ {A = ℕ} 0 1 = cc in omega arith)

pub step-without : (p : Set → Bool) (q q' : Rule) (t : ℕ) → in_rule p q ≡ false → step_at q t ≡ Some q' → in_rule p q' ≡ false
unfolding step_at
step-without p q q' t h e = without-by p 4 q q' t h e

-- two tags that every set of a rule takes alike make the same step
slot-alike : (p : Set → Bool) (t u : ℕ) → ((x : Set) → p x ≡ false → holds_at x t ≡ holds_at x u) → (s : Slot) → in_slot p s ≡ false →
    slot_at s t ≡ slot_at s u
unfolding slot_at
slot-alike p t u k Nothing h = refl
slot-alike p t u k (One x) h = ap (λ (b : Bool). cond b Used No) (k x h)
slot-alike p t u k (Maybe x) h = ap (λ (b : Bool). cond b Used Over) (k x h)
slot-alike p t u k (Many x) h = ap (λ (b : Bool). cond b Stay Over) (k x h)

alike-by : (p : Set → Bool) (t u : ℕ) → ((x : Set) → p x ≡ false → holds_at x t ≡ holds_at x u) → (n : ℕ) (q : Rule) → in_rule p q ≡ false →
    step_by n q t ≡ step_by n q u
unfolding step_by
alike-by p t u k zero q h = refl
alike-by p t u k (suc n) q h =
    ap₂ (λ (f : Fit) (r : Option Rule). on_fit f q r) (slot-alike p t u k q.first (or-neither (in_slot p q.first) _ h).0)
    (alike-by p t u k n (rest_of q) (rest-without p q h))

pub step-alike : (p : Set → Bool) (t u : ℕ) → ((x : Set) → p x ≡ false → holds_at x t ≡ holds_at x u) → (q : Rule) → in_rule p q ≡ false →
    step_at q t ≡ step_at q u
unfolding step_at
step-alike p t u k q h = alike-by p t u k 4 q h

-- a tag that no set of a rule takes makes no step
untaken-by : (p : Set → Bool) (t : ℕ) → ((x : Set) → p x ≡ false → holds_at x t ≡ false) → (n : ℕ) (q q' : Rule) → in_rule p q ≡ false →
    step_by n q t ≡ Some q' → ⊥
unfolding step_by slot_at
untaken-by p t k zero q q' h e = let z : ◌≡◌ {A = ℕ} 0 1 = cc in omega arith
untaken-by p t k (suc n) q q' h e = slot q.first (or-neither (in_slot p q.first) _ h).0 e
    (untaken-by p t k n (rest_of q) q' (rest-without p q h))
  where
    slot : (s : Slot) → in_slot p s ≡ false → on_fit (slot_at s t) q (step_by n (rest_of q) t) ≡ Some q' → (step_by n (rest_of q) t ≡ Some q' → ⊥) → ⊥
    slot Nothing h e j = j e
    slot (One x) h e j = let z = rw (k x h) at e in let z : ◌≡◌ {A = ℕ} 0 1 = cc in omega arith
    slot (Maybe x) h e j = j (rw (k x h) at e)
    slot (Many x) h e j = j (rw (k x h) at e)

pub step-untaken : (p : Set → Bool) (t : ℕ) → ((x : Set) → p x ≡ false → holds_at x t ≡ false) → (q q' : Rule) → in_rule p q ≡ false →
    step_at q t ≡ Some q' → ⊥
unfolding step_at
step-untaken p t k q q' h e = untaken-by p t k 4 q q' h e

-- ---- The sets that take a 10, and those that take a module or tell a 63 from a 60

abbrev pub differ : Bool → Bool → Bool
differ true b = not b
differ false b = b

differ-not : (a b : Bool) → differ a b ≡ false → a ≡ b
differ-not true true e = refl
differ-not true false e = absurd (true≢false e)
differ-not false b e = sym e

abbrev pub takes_import : Set → Bool
takes_import x = holds_at x 0x10

abbrev pub takes_target : Set → Bool
takes_target x = differ (holds_at x 0x63) (holds_at x 0x60) || holds_at x 0x01

-- a row in which every walked expression may become a 60
pub turned-step : (q : Rule) → in_rule takes_target q ≡ false → step_at q 0x63 ≡ step_at q 0x60
turned-step q h = step-alike takes_target 0x63 0x60
    (λ x w. differ-not (holds_at x 0x63) (holds_at x 0x60) (or-neither (differ (holds_at x 0x63) (holds_at x 0x60)) (holds_at x 0x01) w).0) q h

pub no-module : (q q' : Rule) → in_rule takes_target q ≡ false → step_at q 0x01 ≡ Some q' → ⊥
no-module q q' h e = step-untaken takes_target 0x01 (λ x w. (or-neither (differ (holds_at x 0x63) (holds_at x 0x60)) (holds_at x 0x01) w).1) q q' h e

pub no_import : (q q' : Rule) → in_rule takes_import q ≡ false → step_at q 0x10 ≡ Some q' → ⊥
no_import q q' h e = step-untaken takes_import 0x10 (λ x w. w) q q' h e

-- ---- The grammar's table

either : (g : ℕ → Rule → Bool) (t : ℕ) (b : Bool) (x y : Rule) → g t x ≡ true → g t y ≡ true → g t (cond b x y) ≡ true
either g t true x y p q = p
either g t false x y p q = q

-- a test that every rule of the table passes
pub rule-passes : (g : ℕ → Rule → Bool) (t : ℕ) → passes g statements ≡ true → passes g patterns ≡ true → passes g expressions ≡ true →
    passes g others ≡ true → g t parts0 ≡ true → g t (rule_of t) ≡ true
unfolding rule_of
rule-passes g t a b c d k =
    either g t (within 0x40 0x48 t) _ _ (find-passes g t statements parts0 a k)
    (either g t (within 0x50 0x56 t) _ _ (find-passes g t patterns parts0 b k)
    (either g t (within 0x60 0x6e t) _ _ (find-passes g t expressions parts0 c k) (find-passes g t others parts0 d k)))

pub only-by : (a b : Bool) → a || not b ≡ true → a ≡ false → b ≡ false
only-by true b e n = absurd (true≢false n)
only-by false true e n = sym e
only-by false false e n = refl

-- only a 66 has a target, no field has a module
targets : ℕ → Rule → Bool
targets k r = eqb k 0x66 || not (in_rule takes_target r)

pub rule-targets : (t : ℕ) → eqb t 0x66 ≡ false → in_rule takes_target (rule_of t) ≡ false
unfolding targets holds_at within
rule-targets t n = only-by (eqb t 0x66) (in_rule takes_target (rule_of t)) (rule-passes targets t refl refl refl refl (or-right (eqb t 0x66) true refl)) n

-- only a module has imports
imports : ℕ → Rule → Bool
imports k r = eqb k 0x01 || not (in_rule takes_import r)

pub rule-imports : (t : ℕ) → eqb t 0x01 ≡ false → in_rule takes_import (rule_of t) ≡ false
unfolding imports holds_at within
rule-imports t n = only-by (eqb t 0x01) (in_rule takes_import (rule_of t)) (rule-passes imports t refl refl refl refl (or-right (eqb t 0x01) true refl)) n

-- ---- A step through a slot for many parts, and for one that may be missing

many-by : (b : Bool) (x : Set) (q q' : Rule) (t : ℕ) (o : Option Rule) → holds_at x t ≡ b → cond b (Some q') o ≡ Some q →
    ((holds_at x t ≡ true) × (q ≡ q')) ⊎ (o ≡ Some q)
many-by true x q q' t o w e = inl (w, sym (go-inj e))
many-by false x q q' t o w e = inr e

pub many-step : (x : Set) (a b c : Slot) (t : ℕ) (q : Rule) → step_at (parts4 (Many x) a b c) t ≡ Some q →
    ((holds_at x t ≡ true) × (q ≡ parts4 (Many x) a b c)) ⊎ (step_at (parts3 a b c) t ≡ Some q)
many-step x a b c t q e = many-by (holds_at x t) x q (parts4 (Many x) a b c) t (step_at (parts3 a b c) t) refl (sym (many-slot x a b c t) ∙ e)

pub maybe-step : (x : Set) (a b c : Slot) (t : ℕ) (q : Rule) → step_at (parts4 (Maybe x) a b c) t ≡ Some q →
    ((holds_at x t ≡ true) × (q ≡ parts3 a b c)) ⊎ (step_at (parts3 a b c) t ≡ Some q)
maybe-step x a b c t q e = many-by (holds_at x t) x q (parts3 a b c) t (step_at (parts3 a b c) t) refl (sym (maybe-slot x a b c t) ∙ e)

-- the last of them: nothing else may stand there
pub only-step : (x : Set) (t : ℕ) (q : Rule) → step_at (parts1 (Many x)) t ≡ Some q → (holds_at x t ≡ true) × (q ≡ parts1 (Many x))
only-step x t q e = ⊎_elim (λ w. w) (λ w. absurd (no-step t w)) (many-step x Nothing Nothing Nothing t q e)
