-- A broken 2F gives 3: attributes hold no field with parts, so that none is ever too deep.
use Rattle.std.specs.Prelude.{Option, None, Some}
use Prim.Native.Nat.{ℕ, zero, suc, ◌+◌, ◌-◌, ◌<◌}
use mathlib.Core.Path.{◌≡◌, refl, sym, subst}
use mathlib.Core.Bool.{true, cond}
use mathlib.Core.List.{List}
use mathlib.Core.Logic.{◌⊎◌, inl, inr, ⊎_elim}
use native.Mathlib.Omega.{arith}
use lib.Dec.{eqb}
use lib.ListN.{length, get_or}
use lib.Seq.{slice}
use borrow.Author.Tests.{lt-ltb, eqb-true}
use Rattle.tree.specs.declared.grammar.Set.TheVariants.{Attributes, Attribute}
use Rattle.tree.specs.declared.grammar.Slot.TheVariants.{Nothing}
use Rattle.tree.specs.declared.grammar.Rule.{Rule}
use Rattle.tree.specs.declared.read.Why.{Why}
use Rattle.tree.specs.declared.read.Head.{Head}
use Rattle.tree.specs.declared.read.Head.TheVariants.{Done, Missing, Bad, Child}
use Rattle.tree.specs.Tree.{field, none, more}
use Rattle.tree.specs.Grammar.{within, holds_at, parts0, rule_of, step_at, done_at}
use Rattle.tree.specs.Access.{fixed_at, extent_at}
use Rattle.tree.specs.Read.{Reading, fine, refused, refusal_of, mapped, both, Kids, on_extent, on_step, head_at, on_fixed, content_by, on_head, children, children_at, read, top}
use Rattle.tree.proofs.AccessLaws.{cond-ind}
use Rattle.tree.proofs.GrammarLaws.{no-step, step-one}
use Rattle.tree.proofs.ReadLaws.{Says, head-says}
use Rattle.metadata.proofs.WithinLaws.{attributes, attributes-step}
use Rattle.metadata.specs.Calls.{attributes_in, lent}

-- a reading that gives no other number than 3
abbrev Three : {A : Type 0} → Reading A → Type 0
Three (fine a) = Unit
Three (refused w p) = refusal_of w ≡ 3

three-mapped : {A B : Type 0} (f : A → B) (r : Reading A) → Three r → Three (mapped f r)
three-mapped f (fine a) h = tt
three-mapped f (refused w p) h = h

three-both : {A B C : Type 0} (f : A → B → C) (r : Reading A) (t : Reading B) → Three r → Three t → Three (both f r t)
three-both f (fine a) t h g = three-mapped (f a) t g
three-both f (refused w p) t h g = h

-- fields by this rule nest at most k deep
abbrev Flat : ℕ → Rule → Type 0
Flat zero q = (t : ℕ) (q' : Rule) → step_at q t ≡ Some q' → ⊥
Flat (suc k) q = (t : ℕ) (q' : Rule) → step_at q t ≡ Some q' → Flat k (rule_of t) × ((q' ≡ q) ⊎ (q' ≡ parts0))

none-flat : (k : ℕ) → Flat k parts0
none-flat zero = λ t q e. no-step t e
none-flat (suc k) = λ t q e. absurd (no-step t e)

rest-flat : (k : ℕ) (q q' : Rule) → Flat (suc k) q → (q' ≡ q) ⊎ (q' ≡ parts0) → Flat (suc k) q'
rest-flat k q q' f s = ⊎_elim (λ e. subst (Flat (suc k)) (sym e) f) (λ e. subst (Flat (suc k)) (sym e) (none-flat (suc k))) s

-- above depth 64 a head is broken by another number than 4
abbrev Shallow : Head → Type 0
Shallow Done = Unit
Shallow Missing = Unit
Shallow (Bad w) = refusal_of w ≡ 3
Shallow (Child q stop) = Unit

extent-shallow : (r : Option ℕ) (q : Rule) (d : ℕ) → d < 64 → Shallow (on_extent r q d)
unfolding on_extent
extent-shallow None q d h = refl
extent-shallow (Some stop) q d h = rw (lt-ltb d 64 h) tt

step-shallow : (x : Option Rule) (s : List ℕ) (at end d : ℕ) → d < 64 → Shallow (on_step x s at end d)
unfolding on_step
step-shallow None s at end d h = refl
step-shallow (Some q) s at end d h = extent-shallow (extent_at s at end) q d h

head-shallow : (s : List ℕ) (at end d : ℕ) (q : Rule) → d < 64 → Shallow (head_at s at end d q)
unfolding head_at
head-shallow s at end d q h =
    cond-ind Shallow (eqb at end) (cond (done_at q) Done Missing) (on_step (step_at q (get_or s at 0)) s at end d)
    (λ _. cond-ind Shallow (done_at q) Done Missing (λ _. tt) (λ _. tt)) (λ _. step-shallow (step_at q (get_or s at 0)) s at end d h)

-- ---- Reading by flat rules

abbrev AllThree : Kids → ℕ → ℕ → Type 0
AllThree k d j = (s : List ℕ) (at end : ℕ) (q : Rule) (p : ℕ) → Flat j q → Three (k s at end d q p)

fixed-three : (r : Option ℕ) (k : Kids) (s : List ℕ) (at stop d j : ℕ) → Flat j (rule_of (get_or s at 0)) → AllThree k d j → Three (on_fixed r k s at stop d)
unfolding on_fixed
fixed-three None k s at stop d j f g = refl
fixed-three (Some b) k s at stop d j f g =
    three-mapped (field (get_or s at 0) (slice (at + 3) b s)) (k s b stop d (rule_of (get_or s at 0)) at) (g s b stop (rule_of (get_or s at 0)) at f)

head-three : (h : Head) (k : Kids) (s : List ℕ) (at end d j : ℕ) (q : Rule) (p : ℕ) → Shallow h → Says s at end q h → Flat (suc j) q →
    AllThree k (d + 1) j → AllThree k d (suc j) → Three (on_head h k s at end d p)
unfolding on_head content_by
head-three Done k s at end d j q p i y f g r = tt
head-three Missing k s at end d j q p i y f g r = refl
head-three (Bad w) k s at end d j q p i y f g r = i
head-three (Child q' stop) k s at end d j q p i y f g r =
    let n = f (get_or s at 0) q' y.0 in
    three-both more (content_by k s at stop (d + 1)) (k s stop end d q' p)
    (fixed-three (fixed_at s (get_or s at 0) (at + 3) stop) k s at stop (d + 1) j n.0 g) (r s stop end q' p (rest-flat j q q' f n.1))

head-last : (h : Head) (k : Kids) (s : List ℕ) (at end d : ℕ) (q : Rule) (p : ℕ) → Shallow h → Says s at end q h → Flat zero q → Three (on_head h k s at end d p)
unfolding on_head
head-last Done k s at end d q p i y f = tt
head-last Missing k s at end d q p i y f = refl
head-last (Bad w) k s at end d q p i y f = i
head-last (Child q' stop) k s at end d q p i y f = absurd (f (get_or s at 0) q' y.0)

children-three : (n j d : ℕ) → d + j < 64 → AllThree (children n) d j
unfolding children
children-three zero j d h s at end q p f = refl
children-three (suc n) zero d h s at end q p f =
    head-last (head_at s at end d q) (children n) s at end d q p (head-shallow s at end d q (omega arith)) (head-says s at end d q) f
children-three (suc n) (suc j) d h s at end q p f =
    head-three (head_at s at end d q) (children n) s at end d j q p (head-shallow s at end d q (omega arith)) (head-says s at end d q) f
    (children-three n j (d + 1) (omega arith)) (children-three n (suc j) d h)

-- ---- Attributes

attribute-flat : (t : ℕ) → holds_at Attribute t ≡ true → Flat zero (rule_of t)
unfolding holds_at rule_of within
attribute-flat t e = subst (λ (u : ℕ). Flat zero (rule_of u)) (sym (eqb-true t 0x30 e)) (none-flat zero)

attributes-flat : Flat 1 attributes
attributes-flat t q e = let s = attributes-step t q e in (attribute-flat t s.0, inl s.1)

top-flat : Flat 2 (top Attributes)
unfolding holds_at rule_of within
top-flat t q e =
    let s = step-one Attributes Nothing Nothing Nothing t q e in
    (subst (λ (u : ℕ). Flat 1 (rule_of u)) (sym (eqb-true t 0x2F s.0)) attributes-flat, inr s.1)

read-three : (s : List ℕ) → Three (read Attributes s)
unfolding read children_at
read-three s =
    cond-ind Three (eqb (length s) 0) _ (children (suc (length s - 0)) s 0 (length s) 0 (top Attributes) 0) (λ _. refl)
    (λ _. children-three (suc (length s - 0)) 2 0 (omega arith) s 0 (length s) (top Attributes) 0 top-flat)

lent-three : (s : List ℕ) → Three (lent s)
unfolding lent
lent-three s =
    cond-ind Three (eqb (length s) 0) (fine none) (mapped attributes_in (read Attributes s)) (λ _. tt)
    (λ _. three-mapped attributes_in (read Attributes s) (read-three s))

-- 'a broken one gives 3'
pub broken-three : (s : List ℕ) (w : Why) (p : ℕ) → lent s ≡ refused w p → refusal_of w ≡ 3
broken-three s w p e = subst Three e (lent-three s)
