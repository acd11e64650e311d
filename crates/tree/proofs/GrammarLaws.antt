-- The grammar's tables: which of them a tag is looked up in, and a step through a rule's slots.
use Rattle.std.specs.Prelude.{Some, None}
use Prim.Native.Nat.{ℕ, ◌≤◌, ◌<◌}
use mathlib.Core.Path.{◌≡◌, refl, sym, ap, subst, ◌∙◌}
use mathlib.Core.Bool.{Bool, true, false, cond}
use lib.Dec.{eqb}
use borrow.Author.Tests.{le-leb, lt-leb, eqb-true}
use Rattle.tree.specs.declared.grammar.Rule.{Rule}
use Rattle.tree.specs.declared.grammar.Set.{Set}
use Rattle.tree.specs.declared.grammar.Set.TheVariants.{Module}
use Rattle.tree.specs.declared.grammar.Slot.{Slot}
use Rattle.tree.specs.declared.grammar.Slot.TheVariants.{One, Maybe, Many}
use Rattle.tree.specs.declared.grammar.Value.TheVariants.{Empty}
use Rattle.tree.specs.declared.grammar.Piece.TheVariants.{Plain}
use Rattle.tree.specs.declared.grammar.Pieces.{Pieces}
use Rattle.tree.specs.Tree.{Field, Fields, none, more, tag_of}
use Rattle.tree.specs.Grammar.{within, parts0, parts3, parts4, rule_of, slot_at, step_by, step_at, holds_at, only, fixed_parts, pieces_of}
use Rattle.tree.specs.Within.{Formed, FormedAll}
use Rattle.tree.proofs.Table.{find-passes}
use Rattle.tree.proofs.FixedLaws.{opens}

pub within-true : (lo hi t : ℕ) → lo ≤ t → t ≤ hi → within lo hi t ≡ true
unfolding within
within-true lo hi t a b = simp (le-leb lo t a, le-leb t hi b)

pub within-below : (lo hi t : ℕ) → t < lo → within lo hi t ≡ false
unfolding within
within-below lo hi t a = simp (lt-leb lo t a)

pub within-above : (lo hi t : ℕ) → lo ≤ t → hi < t → within lo hi t ≡ false
unfolding within
within-above lo hi t a b = simp (le-leb lo t a, lt-leb t hi b)

-- the only tag whose fixed bytes take all up to the end is 30, and it has no parts
closing : ℕ → Pieces → Bool
closing k ps = cond (opens ps) (eqb k 0x30) true

closing-all : (t : ℕ) → closing t (pieces_of t) ≡ true
unfolding closing pieces_of
closing-all t = find-passes closing t fixed_parts (only (Plain Empty)) refl refl

closing-tag : (t : ℕ) (ps : Pieces) → closing t ps ≡ true → opens ps ≡ true → t ≡ 0x30
unfolding closing
closing-tag t ps h o = eqb-true t 0x30 (rw o at h)

rule-30 : rule_of 0x30 ≡ parts0
unfolding rule_of within
rule-30 = refl

pub open-rule : (t : ℕ) → opens (pieces_of t) ≡ true → rule_of t ≡ parts0
open-rule t o = ap rule_of (closing-tag t (pieces_of t) (closing-all t) o) ∙ rule-30

pub go-inj : {a b : Rule} → Some a ≡ Some b → a ≡ b
go-inj e = cc

-- a rule without parts takes no tag
pub no-step : (t : ℕ) {q : Rule} → step_at parts0 t ≡ Some q → ⊥
unfolding step_at step_by slot_at
no-step t {q} e = cc

-- where no part is left, there is none
pub formed-none : (cs : Fields) → FormedAll cs parts0 → cs ≡ none
formed-none none w = refl
formed-none (more f fs) w = absurd (no-step (tag_of f) w.1)

module _ (x : Set) (a b c : Slot) (t : ℕ) where
  one-by : (y : Bool) → holds_at x t ≡ y → step_at (parts4 (One x) a b c) t ≡ cond y (Some (parts3 a b c)) None
  unfolding step_at step_by slot_at
  one-by true e = rw e
  one-by false e = rw e

  maybe-by : (y : Bool) → holds_at x t ≡ y →
      step_at (parts4 (Maybe x) a b c) t ≡ cond y (Some (parts3 a b c)) (step_at (parts3 a b c) t)
  unfolding step_at step_by slot_at
  maybe-by true e = rw e
  maybe-by false e = rw e

  many-by : (y : Bool) → holds_at x t ≡ y →
      step_at (parts4 (Many x) a b c) t ≡ cond y (Some (parts4 (Many x) a b c)) (step_at (parts3 a b c) t)
  unfolding step_at step_by slot_at
  many-by true e = rw e
  many-by false e = rw e

-- what a slot in front that may stay empty says to a tag
pub maybe-slot : (x : Set) (a b c : Slot) (t : ℕ) →
    step_at (parts4 (Maybe x) a b c) t ≡ cond (holds_at x t) (Some (parts3 a b c)) (step_at (parts3 a b c) t)
maybe-slot x a b c t = maybe-by x a b c t (holds_at x t) refl

pub many-slot : (x : Set) (a b c : Slot) (t : ℕ) →
    step_at (parts4 (Many x) a b c) t ≡ cond (holds_at x t) (Some (parts4 (Many x) a b c)) (step_at (parts3 a b c) t)
many-slot x a b c t = many-by x a b c t (holds_at x t) refl

-- the set of modules has one tag
pub module-tag : (t : ℕ) → holds_at Module t ≡ true → t ≡ 0x01
unfolding holds_at
module-tag t e = eqb-true t 0x01 e

-- so a slot for one part takes a tag of its set, and nothing else
pub one-step : (x : Set) (a b c : Slot) (t : ℕ) → holds_at x t ≡ true →
    step_at (parts4 (One x) a b c) t ≡ Some (parts3 a b c)
one-step x a b c t e = one-by x a b c t true e

one-back : (x : Set) (a b c : Slot) (t : ℕ) (y : Bool) (q : Rule) → holds_at x t ≡ y →
    step_at (parts4 (One x) a b c) t ≡ Some q → (y ≡ true) × (q ≡ parts3 a b c)
one-back x a b c t true q h e = (refl, go-inj (sym e ∙ one-by x a b c t true h))
one-back x a b c t false q h e = let z = sym e ∙ one-by x a b c t false h in cc

pub step-one : (x : Set) (a b c : Slot) (t : ℕ) (q : Rule) → step_at (parts4 (One x) a b c) t ≡ Some q →
    (holds_at x t ≡ true) × (q ≡ parts3 a b c)
step-one x a b c t q e = one-back x a b c t (holds_at x t) q refl e

-- so a row with such a slot in front has a first part of that set
pub formed-one : (x : Set) (a b c : Slot) (cs : Fields) → FormedAll cs (parts4 (One x) a b c) →
    (f : Field) × (fs : Fields) × (cs ≡ more f fs) × (holds_at x (tag_of f) ≡ true) × Formed f × FormedAll fs (parts3 a b c)
formed-one x a b c none w = cc
formed-one x a b c (more f fs) w =
    let s = step-one x a b c (tag_of f) w.0 w.1 in
    (f, fs, refl, s.0, w.2, subst (FormedAll fs) s.1 w.3)
