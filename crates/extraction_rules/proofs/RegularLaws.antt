-- Trees within the grammar are regular behind the imports.
use Rattle.std.specs.Prelude.{Some}
use Prim.Native.Nat.{ℕ, ◌≤◌}
use mathlib.Core.Path.{◌≡◌, refl, sym, ap, subst, ◌∙◌}
use mathlib.Core.Logic.{◌⊎◌, inl, inr}
use mathlib.Core.Bool.{Bool, true, false, not, ◌||◌, true≢false}
use mathlib.Core.List.{List, [], append-nil}
use native.Mathlib.Omega.{arith}
use lib.Dec.{leb, eqb}
use lib.ListN.{length, take, get_or}
use lib.Seq.{take_at}
use borrow.Author.Tests.{eqb-true, eqb-false, leb-true}
use Rattle.tree.proofs.Table.{both-true}
use Rattle.tree.specs.declared.grammar.Set.{Set}
use Rattle.tree.specs.declared.grammar.Set.TheVariants.{Item, Expression, Member}
use Rattle.tree.specs.declared.grammar.Slot.TheVariants.{Nothing, One}
use Rattle.tree.specs.declared.grammar.Rule.{Rule}
use Rattle.tree.specs.Layout.{id_at}
use Rattle.tree.specs.Tree.{Field, field, Fields, none, more, tag_of}
use Rattle.tree.specs.Grammar.{within, holds_at, parts0, rule_of, step_at, done_at}
use Rattle.tree.specs.Within.{Exact}
use Rattle.tree.proofs.GrammarLaws.{step-one}
use Rattle.tree.proofs.WidthLaws.{plain-width}
use Rattle.tree.proofs.FixedLaws.{or-right}
use Rattle.tree.specs.declared.grammar.Value.TheVariants.{Atom, Id}
use Rattle.extraction_rules.proofs.TestLaws.{or-neither, neither-or, is-false}
use Rattle.extraction_rules.proofs.RuleLaws.{in_rule, step-without, step-untaken, rule-passes, only-by}
use Rattle.extraction_rules.proofs.ExactLaws.{width-23}
use Rattle.extraction_rules.proofs.ShapeLaws.{Shaped, ShapedAll, shaped-none, target-step}
use Rattle.extraction_rules.proofs.AlikeLaws.{Two, RegularAt, Regular, RegularAll}

-- tags of modules, imports and records, and of what stands in these alone
abbrev pub outer : ℕ → Bool
outer t = eqb t 0x01 || (eqb t 0x02 || (eqb t 0x10 || (eqb t 0x20 || (eqb t 0x21 || (eqb t 0x22 || (eqb t 0x80 || eqb t 0x81))))))

abbrev takes_outer : Set → Bool
takes_outer x = holds_at x 0x01 || (holds_at x 0x02 || (holds_at x 0x10 || (holds_at x 0x20 || (holds_at x 0x21 || (holds_at x 0x22 || (holds_at x 0x80 || holds_at x 0x81))))))

-- no other field has such parts
outers : ℕ → Rule → Bool
outers k r = outer k || not (in_rule takes_outer r)

rule-outer : (t : ℕ) → outer t ≡ false → in_rule takes_outer (rule_of t) ≡ false
unfolding outers holds_at within
rule-outer t n = only-by (outer t) (in_rule takes_outer (rule_of t)) (rule-passes outers t refl refl refl refl (or-right (outer t) true refl)) n

not-outer : (t u : ℕ) → outer t ≡ false → outer u ≡ true → t ≡ u → ⊥
not-outer t u h k q = true≢false (sym k ∙ ap outer (sym q) ∙ h)

-- a part of a rule without such sets
part-outer : (q q' : Rule) (t : ℕ) → in_rule takes_outer q ≡ false → step_at q t ≡ Some q' → outer t ≡ false
part-outer q q' t h e =
    neither-or (eqb t 0x01) _ (no 0x01 (λ x w. (or-neither (holds_at x 0x01) _ w).0))
    (neither-or (eqb t 0x02) _ (no 0x02 (λ x w. (or-neither (holds_at x 0x02) _ (two x w)).0))
    (neither-or (eqb t 0x10) _ (no 0x10 (λ x w. (or-neither (holds_at x 0x10) _ (three x w)).0))
    (neither-or (eqb t 0x20) _ (no 0x20 (λ x w. (or-neither (holds_at x 0x20) _ (four x w)).0))
    (neither-or (eqb t 0x21) _ (no 0x21 (λ x w. (or-neither (holds_at x 0x21) _ (five x w)).0))
    (neither-or (eqb t 0x22) _ (no 0x22 (λ x w. (or-neither (holds_at x 0x22) _ (six x w)).0))
    (neither-or (eqb t 0x80) _ (no 0x80 (λ x w. (or-neither (holds_at x 0x80) (holds_at x 0x81) (seven x w)).0)) (no 0x81 (λ x w. (or-neither (holds_at x 0x80)
    (holds_at x 0x81) (seven x w)).1))))))))
  where
    no : (u : ℕ) → ((x : Set) → takes_outer x ≡ false → holds_at x u ≡ false) → eqb t u ≡ false
    no u k = is-false (eqb t u) (λ z. step-untaken takes_outer u k q q' h (ap (step_at q) (sym (eqb-true t u z)) ∙ e))

    two : (x : Set) → takes_outer x ≡ false →
        holds_at x 0x02 || (holds_at x 0x10 || (holds_at x 0x20 || (holds_at x 0x21 || (holds_at x 0x22 || (holds_at x 0x80 || holds_at x 0x81))))) ≡ false
    two x w = (or-neither (holds_at x 0x01) _ w).1

    three : (x : Set) → takes_outer x ≡ false → holds_at x 0x10 || (holds_at x 0x20 || (holds_at x 0x21 || (holds_at x 0x22 || (holds_at x 0x80 || holds_at x 0x81)))) ≡ false
    three x w = (or-neither (holds_at x 0x02) _ (or-neither (holds_at x 0x01) _ w).1).1

    four : (x : Set) → takes_outer x ≡ false → holds_at x 0x20 || (holds_at x 0x21 || (holds_at x 0x22 || (holds_at x 0x80 || holds_at x 0x81))) ≡ false
    four x w = (or-neither (holds_at x 0x10) _ (three x w)).1

    five : (x : Set) → takes_outer x ≡ false → holds_at x 0x21 || (holds_at x 0x22 || (holds_at x 0x80 || holds_at x 0x81)) ≡ false
    five x w = (or-neither (holds_at x 0x20) _ (four x w)).1

    six : (x : Set) → takes_outer x ≡ false → holds_at x 0x22 || (holds_at x 0x80 || holds_at x 0x81) ≡ false
    six x w = (or-neither (holds_at x 0x21) _ (five x w)).1

    seven : (x : Set) → takes_outer x ≡ false → holds_at x 0x80 || holds_at x 0x81 ≡ false
    seven x w = (or-neither (holds_at x 0x22) _ (six x w)).1

-- ---- Fields of one tag

bare-at : (t u : ℕ) (cs : Fields) → ShapedAll cs (rule_of t) → rule_of u ≡ parts0 → t ≡ u → cs ≡ none
bare-at t u cs h k q = shaped-none cs (subst (ShapedAll cs) (ap rule_of q ∙ k) h)

export-rule : rule_of 0x23 ≡ parts0
unfolding rule_of within
export-rule = refl

empty-rule : rule_of 0x40 ≡ parts0
unfolding rule_of within
empty-rule = refl

ident-rule : rule_of 0x60 ≡ parts0
unfolding rule_of within
ident-rule = refl

name-rule : rule_of 0x70 ≡ parts0
unfolding rule_of within
name-rule = refl

kind-of : (x : List ℕ) → Exact 0x23 x → ((get_or x 0 0 ≡ 1) × (7 ≤ length x)) ⊎ (get_or x 0 0 ≡ 2)
kind-of x h = go (eqb (get_or x 0 0) 2) refl
  where
    go : (b : Bool) → eqb (get_or x 0 0) 2 ≡ b → ((get_or x 0 0 ≡ 1) × (7 ≤ length x)) ⊎ (get_or x 0 0 ≡ 2)
    go true q = inr (eqb-true (get_or x 0 0) 2 q)
    go false q = let w = width-23 x h q in let l = w.1 in inl (w.0, omega arith)

pub whole-id : (x : List ℕ) → length x ≡ 6 → id_at x 0 ≡ x
whole-id x l = ap (take 6) (sym (append-nil x)) ∙ take_at x [] 6 l

member-tag : (t : ℕ) → holds_at Member t ≡ true → (t ≡ 0x70) ⊎ ((t ≡ 0x71) ⊎ (t ≡ 0x72))
unfolding holds_at within
member-tag t h =
    let w = both-true (leb 0x70 t) (leb t 0x72) h in
    go (leb-true 0x70 t w.0) (leb-true t 0x72 w.1) (eqb t 0x70) (eqb t 0x71) refl refl
  where
    go : 0x70 ≤ t → t ≤ 0x72 → (a b : Bool) → eqb t 0x70 ≡ a → eqb t 0x71 ≡ b → (t ≡ 0x70) ⊎ ((t ≡ 0x71) ⊎ (t ≡ 0x72))
    go l u true b p q = inl (eqb-true t 0x70 p)
    go l u false true p q = inr (inl (eqb-true t 0x71 q))
    go l u false false p q = let x = eqb-false t 0x70 p in let y = eqb-false t 0x71 q in inr (inr (last t l u x y))
      where
        last : (t : ℕ) → 0x70 ≤ t → t ≤ 0x72 → (t ≡ 0x70 → ⊥) → (t ≡ 0x71 → ⊥) → t ≡ 0x72
        last t l u x y = omega arith

member-parts : (cs : Fields) → ShapedAll cs (rule_of 0x63) → Two cs
unfolding rule_of within
member-parts none h = absurd (true≢false (sym h))
member-parts (more o none) h = absurd (true≢false (sym (ap done_at (sym (step-one Expression (One Member) Nothing Nothing (tag_of o) h.0 h.1).1) ∙ h.3)))
member-parts (more o (more q rest)) h =
    let k = (step-one Expression (One Member) Nothing Nothing (tag_of o) h.0 h.1).1 in
    let m = h.3 in
    let w = step-one Member Nothing Nothing Nothing (tag_of q) m.0 (subst (λ (r : Rule). step_at r (tag_of q) ≡ Some m.0) k m.1) in
    (o, q, ap (λ (r : Fields). more o (more q r)) (shaped-none rest (subst (ShapedAll rest) w.1 m.3)), member-tag (tag_of q) w.0)

target-tag : (cs : Fields) → ShapedAll cs (rule_of 0x66) → (f : Field) (fs : Fields) → cs ≡ more f fs → (tag_of f ≡ 0x60 → ⊥) × (tag_of f ≡ 0x23 → ⊥)
target-tag none h f fs q = absurd (let z : ◌≡◌ {A = ℕ} 0 1 = cc in omega arith)
target-tag (more g gs) h f fs q = go (target-step (tag_of g) h.0 h.1).0
  where
    e : g ≡ f
    e = cc

    go : (tag_of g ≡ 0x50) ⊎ (tag_of g ≡ 0x63) → (tag_of f ≡ 0x60 → ⊥) × (tag_of f ≡ 0x23 → ⊥)
    go (inl k) = (
      (λ z. let v : ◌≡◌ {A = ℕ} 0x50 0x60 = sym k ∙ ap tag_of e ∙ z in omega arith),
      (λ z. let v : ◌≡◌ {A = ℕ} 0x50 0x23 = sym k ∙ ap tag_of e
          ∙ z in omega arith),
    )
    go (inr k) = (
      (λ z. let v : ◌≡◌ {A = ℕ} 0x63 0x60 = sym k ∙ ap tag_of e ∙ z in omega arith),
      (λ z. let v : ◌≡◌ {A = ℕ} 0x63 0x23 = sym k ∙ ap tag_of e
          ∙ z in omega arith),
    )

regular-at : (t : ℕ) (x : List ℕ) (cs : Fields) → outer t ≡ false → Exact t x → ShapedAll cs (rule_of t) → RegularAt t x cs
regular-at t x cs o h k =
    record {
      no_import = not-outer t 0x10 o refl;
      no_local = (not-outer t 0x20 o refl, not-outer t 0x21 o refl, not-outer t 0x22 o refl);
      export_bare = bare-at t 0x23 cs k export-rule;
      export_kind = λ q. kind-of x (subst (λ (m : ℕ). Exact m x) q h);
      empty_bare = bare-at t 0x40 cs k empty-rule;
      ident_bare = bare-at t 0x60 cs k ident-rule;
      ident_whole = λ q. whole-id x (plain-width 0x60 Id refl x q h);
      member_two = λ q. member-parts cs (subst (λ (m : ℕ). ShapedAll cs (rule_of m)) q k);
      name_bare = bare-at t 0x70 cs k name-rule;
      name_two = λ q. plain-width 0x70 Atom refl x q h;
      target = λ q. target-tag cs (subst (λ (m : ℕ). ShapedAll cs (rule_of m)) q k);
    }

mutual
  pub regular : (f : Field) → outer (tag_of f) ≡ false → Shaped f → Regular f
  regular (field t x cs) o h = (regular-at t x cs o h.0 h.1, regular-all cs (rule_of t) (rule-outer t o) h.1)

  regular-all : (fs : Fields) (q : Rule) → in_rule takes_outer q ≡ false → ShapedAll fs q → RegularAll fs
  regular-all none q n h = tt
  regular-all (more f fs) q n h = (regular f (part-outer q h.0 (tag_of f) n h.1) h.2, regular-all fs h.0 (step-without takes_outer q h.0 (tag_of f) n h.1) h.3)

-- an item of a module that is no import
item-tag : (t u : ℕ) → holds_at Item t ≡ true → holds_at Item u ≡ false → eqb t u ≡ false
item-tag t u h k = is-false (eqb t u) (λ z. true≢false (sym h ∙ ap (holds_at Item) (eqb-true t u z) ∙ k))

pub item-outer : (t : ℕ) → holds_at Item t ≡ true → eqb t 0x10 ≡ false → outer t ≡ false
unfolding holds_at within
item-outer t h n =
    neither-or (eqb t 0x01) _ (item-tag t 0x01 h refl)
    (neither-or (eqb t 0x02) _ (item-tag t 0x02 h refl)
    (neither-or (eqb t 0x10) _ n (neither-or (eqb t 0x20) _ (item-tag t 0x20 h refl) (neither-or (eqb t 0x21) _ (item-tag t 0x21 h refl)
    (neither-or (eqb t 0x22) _ (item-tag t 0x22 h refl) (neither-or (eqb t 0x80) _ (item-tag t 0x80 h refl) (item-tag t 0x81 h refl)))))))
