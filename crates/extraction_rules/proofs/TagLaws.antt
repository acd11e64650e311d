-- Which tags have which rule, and which way their parts are walked.
use Prim.Native.Nat.{ℕ}
use mathlib.Core.Path.{◌≡◌, refl, sym, ap, ◌∙◌}
use mathlib.Core.Logic.{◌⊎◌, inl, inr}
use mathlib.Core.Bool.{Bool, true, false, cond}
use mathlib.Core.List.{List, [], ◌∷◌}
use native.Mathlib.Omega.{arith}
use lib.Dec.{eqb}
use borrow.Author.Tests.{eqb-true}
use Rattle.tree.specs.Grammar.{expression_tag, find}
use Rattle.extraction_rules.specs.Walk.{Rule, import, export, declare, express, nothing, rule_for, Parts, unwalked, member, super, assignment, children, parts_for}
use Rattle.extraction_rules.proofs.ListLaws.{All}

-- what holds of each entry of a table and of the default holds of what is found
pub find-any : {A : Type 0} (P : A → Type 0) (t : ℕ) (l : List (ℕ × A)) (d : A) → All (λ e. eqb t e.0 ≡ true → P e.1) l → P d → P (find t l d)
find-any P t [] d h k = k
find-any P t (e ∷ l) d h k = go (eqb t e.0) h.0 (find-any P t l d h.1 k)
  where
    go : (b : Bool) → (b ≡ true → P e.1) → P (find t l d) → P (cond b e.1 (find t l d))
    go true w r = w refl
    go false w r = r

abbrev pub rule_code : Rule → ℕ
rule_code import = 0
rule_code export = 1
rule_code declare = 2
rule_code express = 3
rule_code nothing = 4

abbrev pub parts_code : Parts → ℕ
parts_code unwalked = 0
parts_code member = 1
parts_code super = 2
parts_code assignment = 3
parts_code children = 4

-- a tag of another rule, or of another way
pub other-rule : (t k : ℕ) (r w : Rule) → rule_for t ≡ r → rule_for k ≡ w → (rule_code w ≡ rule_code r → ⊥) → t ≡ k → ⊥
other-rule t k r w q v h e = h (ap rule_code (sym v ∙ ap rule_for (sym e) ∙ q))

pub other-parts : (t k : ℕ) (r w : Parts) → parts_for t ≡ r → parts_for k ≡ w → (parts_code w ≡ parts_code r → ⊥) → t ≡ k → ⊥
other-parts t k r w q v h e = h (ap parts_code (sym v ∙ ap parts_for (sym e) ∙ q))

abbrev rule_table : List (ℕ × Rule)
rule_table = (0x10, import) ∷ (0x23, export) ∷ (0x42, declare) ∷ []

abbrev parts_table : List (ℕ × Parts)
parts_table = (0x10, unwalked) ∷ (0x23, unwalked) ∷ (0x63, member) ∷ (0x64, super) ∷ (0x66, assignment) ∷ []

-- Q, since the two differ
not-rule : (r w : Rule) (Q : Type 0) → (rule_code r ≡ rule_code w → ⊥) → r ≡ w → Q
not-rule r w Q h q = absurd (h (ap rule_code q))

not-parts : (r w : Parts) (Q : Type 0) → (parts_code r ≡ parts_code w → ⊥) → r ≡ w → Q
not-parts r w Q h q = absurd (h (ap parts_code q))

expressed : (b : Bool) (w : Rule) (Q : Type 0) → (3 ≡ rule_code w → ⊥) → (4 ≡ rule_code w → ⊥) → cond b express nothing ≡ w → Q
expressed true w Q h k q = not-rule express w Q h q
expressed false w Q h k q = not-rule nothing w Q k q

pub rule-import : (t : ℕ) → rule_for t ≡ import → t ≡ 0x10
unfolding rule_for
rule-import t q =
    find-any (λ r. r ≡ import → t ≡ 0x10) t rule_table (cond (expression_tag t) express nothing)
    ((λ v _. eqb-true t 0x10 v), ((λ _. not-rule export import _ (λ z. omega arith)), ((λ _. not-rule declare import _ (λ z. omega arith)), tt)))
    (expressed (expression_tag t) import _ (λ z. omega arith) (λ z. omega arith)) q

pub rule-export : (t : ℕ) → rule_for t ≡ export → t ≡ 0x23
unfolding rule_for
rule-export t q =
    find-any (λ r. r ≡ export → t ≡ 0x23) t rule_table (cond (expression_tag t) express nothing)
    ((λ _. not-rule import export _ (λ z. omega arith)), ((λ v _. eqb-true t 0x23 v), ((λ _. not-rule declare export _ (λ z. omega arith)), tt)))
    (expressed (expression_tag t) export _ (λ z. omega arith) (λ z. omega arith)) q

pub parts-member : (t : ℕ) → parts_for t ≡ member → t ≡ 0x63
unfolding parts_for
parts-member t q =
    find-any (λ r. r ≡ member → t ≡ 0x63) t parts_table children (
      (λ _. not-parts unwalked member _ (λ z. omega arith)),
      (
        (λ _. not-parts unwalked member _ (λ z. omega arith)),
        (
          (λ v _. eqb-true t 0x63 v),
          ((λ _. not-parts super member _ (λ z. omega arith)), ((λ _. not-parts assignment member _ (λ z. omega arith)), tt)),
        ),
      ),
    )
    (not-parts children member _ (λ z. omega arith)) q

pub parts-assignment : (t : ℕ) → parts_for t ≡ assignment → t ≡ 0x66
unfolding parts_for
parts-assignment t q =
    find-any (λ r. r ≡ assignment → t ≡ 0x66) t parts_table children (
      (λ _. not-parts unwalked assignment _ (λ z. omega arith)),
      (
        (λ _. not-parts unwalked assignment _ (λ z. omega arith)),
        (
          (λ _. not-parts member assignment _ (λ z. omega arith)),
          ((λ _. not-parts super assignment _ (λ z. omega arith)), ((λ v _. eqb-true t 0x66 v), tt)),
        ),
      ),
    )
    (not-parts children assignment _ (λ z. omega arith)) q

pub parts-unwalked : (t : ℕ) → parts_for t ≡ unwalked → (t ≡ 0x10) ⊎ (t ≡ 0x23)
unfolding parts_for
parts-unwalked t q =
    find-any (λ r. r ≡ unwalked → (t ≡ 0x10) ⊎ (t ≡ 0x23)) t parts_table children (
      (λ v _. inl (eqb-true t 0x10 v)),
      (
        (λ v _. inr (eqb-true t 0x23 v)),
        (
          (λ _. not-parts member unwalked _ (λ z. omega arith)),
          ((λ _. not-parts super unwalked _ (λ z. omega arith)), ((λ _. not-parts assignment unwalked _ (λ z. omega arith)), tt)),
        ),
      ),
    )
    (not-parts children unwalked _ (λ z. omega arith)) q
