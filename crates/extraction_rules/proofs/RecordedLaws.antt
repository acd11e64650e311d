-- Whole records: literals of six bytes, specifiers within the grammar, forced values of two bytes. What the tree gives is whole, and
-- collecting, extending and losing namespaces keep it so.
use Rattle.std.specs.Prelude.{Option, None, Some}
use Prim.Native.Nat.{ℕ}
use mathlib.Core.Path.{◌≡◌, refl, sym, ap, subst, ◌∙◌}
use mathlib.Core.Bool.{Bool, true, false, not, cond, ◌&&◌, ◌||◌}
use mathlib.Core.List.{List, [], ◌∷◌, ◌++◌}
use native.Mathlib.Omega.{arith}
use lib.Dec.{eqb}
use lib.ListN.{length}
use lib.Seq.{length-slice, length-take-le}
use borrow.Author.Tests.{eqb-true}
use Rattle.scope.specs.Id.{require_atom}
use Rattle.tree.specs.declared.grammar.Rule.{Rule}
use Rattle.tree.specs.Layout.{same, two, id_at, name_of, value_of, same_literal}
use Rattle.tree.specs.Tree.{Field, field, Fields, none, more, tag_of, fixed_of}
use Rattle.tree.specs.Grammar.{rule_of}
use Rattle.tree.specs.Within.{Exact}
use Rattle.tree.proofs.WidthLaws.{plain-width}
use Rattle.tree.specs.declared.grammar.Value.TheVariants.{Id, Literal}
use Rattle.metadata.specs.Metadata.{append}
use Rattle.inputs.specs.Lists.{among}
use Rattle.inputs.specs.Fields.{has, keep, sole}
use Rattle.extraction_rules.specs.State.{Record, State, Setting, set_forced}
use Rattle.extraction_rules.specs.First.{external, holds_namespace, forget, force_id, argument, not_external, required, collect_in}
use Rattle.extraction_rules.specs.First.{Binding, bound, left, below, binding_of, bindings, bindings_all, bindings_first}
use Rattle.extraction_rules.specs.Second.{extend, lose_namespaces}
use Rattle.extraction_rules.proofs.ListLaws.{All, all-last, all-find}
use Rattle.extraction_rules.proofs.FirstLaws.{force-cases}
use Rattle.extraction_rules.proofs.ExactLaws.{property-exact}
use Rattle.extraction_rules.proofs.ShapeLaws.{Shaped, ShapedAll, Specifiers, named-specifier}

-- ---- Whole records

abbrev pub WholeRecord : Record → Type 0
WholeRecord r = (length r.literal ≡ 6) × Specifiers r.specifiers

abbrev pub Whole : State → Type 0
Whole s = All WholeRecord s.collected × All WholeRecord s.lazy × All (λ a. length a ≡ 2) s.forced

pub specifiers-append : (fs gs : Fields) → Specifiers fs → Specifiers gs → Specifiers (append fs gs)
unfolding append
specifiers-append none gs h k = k
specifiers-append (more f fs) gs h k = (h.0, specifiers-append fs gs h.1 k)

specifiers-keep : (t : Field → Bool) (fs : Fields) → Specifiers fs → Specifiers (keep t fs)
unfolding keep
specifiers-keep t none h = tt
specifiers-keep t (more f fs) h = go (t f) (specifiers-keep t fs h.1)
  where
    go : (b : Bool) → Specifiers (keep t fs) → Specifiers (cond b (more f (keep t fs)) (keep t fs))
    go true w = (h.0, w)
    go false w = w

pub value-width : (l : List ℕ) → length l ≡ 6 → length (value_of l) ≡ 2
value-width l e = length-take-le 2 l (omega arith)

-- ---- What the tree gives: literals and the ids of patterns

bound-width : (t : ℕ) (x : List ℕ) → binding_of t ≡ bound → Exact t x → length x ≡ 6
unfolding binding_of
bound-width t x e h = go (eqb t 0x50) (eqb t 0x54) (eqb t 0x55) refl refl e
  where
    code : Binding → ℕ
    code bound = 0
    code left = 1
    code below = 2

    go : (a b c : Bool) → eqb t 0x50 ≡ a → eqb t 0x54 ≡ b → cond (a || b) bound (cond c left below) ≡ bound → length x ≡ 6
    go true b c v w e = plain-width 0x50 Id refl x (eqb-true t 0x50 v) h
    go false true c v w e = plain-width 0x54 Id refl x (eqb-true t 0x54 w) h
    go false false true v w e = absurd (let z = ap code e in omega arith)
    go false false false v w e = absurd (let z = ap code e in omega arith)

-- 'naming the pattern's binding ids', by what kind of pattern it is
abbrev pub bindings_by : Binding → List ℕ → Fields → Fields
bindings_by b x cs = elim b [
  | bound ↦ more (field 0x20 (id_at x 0 ++ 0 ∷ []) none) none
  | left ↦ bindings_first cs
  | below ↦ bindings_all cs
]

bindings-by : (b : Binding) (t : ℕ) (x : List ℕ) (cs : Fields) → binding_of t ≡ b → Exact t x → Specifiers (bindings_first cs) →
    Specifiers (bindings_all cs) → Specifiers (bindings_by b x cs)
bindings-by bound t x cs e h k m =
    let w = bound-width t x e h in
    (named-specifier (id_at x 0 ++ 0 ∷ []) (property-exact (id_at x 0) (length-slice 0 6 x (omega arith))), tt)
bindings-by left t x cs e h k m = k
bindings-by below t x cs e h k m = m

mutual
  unfolding bindings

  pub bindings-whole : (f : Field) → Shaped f → Specifiers (bindings f)
  bindings-whole (field t x cs) h =
      bindings-by (binding_of t) t x cs refl h.0 (bindings_first-whole cs (rule_of t) h.1) (bindings_all-whole cs (rule_of t) h.1)

  bindings_all-whole : (fs : Fields) (q : Rule) → ShapedAll fs q → Specifiers (bindings_all fs)
  bindings_all-whole none q h = tt
  bindings_all-whole (more f fs) q h =
      specifiers-append (bindings f) (bindings_all fs) (bindings-whole f h.2) (bindings_all-whole fs h.0 h.3)

  bindings_first-whole : (fs : Fields) (q : Rule) → ShapedAll fs q → Specifiers (bindings_first fs)
  bindings_first-whole none q h = tt
  bindings_first-whole (more f fs) q h = bindings-whole f h.2

-- the literal of a call that meets the require conditions
sole-shaped : (gs : Fields) (q : Rule) (f : Field) → ShapedAll gs q → sole gs ≡ Some f → Shaped f
unfolding sole
sole-shaped none q f h e = absurd (let z : ◌≡◌ {A = ℕ} 0 1 = cc in omega arith)
sole-shaped (more g none) q f h e = let w : g ≡ f = cc in subst Shaped w h.2
sole-shaped (more g (more k ks)) q f h e = absurd (let z : ◌≡◌ {A = ℕ} 0 1 = cc in omega arith)

literal-61 : (f : Field) → Shaped f → tag_of f ≡ 0x61 → length (fixed_of f) ≡ 6
literal-61 (field t x cs) h e = plain-width 0x61 Literal refl x e h.0

argument-whole : (o : Option Field) (l : List ℕ) → ((f : Field) → o ≡ Some f → Shaped f) → argument o ≡ Some l → length l ≡ 6
unfolding argument
argument-whole None l h e = absurd (let z : ◌≡◌ {A = ℕ} 0 1 = cc in omega arith)
argument-whole (Some (field t x none)) l h e = absurd (let z : ◌≡◌ {A = ℕ} 0 1 = cc in omega arith)
argument-whole (Some (field t x (more f fs))) l h e = go (eqb t 0x75 && same x (0 ∷ [])) (has 0x61 f) refl e
  where
    go : (a b : Bool) → has 0x61 f ≡ b → cond {A = Option (List ℕ)} (a && b) (Some (fixed_of f)) None ≡ Some l → length l ≡ 6
    go true true w e =
        let q : fixed_of f ≡ l = cc in
        ap length (sym q) ∙ literal-61 f (h (field t x (more f fs)) refl).1.2 (eqb-true (tag_of f) 0x61 w)
    go true false w e = absurd (let z : ◌≡◌ {A = ℕ} 0 1 = cc in omega arith)
    go false b w e = absurd (let z : ◌≡◌ {A = ℕ} 0 1 = cc in omega arith)

not_external-same : (e : Setting) (o : Option (List ℕ)) (l : List ℕ) → not_external e o ≡ Some l → o ≡ Some l
unfolding not_external
not_external-same e None l q = q
not_external-same e (Some k) l q = go (external e k) q
  where
    go : (b : Bool) → cond b None (Some k) ≡ Some l → Some k ≡ Some l
    go true q = absurd (let z : ◌≡◌ {A = ℕ} 0 1 = cc in omega arith)
    go false q = q

pub required-width : (e : Setting) (f : Field) (l : List ℕ) → Shaped f → required e f ≡ Some l → length l ≡ 6
unfolding required
required-width e (field t x none) l h q = absurd (let z : ◌≡◌ {A = ℕ} 0 1 = cc in omega arith)
required-width e (field t x (more c gs)) l h q =
    go (e.config.require && eqb t 0x65 && has 0x60 c && same (name_of (fixed_of c)) (two require_atom)) q
  where
    go : (b : Bool) → cond b (not_external e (argument (sole gs))) None ≡ Some l → length l ≡ 6
    go true q = argument-whole (sole gs) l (λ f w. sole-shaped gs h.1.0 f h.1.3 w) (not_external-same e (argument (sole gs)) l q)
    go false q = absurd (let z : ◌≡◌ {A = ℕ} 0 1 = cc in omega arith)

-- ---- Collecting, extending, losing namespaces

pub collect_in-whole : (r : Record) (l : List Record) → WholeRecord r → All WholeRecord l → All WholeRecord (collect_in r l)
unfolding collect_in
collect_in-whole r [] k h = (k, tt)
collect_in-whole r (q ∷ l) k h = go (same (value_of q.literal) (value_of r.literal)) (collect_in-whole r l k h.1)
  where
    go : (b : Bool) → All WholeRecord (collect_in r l) →
        All WholeRecord (cond b (record { literal = q.literal; specifiers = append q.specifiers r.specifiers } ∷ l) (q ∷ collect_in r l))
    go true w = ((h.0.0, specifiers-append q.specifiers r.specifiers h.0.1 k.1), h.1)
    go false w = (h.0, w)

pub extend-whole : (x : List ℕ) (fs : Fields) (r : Record) → Specifiers fs → WholeRecord r → WholeRecord (extend x fs r)
unfolding extend
extend-whole x fs r k h = go (same_literal r.literal x)
  where
    go : (b : Bool) → WholeRecord (cond b (record { literal = r.literal; specifiers = append r.specifiers fs }) r)
    go true = (h.0, specifiers-append r.specifiers fs h.1 k)
    go false = h

pub lose-whole : (forced : List (List ℕ)) (r : Record) → WholeRecord r → WholeRecord (lose_namespaces forced r)
unfolding lose_namespaces
lose-whole forced r h = go (among (value_of r.literal) forced)
  where
    go : (b : Bool) → WholeRecord (cond b r (record { literal = r.literal; specifiers = keep (λ f. not (has 0x22 f)) r.specifiers }))
    go true = h
    go false = (h.0, specifiers-keep (λ f. not (has 0x22 f)) r.specifiers h.1)

pub source-whole : (a : List ℕ) (s : State) → length a ≡ 2 → Whole s → Whole (set_forced (s.forced ++ (a ∷ [])) s)
source-whole a s e h = (h.0, h.1, all-last (λ a. length a ≡ 2) s.forced a h.2 e)

pub force-whole : (i : List ℕ) (s : State) → Whole s → Whole (force_id i s)
unfolding forget
force-whole i s h =
    force-cases i s Whole h
    (λ r w. (
      h.0,
      h.1,
      all-last (λ a. length a ≡ 2) s.forced (value_of r.literal) h.2
          (value-width r.literal (all-find WholeRecord (holds_namespace i) s.collected r h.0 w).0),
    ))
