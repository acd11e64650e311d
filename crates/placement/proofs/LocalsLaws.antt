-- The specifiers of an import: their local ids one by one; a 21 or 22 is an id; where neither its local id is i nor a way is misplaced, i does
-- not stand in a specifier.
use Prim.Native.Nat.{ℕ, ◌≤◌}
use mathlib.Core.Path.{◌≡◌, refl, sym, ◌∙◌}
use mathlib.Core.Logic.{◌⊎◌, inl, inr}
use mathlib.Core.Bool.{Bool, true, false, cond, true≢false}
use mathlib.Core.List.{List, [], ◌∷◌, ◌++◌}
use native.Mathlib.Omega.{arith}
use lib.Dec.{eqb}
use lib.ListN.{get_or}
use borrow.Author.Tests.{eqb-true, eqb-false}
use Rattle.tree.proofs.Table.{both-true}
use Rattle.tree.specs.declared.grammar.Set.TheVariants.{Specifier}
use Rattle.tree.specs.Layout.{same, id_at}
use Rattle.tree.specs.Tree.{Field, field, Fields, none, more, tag_of, fixed_of}
use Rattle.tree.specs.Grammar.{holds_at}
use Rattle.tree.specs.Within.{Exact}
use Rattle.tree.proofs.WidthLaws.{plain-width}
use Rattle.tree.specs.declared.grammar.Value.TheVariants.{Id}
use Rattle.inputs.specs.Lists.{among}
use Rattle.inputs.specs.Fields.{keep}
use Rattle.extraction_rules.specs.Walk.{parts_for}
use Rattle.extraction_rules.proofs.TestLaws.{or-neither}
use Rattle.extraction_rules.proofs.ListLaws.{same-swap}
use Rattle.extraction_rules.proofs.ShapeLaws.{Shaped, specifier-is}
use Rattle.extraction_rules.proofs.RegularLaws.{whole-id}
use Rattle.extraction_rules.proofs.KeepLaws.{Each}
use Rattle.placement.specs.Stands.{otherwise, ids_in}
use Rattle.placement.specs.Placed.{all, local_ids}
use Rattle.placement.proofs.WaysLaws.{met, ways}
use Rattle.placement.proofs.HowLaws.{fits}

pub each-keep : (P : Field → Type 0) (p : Field → Bool) (fs : Fields) → Each P fs → Each P (keep p fs)
unfolding keep
each-keep P p none h = tt
each-keep P p (more f fs) h = go (p f) (each-keep P p fs h.1)
  where
    go : (b : Bool) → Each P (keep p fs) → Each P (cond b (more f (keep p fs)) (keep p fs))
    go true k = (h.0, k)
    go false k = k

-- local ids, specifier by specifier
pub locals-other : (i : List ℕ) (fs : Fields) → among i (local_ids fs) ≡ false → Each (λ s. same (id_at (fixed_of s) 0) i ≡ false) fs
unfolding local_ids among
locals-other i none h = tt
locals-other i (more f fs) h = let w = or-neither (same i (id_at (fixed_of f) 0)) (among i (local_ids fs)) h in (same-swap (id_at (fixed_of f) 0) i ∙ w.0, locals-other i fs w.1)

pub locals-all : (t : List ℕ → Bool) (fs : Fields) → all t (local_ids fs) ≡ true → Each (λ s. t (id_at (fixed_of s) 0) ≡ true) fs
unfolding local_ids all
locals-all t none h = tt
locals-all t (more f fs) h = let w = both-true (t (id_at (fixed_of f) 0)) (all t (local_ids fs)) h in (w.0, locals-all t fs w.1)

-- a 21 or 22 is an id
pub id-whole : (t : ℕ) (x : List ℕ) → (t ≡ 0x21) ⊎ (t ≡ 0x22) → Exact t x → id_at x 0 ≡ x
id-whole t x (inl q) h = whole-id x (plain-width 0x21 Id refl x q h)
id-whole t x (inr q) h = whole-id x (plain-width 0x22 Id refl x q h)

pub whole-specifier : (s : Field) → (tag_of s ≡ 0x21) ⊎ (tag_of s ≡ 0x22) → Shaped s → id_at (fixed_of s) 0 ≡ fixed_of s
whole-specifier (field t x cs) q h = id-whole t x q h.0

-- the tag of a specifier
pub tag-of : (t : ℕ) → holds_at Specifier t ≡ true → (t ≡ 0x20) ⊎ ((t ≡ 0x21) ⊎ (t ≡ 0x22))
tag-of t h = let w = specifier-is t h in go w.0 w.1 (eqb t 0x20) (eqb t 0x21) refl refl
  where
    go : 0x20 ≤ t → t ≤ 0x22 → (a b : Bool) → eqb t 0x20 ≡ a → eqb t 0x21 ≡ b → (t ≡ 0x20) ⊎ ((t ≡ 0x21) ⊎ (t ≡ 0x22))
    go l u true b p q = inl (eqb-true t 0x20 p)
    go l u false true p q = inr (inl (eqb-true t 0x21 q))
    go l u false false p q = let x = eqb-false t 0x20 p in let y = eqb-false t 0x21 q in inr (inr (last t l u x y))
      where
        last : (t : ℕ) → 0x20 ≤ t → t ≤ 0x22 → (t ≡ 0x20 → ⊥) → (t ≡ 0x21 → ⊥) → t ≡ 0x22
        last t l u x y = omega arith

-- ---- Where another id stands in a specifier

module _ (i : List ℕ) where
  pub named-absent : (x : List ℕ) → same (id_at x 0) i ≡ false → fits (ways (field 0x20 x none) i false) ≡ true → ways (field 0x20 x none) i false ≡ []
  unfolding ways ids_in met parts_for all
  named-absent x d f = rw d (go (eqb (get_or x 6 0) 1) (same (id_at x 7) i) refl (rw d at f))
    where
      go : (b c : Bool) → same (id_at x 7) i ≡ c → fits (met (cond b ((otherwise, id_at x 7) ∷ []) []) i ++ []) ≡ true → met (cond b ((otherwise, id_at x 7) ∷ []) []) i ++ [] ≡ []
      go true true q f = absurd (true≢false (sym (rw q at f)))
      go true false q f = rw q
      go false c q f = refl

  pub id-absent : (t : ℕ) (x : List ℕ) → (t ≡ 0x21) ⊎ (t ≡ 0x22) → same (id_at x 0) i ≡ false → ways (field t x none) i false ≡ []
  unfolding ways ids_in met parts_for
  id-absent t x (inl q) d = rw (q, d)
  id-absent t x (inr q) d = rw (q, d)
