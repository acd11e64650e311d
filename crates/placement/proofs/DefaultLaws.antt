-- In a well placed tree no default import has the id of a namespace: which ids have usages.
use Rattle.std.specs.Prelude.{Some}
use Prim.Native.Nat.{ℕ, zero, suc}
use mathlib.Core.Path.{◌≡◌, refl, sym, ap, subst, ◌∙◌}
use mathlib.Core.Logic.{inl, inr}
use mathlib.Core.Bool.{Bool, true, false, not, cond, ◌||◌, true≢false}
use mathlib.Core.List.{List}
use native.Mathlib.Omega.{arith}
use borrow.Author.Tests.{eqb-true}
use Rattle.scope.specs.Id.{local}
use Rattle.tree.specs.Layout.{same, four, id_at, context_of, value_of}
use Rattle.tree.specs.Tree.{Field, Fields, none, more, tag_of, fixed_of, parts_of}
use Rattle.tree.proofs.LayoutLaws.{same-refl, same-equal}
use Rattle.inputs.specs.Lists.{is_some, among}
use Rattle.inputs.specs.Fields.{has, keep, find_field, sole}
use Rattle.extraction_rules.specs.First.{specifiers_in}
use Rattle.extraction_rules.proofs.ShapeLaws.{Shaped, Specifiers, import-parts, shaped-parts}
use Rattle.extraction_rules.proofs.SpaceLaws.{OfImport}
use Rattle.extraction_rules.proofs.KeepLaws.{Each}
use Rattle.placement.specs.Placed.{imports_in, shares_none, local_ids, own_locals, sole_namespace, item_at}
use Rattle.placement.proofs.LocalsLaws.{locals-other, locals-all, whole-specifier}
use Rattle.placement.proofs.PlacedLaws.{EachImport, EachBut, Apart, shares-apart, each-at, but-with}

-- ---- Each, by place

each-from : (P : Field → Type 0) (fs : Fields) → ((k : ℕ) (f : Field) → item_at k fs ≡ Some f → P f) → Each P fs
each-from P none h = tt
each-from P (more f fs) h = (h zero f refl, each-from P fs (λ k g e. h (suc k) g e))

but-fill : (P : Field → Type 0) (k : ℕ) (fs : Fields) (f : Field) → EachBut P k fs → item_at k fs ≡ Some f → P f → EachImport P fs
but-fill P k none f h e w = tt
but-fill P zero (more g fs) f h e w = let q : f ≡ g = cc in ((λ _. subst P q w), h)
but-fill P (suc k) (more g fs) f h e w = (h.0, but-fill P k fs f h.1 e w)

-- ---- A namespace is sole

kept-found : (fs : Fields) (m : ℕ) (s : Field) → item_at m (specifiers_in fs) ≡ Some s → has 0x22 s ≡ true → is_some (find_field (has 0x22) fs) ≡ true
unfolding keep find_field
kept-found none m s e q = absurd (let z : ◌≡◌ {A = ℕ} 0 1 = cc in omega arith)
kept-found (more f fs) m s e q = go (has 0x22 f) (has 0x2F f) refl e (kept-found fs)
  where
    go : (a b : Bool) → has 0x22 f ≡ a → item_at m (cond (not b) (more f (specifiers_in fs)) (specifiers_in fs)) ≡ Some s →
        ((m : ℕ) (s : Field) → item_at m (specifiers_in fs) ≡ Some s → has 0x22 s ≡ true → is_some (find_field (has 0x22) fs) ≡ true) →
        is_some (cond a (Some f) (find_field (has 0x22) fs)) ≡ true
    go true b w e ih = refl
    go false true w e ih = ih m s e q
    go false false w e ih = by m e
      where
        by : (m : ℕ) → item_at m (more f (specifiers_in fs)) ≡ Some s → is_some (find_field (has 0x22) fs) ≡ true
        by zero e = absurd (let r : f ≡ s = cc in true≢false (sym q ∙ ap (has 0x22) (sym r) ∙ w))
        by (suc m) e = ih m s e q

sole-one : (fs : Fields) (m : ℕ) (s : Field) → is_some (sole fs) ≡ true → item_at m fs ≡ Some s → fs ≡ more s none
unfolding sole
sole-one none m s h e = absurd (true≢false (sym h))
sole-one (more f none) zero s h e = let q : f ≡ s = cc in ap (λ (g : Field). more g none) q
sole-one (more f none) (suc m) s h e = absurd (let z : ◌≡◌ {A = ℕ} 0 1 = cc in omega arith)
sole-one (more f (more g gs)) m s h e = absurd (true≢false (sym h))

namespace-sole : (f : Field) (m : ℕ) (s : Field) → sole_namespace f ≡ true → item_at m (specifiers_in (parts_of f)) ≡ Some s → has 0x22 s ≡ true →
    specifiers_in (parts_of f) ≡ more s none
unfolding sole_namespace
namespace-sole f m s h e q = sole-one (specifiers_in (parts_of f)) m s (go (is_some (find_field (has 0x22) (parts_of f))) (kept-found (parts_of f) m s e q) h) e
  where
    go : (b : Bool) → b ≡ true → not b || is_some (sole (specifiers_in (parts_of f))) ≡ true → is_some (sole (specifiers_in (parts_of f))) ≡ true
    go true q h = h
    go false q h = absurd (true≢false (sym q))

-- ---- Ids that are no default's

abbrev NoDefault : List ℕ → Field → Type 0
NoDefault j f = Each (λ s. has 0x21 s ≡ true → same (fixed_of s) j ≡ false) (specifiers_in (parts_of f))

-- an id in the own local context that no default has
abbrev pub SpaceIn : ℕ → Fields → List ℕ → Type 0
SpaceIn own items j = (context_of j ≡ four (local own)) × EachImport (NoDefault j) items

pub space-local : (own : ℕ) (items : Fields) (j : List ℕ) → SpaceIn own items j → context_of j ≡ four (local own)
space-local own items j h = h.0

apart-default : (j a : List ℕ) (f : Field) → tag_of f ≡ 0x10 → Shaped f → Apart j a f → NoDefault j f
apart-default j a f t h k = go (specifiers_in (parts_of f)) (import-parts (parts_of f) (shaped-parts f 0x10 h t)).0 (locals-other j (specifiers_in (parts_of f)) k.1)
  where
    go : (fs : Fields) → Specifiers fs → Each (λ s. same (id_at (fixed_of s) 0) j ≡ false) fs → Each (λ s. has 0x21 s ≡ true → same (fixed_of s) j ≡ false) fs
    go none h k = tt
    go (more s fs) h k = ((λ q. ap (λ (y : List ℕ). same y j) (sym (whole-specifier s (inl (eqb-true (tag_of s) 0x21 q)) h.0.1)) ∙ k.0), go fs h.1 k.1)

module _ (own : ℕ) (items : Fields) (shape : Each Shaped items) (share : shares_none (imports_in items) ≡ true) where
  -- the namespace s of the import f at the place k
  space-of : (k : ℕ) (f : Field) (m : ℕ) (s : Field) → item_at k items ≡ Some f → tag_of f ≡ 0x10 → own_locals own f ≡ true → sole_namespace f ≡ true →
      item_at m (specifiers_in (parts_of f)) ≡ Some s → has 0x22 s ≡ true → Shaped s → SpaceIn own items (fixed_of s)
  unfolding own_locals local_ids among
  space-of k f m s e t own-f sole-f es q hs =
      let one = namespace-sole f m s sole-f es q in
      let w : id_at (fixed_of s) 0 ≡ fixed_of s = whole-specifier s (inr (eqb-true (tag_of s) 0x22 q)) hs in
      let loc =
      each-at (λ s. same (context_of (id_at (fixed_of s) 0)) (four (local own)) ≡ true) m (specifiers_in (parts_of f)) s
      (locals-all (λ i. same (context_of i) (four (local own))) (specifiers_in (parts_of f)) own-f) es in (
        ap context_of (sym w) ∙ same-equal (context_of (id_at (fixed_of s) 0)) (four (local own)) loc,
        but-fill (NoDefault (fixed_of s)) k items f
            (but-with (Apart (fixed_of s) (value_of (fixed_of f))) Shaped (NoDefault (fixed_of s)) k items
            (λ g t a h. apart-default (fixed_of s) (value_of (fixed_of f)) g t h a)
            (shares-apart (fixed_of s) k items f share e t (rw (one, w, same-refl (fixed_of s)))) shape)
            e
            (subst (Each (λ g. has 0x21 g ≡ true → same (fixed_of g) (fixed_of s) ≡ false)) (sym one)
            ((λ z. absurd (let v : ◌≡◌ {A = ℕ} 0x21 0x22 = sym (eqb-true (tag_of s) 0x21 z) ∙ eqb-true (tag_of s) 0x22 q in omega arith)), tt)),
      )

  specifier-shaped : (fs : Fields) → Specifiers fs → Each Shaped fs
  specifier-shaped none h = tt
  specifier-shaped (more f fs) h = (h.0.1, specifier-shaped fs h.1)

  of-import : (k : ℕ) (f : Field) → item_at k items ≡ Some f → tag_of f ≡ 0x10 → own_locals own f ≡ true → sole_namespace f ≡ true →
      Each (OfImport (SpaceIn own items) own (space-local own items)) (specifiers_in (parts_of f))
  of-import k f e t own-f sole-f =
      let hs = specifier-shaped (specifiers_in (parts_of f)) (import-parts (parts_of f) (shaped-parts f 0x10 (each-at Shaped k items f shape e) t)).0 in
      each-from (OfImport (SpaceIn own items) own (space-local own items)) (specifiers_in (parts_of f))
      (λ m s es. (
        (λ q. space-of k f m s e t own-f sole-f es q (each-at Shaped m (specifiers_in (parts_of f)) s hs es)),
        λ q sp. true≢false
            (sym (same-refl (fixed_of s))
            ∙ each-at (λ g. has 0x21 g ≡ true → same (fixed_of g) (fixed_of s) ≡ false) m (specifiers_in (parts_of f)) s
            (each-at (λ f. tag_of f ≡ 0x10 → NoDefault (fixed_of s) f) k items f sp.1 e t) es q),
      ))

  pub imports-of : EachImport (λ f. own_locals own f ≡ true) items → EachImport (λ f. sole_namespace f ≡ true) items →
      EachImport (λ f. Each (OfImport (SpaceIn own items) own (space-local own items)) (specifiers_in (parts_of f))) items
  imports-of h w =
      each-from (λ f. tag_of f ≡ 0x10 → Each (OfImport (SpaceIn own items) own (space-local own items)) (specifiers_in (parts_of f))) items
      (λ k f e t. of-import k f e t (each-at (λ f. tag_of f ≡ 0x10 → own_locals own f ≡ true) k items f h e t) (each-at (λ f. tag_of f ≡ 0x10 →
      sole_namespace f ≡ true) k items f w e t))
