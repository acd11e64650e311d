-- In the first pass the usage of a walked 63 is that of the 63 before it was walked.
use Rattle.std.specs.Prelude.{Option, None, Some}
use Prim.Native.Nat.{ℕ, ◌+◌}
use native.Mathlib.Omega.{arith}
use mathlib.Core.Path.{◌≡◌, refl, sym, ap, subst, ◌∙◌}
use mathlib.Core.Logic.{◌⊎◌, inl, inr}
use mathlib.Core.Bool.{Bool, true, false, cond}
use mathlib.Core.List.{List}
use lib.Dec.{eqb}
use borrow.Author.Tests.{eqb-true, eqb-false, eq-eqb, ne_eqb}
use Rattle.tree.specs.Layout.{value_of}
use Rattle.tree.specs.Tree.{Field, field, Fields, none, more, tag_of, fixed_of, size}
use Rattle.inputs.specs.Outcome.{Outcome, done, refused, onto}
use Rattle.extraction_rules.specs.State.{Record, State, first, Setting}
use Rattle.extraction_rules.specs.First.{imported_as, on_ident, used_record, module_for, use_property, use_from, use_imported, usage}
use Rattle.extraction_rules.specs.Walk.{walk, walk_all, walk_member}
use Rattle.extraction_rules.proofs.OutcomeLaws.{After, after-bind, after-weaken}
use Rattle.extraction_rules.proofs.AlikeLaws.{Two, Regular, RegularAll, walk-alike, alike-tag}
use Rattle.expressions.proofs.IdentLaws.{walk-60, Membered, member-walk}

-- ---- The member

-- a member of the same tag, and the same if it is a name
abbrev Like : Field → Field → Type 0
Like q r = (tag_of r ≡ tag_of q) × (tag_of q ≡ 0x70 → r ≡ q)

property-like : (n : Option ℕ) (i : List ℕ) (q r : Field) (at p : ℕ) (s : State) → Like q r → (tag_of q ≡ 0x70) ⊎ (tag_of q ≡ 0x72) →
    use_property n i r at p s ≡ use_property n i q at p s
unfolding use_property
property-like None i q r at p s l t = refl
property-like (Some n) i q r at p s l (inl k) = ap (λ (f : Field). use_property (Some n) i f at p s) (l.1 k)
property-like (Some n) i q r at p s l (inr k) = rw (eq-eqb (tag_of r) 0x72 (l.0 ∙ k), eq-eqb (tag_of q) 0x72 k) refl

from-like : (o : Option Record) (e : Setting) (i : List ℕ) (q r : Field) (at p : ℕ) (s : State) → Like q r → (tag_of q ≡ 0x70) ⊎ (tag_of q ≡ 0x72) →
    use_from o e i r at p s ≡ use_from o e i q at p s
unfolding use_from
from-like None e i q r at p s l t = refl
from-like (Some c) e i q r at p s l t = go (module_for e (value_of c.literal) p s)
  where
    go : (m : Outcome (Option ℕ × State)) → onto m (λ a. use_property a.0 i r at p a.1) ≡ onto m (λ a. use_property a.0 i q at p a.1)
    go (done a) = property-like a.0 i q r at p a.1 l t
    go (refused n k) = refl

imported-like : (o : Option (List ℕ)) (e : Setting) (i : List ℕ) (q r : Field) (at p : ℕ) (s : State) → Like q r → (tag_of q ≡ 0x70) ⊎ ((tag_of q ≡ 0x71) ⊎ (tag_of q ≡ 0x72)) →
    use_imported o e i r at p s ≡ use_imported o e i q at p s
unfolding use_imported
imported-like None e i q r at p s l t = refl
imported-like (Some c) e i q r at p s l (inl k) = ap (λ (f : Field). use_imported (Some c) e i f at p s) (l.1 k)
imported-like (Some c) e i q r at p s l (inr (inl k)) = rw (eq-eqb (tag_of r) 0x71 (l.0 ∙ k), eq-eqb (tag_of q) 0x71 k) refl
imported-like (Some c) e i q r at p s l (inr (inr k)) =
    let a : eqb (tag_of r) 0x71 ≡ false = ne_eqb (tag_of r) 0x71 (λ z. let v : ◌≡◌ {A = ℕ} 0x72 0x71 = sym k ∙ sym l.0 ∙ z in omega arith) in
    let b : eqb (tag_of q) 0x71 ≡ false = ne_eqb (tag_of q) 0x71 (λ z. let v : ◌≡◌ {A = ℕ} 0x72 0x71 = sym k ∙ z in omega arith) in
    rw (a, b) (from-like (used_record e.own i s.collected) e i q r at p s l (inr k))

-- ---- The object

-- an object of the same tag, and the same if it is a 60
abbrev Alike60 : Field → Field → Type 0
Alike60 o r = (tag_of r ≡ tag_of o) × (tag_of o ≡ 0x60 → r ≡ o)

usage-like : (e : Setting) (x : List ℕ) (o o' q q' : Field) (p : ℕ) (u : State) → Alike60 o o' → Like q q' → (tag_of q ≡ 0x70) ⊎ ((tag_of q ≡ 0x71) ⊎ (tag_of q ≡ 0x72)) →
    usage (on_ident (field 0x63 x (more o' (more q' none)))) e p u ≡ usage (on_ident (field 0x63 x (more o (more q none)))) e p u
unfolding on_ident usage
usage-like e x o o' q q' p u a l t = go (eqb (tag_of o) 0x60) refl
  where
    go : (b : Bool) → eqb (tag_of o) 0x60 ≡ b →
        usage (cond {A = Option (Field × Field)} (eqb (tag_of o') 0x60) (Some (o', q')) None) e p u ≡ usage (cond {A = Option (Field × Field)} (eqb (tag_of o) 0x60) (Some (o, q)) None) e p u
    go true k =
        let z = a.1 (eqb-true (tag_of o) 0x60 k) in
        rw (z, k) (imported-like (imported_as (fixed_of o) u.imported) e (fixed_of o) q q' (p + 3 + size o) p u l t)
    go false k = rw (ap (λ (n : ℕ). eqb n 0x60) a.0 ∙ k, k) refl

module _ (e : Setting) (one : e.pass ≡ first) where
  object-like : (o : Field) (p : ℕ) (s : State) → Regular o → After (walk o e true p s) (λ r u. Alike60 o r)
  object-like (field t x cs) p s w = go (eqb t 0x60) refl
    where
      go : (b : Bool) → eqb t 0x60 ≡ b → After (walk (field t x cs) e true p s) (λ r u. Alike60 (field t x cs) r)
      go true k =
          let z : field 0x60 x none ≡ field t x cs = cc (eqb-true t 0x60 k, w.0.ident_bare (eqb-true t 0x60 k)) in
          subst (λ (f : Field). After (walk f e true p s) (λ r u. Alike60 f r)) z
          (after-weaken (walk (field 0x60 x none) e true p s) _ (λ r u. Alike60 (field 0x60 x none) r) (λ r u h. (ap tag_of h.0, λ _. h.0)) (walk-60 e x true p s))
      go false k =
          after-weaken (walk (field t x cs) e true p s) _ (λ r u. Alike60 (field t x cs) r) (λ r u h. (alike-tag (field t x cs) r h, λ v. absurd (eqb-false t 0x60 k v)))
          (walk-alike e one (field t x cs) true p s w)

  two-walked : (x : List ℕ) (o q : Field) (at p : ℕ) (s : State) → ((tag_of q ≡ 0x70) ⊎ ((tag_of q ≡ 0x71) ⊎ (tag_of q ≡ 0x72))) → RegularAll (more o (more q none)) →
      After (walk_member (more o (more q none)) e p s) (λ ds v. (u : State) → usage (on_ident (field 0x63 x ds)) e at u ≡ usage (on_ident (field 0x63 x (more o (more q none)))) e at u)
  unfolding walk
  two-walked x o q at p s t w =
      after-bind (walk o e true p s) _ (λ r u. Alike60 o r) _ (object-like o p s w.0) λ o' s1 a.
      after-bind (walk_all (more q none) e false (p + size o) s1) _ (λ qs v. (q' : Field) × (qs ≡ more q' none) × Membered e q s1 q' v) _
      (after-bind (walk q e false (p + size o) s1) _ (Membered e q s1) _ (member-walk e q (p + size o) s1 t w.1.0) λ q' v m. (q', refl, m)) λ qs v m.
      λ u. ap (λ (l : Fields). usage (on_ident (field 0x63 x (more o' l))) e at u) m.1 ∙ usage-like e x o o' q m.0 at u a (m.2.0, λ k. (m.2.1 k).0) t

  pub usage-walked : (x : List ℕ) (cs : Fields) (at p : ℕ) (s : State) → Two cs → RegularAll cs →
      After (walk_member cs e p s) (λ ds v. (u : State) → usage (on_ident (field 0x63 x ds)) e at u ≡ usage (on_ident (field 0x63 x cs)) e at u)
  usage-walked x cs at p s m w =
      subst
      (λ (l : Fields). After (walk_member l e p s)
      (λ ds v. (u : State) → usage (on_ident (field 0x63 x ds)) e at u ≡ usage (on_ident (field 0x63 x l)) e at u)) (sym m.2)
      (two-walked x m.0 m.1 at p s m.3 (subst RegularAll m.2 w))
