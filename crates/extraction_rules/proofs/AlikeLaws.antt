-- What the first pass does to a tree behind the imports: tags and shape stay, and bytes change only behind a 23's original and in
-- callees named require.
use Rattle.std.specs.Prelude.{None, Some}
use Prim.Native.Nat.{ℕ, ◌+◌, ◌≤◌}
use mathlib.Core.Path.{◌≡◌, refl, sym, ap, subst, ◌∙◌}
use mathlib.Core.Logic.{◌⊎◌, inl, inr}
use mathlib.Core.Bool.{Bool, true, false, cond, ◌&&◌, ◌||◌}
use mathlib.Core.List.{List, [], ◌∷◌, ◌++◌}
use native.Mathlib.Omega.{arith}
use lib.Dec.{eqb}
use lib.ListN.{length, take, get_or, length-take}
use lib.Seq.{take_at, length-take-le}
use Rattle.scope.specs.Id.{require_atom, export}
use Rattle.tree.specs.Layout.{same, two, four, id_at, name_of}
use Rattle.tree.specs.Tree.{Field, field, Fields, none, more, tag_of, fixed_of, parts_of, size}
use Rattle.tree.proofs.LayoutLaws.{same-equal}
use Rattle.inputs.specs.Outcome.{Outcome, done, onto}
use Rattle.inputs.specs.Fields.{has, sole, inside}
use Rattle.extraction_rules.specs.State.{State, first, Setting, refuse}
use Rattle.extraction_rules.specs.First.{id_from, argument, not_external, required, with_callee, export_specifier, declarator}
use Rattle.extraction_rules.specs.Walk.{Rule, import, export as exporting, declare, express, nothing as plain, rule_for, after, Parts, unwalked}
use Rattle.extraction_rules.specs.Walk.{member, super, assignment, children, parts_for, enter, walk, walk_all, walk_member, walk_assignment}
use Rattle.extraction_rules.specs.Walk.{walk_target}
use Rattle.extraction_rules.proofs.OutcomeLaws.{After, after-bind, after-if}
use Rattle.extraction_rules.proofs.ValueLaws.{required-call, first-expression, declarator-value}
use Rattle.extraction_rules.proofs.TagLaws.{rule-import, rule-export}
use Rattle.extraction_rules.proofs.WalkLaws.{walk_parts}

-- ---- Trees behind the imports

-- an object and a member: 70, 71 or 72
abbrev pub Two : Fields → Type 0
Two cs = (o q : Field) × (cs ≡ more o (more q none)) × ((tag_of q ≡ 0x70) ⊎ ((tag_of q ≡ 0x71) ⊎ (tag_of q ≡ 0x72)))

-- what the grammar says there of a field, as far as the rules lean on it
pub record RegularAt (t : ℕ) (x : List ℕ) (cs : Fields) : Type 0 where
  -- no 10
  pub no_import : t ≡ 0x10 → ⊥
  -- no 20, 21, 22
  pub no_local : (t ≡ 0x20 → ⊥) × (t ≡ 0x21 → ⊥) × (t ≡ 0x22 → ⊥)
  -- a 23 has no parts; its original is a whole id, or a string
  pub export_bare : t ≡ 0x23 → cs ≡ none
  pub export_kind : t ≡ 0x23 → ((get_or x 0 0 ≡ 1) × (7 ≤ length x)) ⊎ (get_or x 0 0 ≡ 2)
  -- a 40 has no parts
  pub empty_bare : t ≡ 0x40 → cs ≡ none
  -- a 60 is an id without parts
  pub ident_bare : t ≡ 0x60 → cs ≡ none
  pub ident_whole : t ≡ 0x60 → id_at x 0 ≡ x
  -- a 63 has an object and a member, a 70 is an atom without parts
  pub member_two : t ≡ 0x63 → Two cs
  pub name_bare : t ≡ 0x70 → cs ≡ none
  pub name_two : t ≡ 0x70 → length x ≡ 2
  -- the target of a 66 is no 60 and no 23
  pub target : t ≡ 0x66 → (f : Field) (fs : Fields) → cs ≡ more f fs → (tag_of f ≡ 0x60 → ⊥) × (tag_of f ≡ 0x23 → ⊥)

abbrev mutual
  pub Regular : Field → Type 0
  Regular (field t x cs) = RegularAt t x cs × RegularAll cs

  pub RegularAll : Fields → Type 0
  RegularAll none = Unit {0}
  RegularAll (more f fs) = Regular f × RegularAll fs

-- ---- Alike trees

-- the fixed bytes of a field with the tag t, before and after
pub data SameBytes (t : ℕ) (x y : List ℕ) : Type 0 where
  equal : y ≡ x → SameBytes t x y
  behind : t ≡ 0x23 → take 7 y ≡ take 7 x → SameBytes t x y
  callee : t ≡ 0x60 → name_of x ≡ two require_atom → (n : ℕ) → y ≡ two require_atom ++ four (export n) → SameBytes t x y

abbrev mutual
  pub Alike : Field → Field → Type 0
  Alike (field t x cs) g = (tag_of g ≡ t) × SameBytes t x (fixed_of g) × AlikeAll cs (parts_of g)

  pub AlikeAll : Fields → Fields → Type 0
  AlikeAll none gs = gs ≡ none
  AlikeAll (more f fs) gs = (g : Field) × (hs : Fields) × (gs ≡ more g hs) × Alike f g × AlikeAll fs hs

mutual
  pub alike-refl : (f : Field) → Alike f f
  alike-refl (field t x cs) = (refl, equal refl, alike_all-refl cs)

  pub alike_all-refl : (fs : Fields) → AlikeAll fs fs
  alike_all-refl none = refl
  alike_all-refl (more f fs) = (f, fs, refl, alike-refl f, alike_all-refl fs)

-- the parts of alike fields
pub alike-more : (f : Field) (fs : Fields) (g : Field) (gs : Fields) → AlikeAll (more f fs) (more g gs) → Alike f g × AlikeAll fs gs
alike-more f fs g gs h =
    let p : h.0 ≡ g = cc h.2 in
    let q : h.1 ≡ gs = cc h.2 in
    (subst (λ (k : Field). Alike f k) p h.3, subst (λ (k : Fields). AlikeAll fs k) q h.4)

pub alike-none : {A : Type 0} (g : Field) (gs : Fields) → AlikeAll none (more g gs) → A
alike-none g gs h = absurd (let z : ◌≡◌ {A = ℕ} 0 1 = cc in omega arith)

-- of three fields
pub same-trans : (t : ℕ) (x y z : List ℕ) → SameBytes t x y → SameBytes t y z → SameBytes t x z
same-trans t x y z (equal q) (equal r) = equal (r ∙ q)
same-trans t x y z (equal q) (behind k r) = behind k (r ∙ ap (take 7) q)
same-trans t x y z (equal q) (callee k r n v) = callee k (ap name_of (sym q) ∙ r) n v
same-trans t x y z (behind j q) (equal r) = behind j (ap (take 7) r ∙ q)
same-trans t x y z (behind j q) (behind k r) = behind j (r ∙ q)
same-trans t x y z (behind j q) (callee k r n v) = absurd (let w : 0x23 ≡ 0x60 = sym j ∙ k in omega arith)
same-trans t x y z (callee j q m u) (equal r) = callee j q m (r ∙ u)
same-trans t x y z (callee j q m u) (behind k r) = absurd (let w : 0x60 ≡ 0x23 = sym j ∙ k in omega arith)
same-trans t x y z (callee j q m u) (callee k r n v) = callee j q n v

-- ---- A callee in another context

pub required-named : (e : Setting) (t : ℕ) (x : List ℕ) (c : Field) (gs : Fields) (l : List ℕ) → required e (field t x (more c gs)) ≡ Some l → name_of (fixed_of c) ≡ two require_atom
unfolding required
required-named e t x c gs l q = go (e.config.require && eqb t 0x65 && has 0x60 c) (same (name_of (fixed_of c)) (two require_atom)) refl q
  where
    go : (a b : Bool) → same (name_of (fixed_of c)) (two require_atom) ≡ b → cond (a && b) (not_external e (argument (sole gs))) None ≡ Some l → name_of (fixed_of c) ≡ two require_atom
    go true true w q = same-equal (name_of (fixed_of c)) (two require_atom) w
    go true false w q = absurd (let z : ◌≡◌ {A = ℕ} 0 1 = cc in omega arith)
    go false b w q = absurd (let z : ◌≡◌ {A = ℕ} 0 1 = cc in omega arith)

pub callee-bytes : (t : ℕ) (x y : List ℕ) (n : ℕ) → SameBytes t x y → t ≡ 0x60 → name_of y ≡ two require_atom → SameBytes t x (id_from (name_of y) (export n))
callee-bytes t x y n (equal q) k h = callee k (ap name_of (sym q) ∙ h) n (ap (λ (v : List ℕ). v ++ four (export n)) h)
callee-bytes t x y n (behind q r) k h = absurd (let w : 0x23 ≡ 0x60 = sym q ∙ k in omega arith)
callee-bytes t x y n (callee a b m c) k h = callee a b n (ap (λ (v : List ℕ). v ++ four (export n)) h)

pub alike-callee : (e : Setting) (n : ℕ) (f g : Field) (l : List ℕ) → required e g ≡ Some l → Alike f g → Alike f (with_callee n g)
unfolding with_callee
alike-callee e n f (field t x none) l q h = h
alike-callee e n (field k y none) (field t x (more c gs)) l q h = alike-none c gs h.2
alike-callee e n (field k y (more (field m z ds) fs)) (field t x (more c gs)) l q h =
    let r = required-call e t x c gs l q in
    let w = required-named e t x c gs l q in
    let a = alike-more (field m z ds) fs c gs h.2 in
    (h.0, h.1, (_, gs, refl, (a.0.0, callee-bytes m z (fixed_of c) n a.0.1 (sym a.0.0 ∙ r.1) w, a.0.2), a.1))

-- ---- The walk

-- 23: what stands in front of the exported name stays
pub export-front : (x y : List ℕ) → 7 ≤ length x → take 7 (take 7 x ++ y) ≡ take 7 x
export-front x y h = take_at (take 7 x) y 7 (length-take-le 7 x h)

module _ (e : Setting) (one : e.pass ≡ first) where
  export-alike : (x : List ℕ) (p : ℕ) (s : State) → ((get_or x 0 0 ≡ 1) × (7 ≤ length x)) ⊎ (get_or x 0 0 ≡ 2) → After (export_specifier e x p s) (λ g s. Alike (field 0x23 x none) g)
  unfolding export_specifier
  export-alike x p s (inl k) =
      after-if (eqb (get_or x 0 0) 2 || eqb (get_or x 7 0) 2) (refuse 6 p) _ s (λ g s. Alike (field 0x23 x none) g) (λ _. tt)
      (λ _. (refl, behind refl (export-front x _ k.1), refl))
  export-alike x p s (inr k) = rw k tt

  declarator-alike : (cs ds : Fields) (p : ℕ) (s : State) → AlikeAll cs ds → After (declarator e ds p s) (λ gs s. AlikeAll cs gs)
  declarator-alike cs ds p s h = declarator-value e (AlikeAll cs) ds p s h (λ q i rest n l w r. go cs q i rest n l r (subst (AlikeAll cs) w h))
    where
      go : (cs : Fields) (q i : Field) (rest : Fields) (n : ℕ) (l : List ℕ) → required e i ≡ Some l → AlikeAll cs (more q (more i rest)) →
          AlikeAll cs (more q (more (with_callee n i) rest))
      go none q i rest n l r h = alike-none q (more i rest) h
      go (more c none) q i rest n l r h = alike-none i rest (alike-more c none q (more i rest) h).1
      go (more c (more d fs)) q i rest n l r h =
          let a = alike-more c (more d fs) q (more i rest) h in
          let b = alike-more d fs i rest a.1 in
          (q, more (with_callee n i) rest, refl, a.0, (with_callee n i, rest, refl, alike-callee e n d i l r b.0, b.1))

  rule-alike : (r : Rule) (t : ℕ) (x : List ℕ) (cs ds : Fields) (object : Bool) (p : ℕ) (s : State) → rule_for t ≡ r → RegularAt t x cs → AlikeAll cs ds →
      After (after r e t x ds object p s) (λ g s. Alike (field t x cs) g)
  unfolding after
  rule-alike import t x cs ds object p s q w h = absurd (w.no_import (rule-import t q))
  rule-alike exporting t x cs ds object p s q w h = go t cs (rule-export t q) (w.export_bare (rule-export t q)) (w.export_kind (rule-export t q))
    where
      go : (t : ℕ) (cs : Fields) → t ≡ 0x23 → cs ≡ none → ((get_or x 0 0 ≡ 1) × (7 ≤ length x)) ⊎ (get_or x 0 0 ≡ 2) →
          After (export_specifier e x p s) (λ g s. Alike (field t x cs) g)
      go t cs q b k = rw (q, b) (export-alike x p s k)
  rule-alike declare t x cs ds object p s q w h =
      after-bind (declarator e ds p s) _ (λ gs s. AlikeAll cs gs) (λ g s. Alike (field t x cs) g) (declarator-alike cs ds p s h) λ gs s k. (refl, equal refl, k)
  rule-alike express t x cs ds object p s q w h =
      first-expression e (Alike (field t x cs)) e.pass one (field t x ds) object p s
      ((refl, equal refl, h), λ n l r. alike-callee e n (field t x cs) (field t x ds) l r (refl, equal refl, h))
  rule-alike plain t x cs ds object p s q w h = (refl, equal refl, h)

  -- the induction's hypotheses for the parts of a field
  abbrev PartsAlike : Fields → (ℕ → State → Outcome (Fields × State)) → Type 0
  PartsAlike cs m = (p : ℕ) (s : State) → After (m p s) (λ ds s. AlikeAll cs ds)

  pub parts-alike : (v : Parts) (cs : Fields) (object : Bool) (p : ℕ) (s : State) → ((b : Bool) → PartsAlike cs (walk_all cs e b)) →
      PartsAlike cs (walk_member cs e) → PartsAlike cs (walk_assignment cs e object) →
      After (walk_parts v cs e object p s) (λ ds s. AlikeAll cs ds)
  parts-alike unwalked cs object p s all mem asg = alike_all-refl cs
  parts-alike member cs object p s all mem asg = mem p s
  parts-alike super cs object p s all mem asg = all false p s
  parts-alike assignment cs object p s all mem asg = asg p s
  parts-alike children cs object p s all mem asg = all object p s

  both-alike : (f : Field) (fs : Fields) (m : Outcome (Field × State)) (k : State → Outcome (Fields × State)) → After m (λ g s. Alike f g) →
      ((s : State) → After (k s) (λ gs s. AlikeAll fs gs)) →
      After (onto m (λ r. onto (k r.1) (λ q. done (more r.0 q.0, q.1)))) (λ gs s. AlikeAll (more f fs) gs)
  both-alike f fs m k h w =
      after-bind m _ (λ g s. Alike f g) (λ gs s. AlikeAll (more f fs) gs) h λ g s a.
      after-bind (k s) _ (λ gs s. AlikeAll fs gs) (λ gs s. AlikeAll (more f fs) gs) (w s) λ gs s b. (g, gs, refl, a, b)

  mutual
    unfolding walk

    pub walk-alike : (f : Field) (object : Bool) (p : ℕ) (s : State) → Regular f → After (walk f e object p s) (λ g s. Alike f g)
    walk-alike (field t x cs) object p s w =
        after-bind (walk_parts (parts_for t) cs e object (inside p x) (enter t s)) _ (λ ds s. AlikeAll cs ds) (λ g s. Alike (field t x cs) g)
        (parts-alike (parts_for t) cs object (inside p x) (enter t s) (λ b p s. walk_all-alike cs b p s w.1) (λ p s. walk_member-alike cs p s w.1)
        (λ p s. walk_assignment-alike cs object p s w.1)) λ ds s h.
        rule-alike (rule_for t) t x cs ds object p s refl w.0 h

    pub walk_all-alike : (fs : Fields) (object : Bool) (p : ℕ) (s : State) → RegularAll fs → After (walk_all fs e object p s) (λ gs s. AlikeAll fs gs)
    walk_all-alike none object p s w = refl
    walk_all-alike (more f fs) object p s w =
        both-alike f fs (walk f e object p s) (walk_all fs e object (p + size f)) (walk-alike f object p s w.0)
        (λ s. walk_all-alike fs object (p + size f) s w.1)

    pub walk_member-alike : (fs : Fields) (p : ℕ) (s : State) → RegularAll fs → After (walk_member fs e p s) (λ gs s. AlikeAll fs gs)
    walk_member-alike none p s w = refl
    walk_member-alike (more f fs) p s w = both-alike f fs (walk f e true p s) (walk_all fs e false (p + size f)) (walk-alike f true p s w.0) (λ s. walk_all-alike fs false (p + size f) s w.1)

    pub walk_assignment-alike : (fs : Fields) (object : Bool) (p : ℕ) (s : State) → RegularAll fs → After (walk_assignment fs e object p s) (λ gs s. AlikeAll fs gs)
    walk_assignment-alike none object p s w = refl
    walk_assignment-alike (more f fs) object p s w =
        both-alike f fs (walk_target f e p s) (walk_all fs e object (p + size f)) (walk_target-alike f p s w.0)
        (λ s. walk_all-alike fs object (p + size f) s w.1)

    pub walk_target-alike : (f : Field) (p : ℕ) (s : State) → Regular f → After (walk_target f e p s) (λ g s. Alike f g)
    walk_target-alike (field t x cs) p s w =
        after-bind (walk_member cs e (inside p x) s) _ (λ ds s. AlikeAll cs ds) (λ g s. Alike (field t x cs) g) (walk_member-alike cs (inside p x) s w.1) λ ds s h. (refl, equal refl, h)

-- ---- Alike trees are shaped alike

pub alike_all-none : (cs ds : Fields) → AlikeAll cs ds → cs ≡ none → ds ≡ none
alike_all-none none ds h q = h
alike_all-none (more f fs) ds h q = absurd (let z : ◌≡◌ {A = ℕ} 0 1 = cc in omega arith)

pub alike-tag : (f g : Field) → Alike f g → tag_of g ≡ tag_of f
alike-tag (field t x cs) g h = h.0

pub alike-two : (cs ds : Fields) → AlikeAll cs ds → Two cs → Two ds
alike-two none ds h w = absurd (let e = w.2 in let z : ◌≡◌ {A = ℕ} 0 1 = cc in omega arith)
alike-two (more o none) ds h w = absurd (let e = w.2 in let z : ◌≡◌ {A = ℕ} 0 1 = cc in omega arith)
alike-two (more o (more q none)) ds h w =
    let e : w.1 ≡ q = cc w.2 in (
      h.0,
      h.4.0,
      h.2
          ∙ ap (more h.0) (h.4.2 ∙ ap (more h.4.0) h.4.4),
      go h.4.0 (alike-tag q h.4.0 h.4.3)
          (subst (λ (k : Field). (tag_of k ≡ 0x70) ⊎ ((tag_of k ≡ 0x71) ⊎ (tag_of k ≡ 0x72))) e w.3),
    )
  where
    go : (g : Field) → tag_of g ≡ tag_of q → (tag_of q ≡ 0x70) ⊎ ((tag_of q ≡ 0x71) ⊎ (tag_of q ≡ 0x72)) → (tag_of g ≡ 0x70) ⊎ ((tag_of g ≡ 0x71) ⊎ (tag_of g ≡ 0x72))
    go g r (inl v) = inl (r ∙ v)
    go g r (inr (inl v)) = inr (inl (r ∙ v))
    go g r (inr (inr v)) = inr (inr (r ∙ v))
alike-two (more o (more q (more r rs))) ds h w = absurd (let e = w.2 in let z : ◌≡◌ {A = ℕ} 0 1 = cc in omega arith)

alike-target : (cs ds : Fields) → AlikeAll cs ds → ((f : Field) (fs : Fields) → cs ≡ more f fs → (tag_of f ≡ 0x60 → ⊥) × (tag_of f ≡ 0x23 → ⊥)) →
    (f : Field) (fs : Fields) → ds ≡ more f fs → (tag_of f ≡ 0x60 → ⊥) × (tag_of f ≡ 0x23 → ⊥)
alike-target none ds h w f fs q = absurd (let z : ◌≡◌ {A = ℕ} 0 1 = cc in omega arith)
alike-target (more c cs) ds h w f fs q =
    let e : h.0 ≡ f = cc h.2 in
    let t : tag_of f ≡ tag_of c = ap tag_of (sym e) ∙ alike-tag c h.0 h.3 in
    let v = w c cs refl in
    (λ z. v.0 (sym t ∙ z), λ z. v.1 (sym t ∙ z))

-- the bytes of a tag that is neither 23 nor 60 stay
pub same-other : (t : ℕ) (x y : List ℕ) → SameBytes t x y → (t ≡ 0x23 → ⊥) → (t ≡ 0x60 → ⊥) → y ≡ x
same-other t x y (equal q) h k = q
same-other t x y (behind q r) h k = absurd (h q)
same-other t x y (callee q r n w) h k = absurd (k q)

pub first-byte : (x : List ℕ) → get_or x 0 0 ≡ get_or (take 7 x) 0 0
first-byte [] = refl
first-byte (a ∷ x) = refl

-- a 23's original stays
original-kind : (x y : List ℕ) → take 7 y ≡ take 7 x → ((get_or x 0 0 ≡ 1) × (7 ≤ length x)) ⊎ (get_or x 0 0 ≡ 2) →
    ((get_or y 0 0 ≡ 1) × (7 ≤ length y)) ⊎ (get_or y 0 0 ≡ 2)
original-kind x y q (inl k) =
    inl (first-byte y ∙ ap (λ (l : List ℕ). get_or l 0 0) q ∙ sym (first-byte x) ∙ k.0, let e = ap length q in let a = length-take-le 7 x k.1 in let b = length-take 7 y in omega arith)
original-kind x y q (inr k) = inr (first-byte y ∙ ap (λ (l : List ℕ). get_or l 0 0) q ∙ sym (first-byte x) ∙ k)

kind-alike : (t : ℕ) (x y : List ℕ) → SameBytes t x y → t ≡ 0x23 → ((get_or x 0 0 ≡ 1) × (7 ≤ length x)) ⊎ (get_or x 0 0 ≡ 2) →
    ((get_or y 0 0 ≡ 1) × (7 ≤ length y)) ⊎ (get_or y 0 0 ≡ 2)
kind-alike t x y (equal q) e k = rw q k
kind-alike t x y (behind _ q) e k = original-kind x y q k
kind-alike t x y (callee a b n c) e k = absurd (let w : 0x23 ≡ 0x60 = sym e ∙ a in omega arith)

whole-alike : (t : ℕ) (x y : List ℕ) → SameBytes t x y → t ≡ 0x60 → id_at x 0 ≡ x → id_at y 0 ≡ y
whole-alike t x y (equal q) e k = rw q k
whole-alike t x y (behind a q) e k = absurd (let w : 0x23 ≡ 0x60 = sym a ∙ e in omega arith)
whole-alike t x y (callee a b n c) e k = rw c refl

regular_at-alike : (t : ℕ) (x y : List ℕ) (cs ds : Fields) → SameBytes t x y → AlikeAll cs ds → RegularAt t x cs → RegularAt t y ds
regular_at-alike t x y cs ds b h w =
    record {
      no_import = w.no_import;
      no_local = w.no_local;
      export_bare = λ q. alike_all-none cs ds h (w.export_bare q);
      export_kind = λ q. kind-alike t x y b q (w.export_kind q);
      empty_bare = λ q. alike_all-none cs ds h (w.empty_bare q);
      ident_bare = λ q. alike_all-none cs ds h (w.ident_bare q);
      ident_whole = λ q. whole-alike t x y b q (w.ident_whole q);
      member_two = λ q. alike-two cs ds h (w.member_two q);
      name_bare = λ q. alike_all-none cs ds h (w.name_bare q);
      name_two = λ q. ap length (same-other t x y b (λ z. let v : 0x70 ≡ 0x23 = sym q ∙ z in omega arith) (λ z. let v : 0x70 ≡ 0x60 = sym q ∙ z in omega arith)) ∙ w.name_two q;
      target = λ q. alike-target cs ds h (w.target q);
    }

mutual
  pub regular-alike : (f g : Field) → Alike f g → Regular f → Regular g
  regular-alike (field t x cs) (field k y ds) h w = (subst (λ (m : ℕ). RegularAt m y ds) (sym h.0) (regular_at-alike t x y cs ds h.1 h.2 w.0), regular_all-alike cs ds h.2 w.1)

  pub regular_all-alike : (fs gs : Fields) → AlikeAll fs gs → RegularAll fs → RegularAll gs
  regular_all-alike none none h w = tt
  regular_all-alike none (more g gs) h w = alike-none g gs h
  regular_all-alike (more f fs) none h w = absurd (let e = h.2 in let z : ◌≡◌ {A = ℕ} 0 1 = cc in omega arith)
  regular_all-alike (more f fs) (more g gs) h w = let a = alike-more f fs g gs h in (regular-alike f g a.0 w.0, regular_all-alike fs gs a.1 w.1)
