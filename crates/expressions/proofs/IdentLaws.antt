-- Which id a walked expression has is told before it is walked, and in the second pass walking such an expression leaves the state alone.
use Rattle.std.specs.Prelude.{Option, None, Some}
use Prim.Native.Nat.{ℕ, ◌+◌}
use mathlib.Core.Path.{◌≡◌, refl, sym, ap, subst, ◌∙◌}
use mathlib.Core.Logic.{◌⊎◌, inl, inr}
use mathlib.Core.Bool.{Bool, true, false, cond}
use mathlib.Core.List.{List, [], ◌∷◌, ◌++◌}
use native.Mathlib.Omega.{arith}
use lib.Dec.{eqb}
use borrow.Author.Tests.{eqb-true, eqb-false, ne_eqb}
use Rattle.tree.specs.Tree.{Field, field, Fields, none, more, tag_of, fixed_of, size}
use Rattle.tree.specs.Grammar.{within}
use Rattle.inputs.specs.Outcome.{done}
use Rattle.inputs.specs.Fields.{has, inside}
use Rattle.extraction_rules.specs.State.{Usage, State, Pass, first, second, Setting}
use Rattle.extraction_rules.specs.First.{imported_as, on_ident, usage, required, require}
use Rattle.extraction_rules.specs.Second.{usages_of, as_property, rewritten}
use Rattle.extraction_rules.specs.Walk.{after_expression, rule_for, after, parts_for, walk, walk_all, walk_member}
use Rattle.extraction_rules.proofs.OutcomeLaws.{After, after-bind, after-weaken}
use Rattle.extraction_rules.proofs.AlikeLaws.{Two, RegularAt, Regular, RegularAll}
use Rattle.extraction_rules.proofs.StayLaws.{Same, expression-same, walk-same}
use Rattle.expressions.specs.After.{ident_of, as_ident, becomes, ident_after, member_after}
use Rattle.scope.proofs.Laws.{none-some}

-- ---- Fields without parts

expression-60 : (k : Pass) (e : Setting) (x : List ℕ) (object : Bool) (p : ℕ) (s : State) →
    After (after_expression k e (field 0x60 x none) object p s) (λ g s'. (g ≡ field 0x60 x none) × (k ≡ second → s' ≡ s))
unfolding after_expression on_ident usage required require rewritten
expression-60 first e x true p s = (refl, λ z. absurd (let w : ◌≡◌ {A = ℕ} 0 1 = cc in omega arith))
expression-60 first e x false p s = (refl, λ z. absurd (let w : ◌≡◌ {A = ℕ} 0 1 = cc in omega arith))
expression-60 second e x object p s = (refl, λ z. refl)

pub walk-60 : (e : Setting) (x : List ℕ) (object : Bool) (p : ℕ) (s : State) →
    After (walk (field 0x60 x none) e object p s) (λ g s'. (g ≡ field 0x60 x none) × (e.pass ≡ second → s' ≡ s))
unfolding walk parts_for rule_for within after
walk-60 e x object p s = expression-60 e.pass e x object p s

pub walk-70 : (e : Setting) (x : List ℕ) (object : Bool) (p : ℕ) (s : State) → walk (field 0x70 x none) e object p s ≡ done (field 0x70 x none, s)
unfolding walk parts_for rule_for within after
walk-70 e x object p s = refl

-- ---- The id

module _ (e : Setting) where
  -- the id that f is to have is that of g; in the second pass g is then no more than this id, and the state is as it was
  abbrev pub Became : Field → State → Field → State → Type 0
  Became f s g s' = (ident_after f e.pass s ≡ ident_of g) × (e.pass ≡ second → (i : List ℕ) → ident_of g ≡ Some i → (g ≡ field 0x60 i none) × (s' ≡ s))

  other-ident : (g : Field) → (tag_of g ≡ 0x60 → ⊥) → ident_of g ≡ None
  unfolding ident_of
  other-ident (field t x cs) h = ap (λ (b : Bool). cond b (Some x) None) (ne_eqb t 0x60 h)

  -- neither 63 nor 60
  became-other : (t : ℕ) (x : List ℕ) (cs : Fields) (g : Field) (s s' : State) → (t ≡ 0x63 → ⊥) → (t ≡ 0x60 → ⊥) → tag_of g ≡ t → Became (field t x cs) s g s'
  unfolding ident_after
  became-other t x cs g s s' h k q =
      let n = other-ident g (λ z. k (sym q ∙ z)) in (
        ap (λ (b : Bool). cond b (member_after cs e.pass s) (cond (eqb t 0x60) (Some x) None)) (ne_eqb t 0x63 h)
            ∙ ap (λ (b : Bool). cond b (Some x) None) (ne_eqb t 0x60 k) ∙ sym n,
        λ _ i w. none-some (sym n ∙ w),
      )

  became-60 : (x : List ℕ) (g : Field) (s s' : State) → (g ≡ field 0x60 x none) × (e.pass ≡ second → s' ≡ s) → Became (field 0x60 x none) s g s'
  unfolding ident_after ident_of
  became-60 x g s s' h =
      (ap ident_of (sym h.0), λ two i w. (h.0 ∙ ap (λ (y : List ℕ). field 0x60 y none) (let v : Some x ≡ Some i = ap ident_of (sym h.0) ∙ w in cc), h.1 two))

  other-walk : (t : ℕ) (x : List ℕ) (cs : Fields) (object : Bool) (p : ℕ) (s : State) → eqb t 0x63 ≡ false → RegularAt t x cs →
      After (walk (field t x cs) e object p s) (Became (field t x cs) s)
  other-walk t x cs object p s h w = go (eqb t 0x60) refl
    where
      go : (b : Bool) → eqb t 0x60 ≡ b → After (walk (field t x cs) e object p s) (Became (field t x cs) s)
      go true k =
          let z : field 0x60 x none ≡ field t x cs = cc (eqb-true t 0x60 k, w.ident_bare (eqb-true t 0x60 k)) in
          subst (λ (f : Field). After (walk f e object p s) (Became f s)) z
          (after-weaken (walk (field 0x60 x none) e object p s) _ (Became (field 0x60 x none) s) (λ g s'. became-60 x g s s') (walk-60 e x object p s))
      go false k =
          after-weaken (walk (field t x cs) e object p s) _ (Became (field t x cs) s)
          (λ g s' q. became-other t x cs g s s' (eqb-false t 0x63 h) (eqb-false t 0x60 k) q.0) (walk-same e t x cs object p s w.no_import (eqb-false t 0x63 h))

  -- ---- A 63

  -- its member, walked: a 70 stays as it is
  abbrev pub Membered : Field → State → Field → State → Type 0
  Membered q s r s' = (tag_of r ≡ tag_of q) × (tag_of q ≡ 0x70 → (r ≡ q) × (s' ≡ s))

  pub member-walk : (q : Field) (p : ℕ) (s : State) → ((tag_of q ≡ 0x70) ⊎ ((tag_of q ≡ 0x71) ⊎ (tag_of q ≡ 0x72))) → Regular q → After (walk q e false p s) (Membered q s)
  member-walk (field t x cs) p s (inl k) w =
      let z : field 0x70 x none ≡ field t x cs = cc (k, w.0.name_bare k) in
      subst (λ (f : Field). After (walk f e false p s) (Membered f s)) z (rw (walk-70 e x false p s) (refl, λ _. (refl, refl)))
  member-walk (field t x cs) p s (inr k) w =
      after-weaken (walk (field t x cs) e false p s) (λ r s'. Same t x r) (Membered (field t x cs) s) (λ r s' h. (h.0, λ z. no k z))
      (walk-same e t x cs false p s w.0.no_import (λ z. no63 k z))
    where
      no : {A : Type 0} → ((t ≡ 0x71) ⊎ (t ≡ 0x72)) → t ≡ 0x70 → A
      no (inl k) z = absurd (let v : ◌≡◌ {A = ℕ} 0x71 0x70 = sym k ∙ z in omega arith)
      no (inr k) z = absurd (let v : ◌≡◌ {A = ℕ} 0x72 0x70 = sym k ∙ z in omega arith)

      no63 : ((t ≡ 0x71) ⊎ (t ≡ 0x72)) → t ≡ 0x63 → ⊥
      no63 (inl k) z = let v : ◌≡◌ {A = ℕ} 0x71 0x63 = sym k ∙ z in omega arith
      no63 (inr k) z = let v : ◌≡◌ {A = ℕ} 0x72 0x63 = sym k ∙ z in omega arith

  -- rewriting a 63 with this member
  pub as-ident : (us : List Usage) (c : Option (List ℕ)) (q f : Field) → tag_of f ≡ 0x63 →
      (as_ident us c q ≡ ident_of (as_property us c q f)) × ((i : List ℕ) → ident_of (as_property us c q f) ≡ Some i → as_property us c q f ≡ field 0x60 i none)
  unfolding as_ident as_property ident_of
  as-ident [] c q f t = let n = other-ident f (λ z. let v : ◌≡◌ {A = ℕ} 0x63 0x60 = sym t ∙ z in omega arith) in (sym n, λ i w. none-some (sym n ∙ w))
  as-ident (u ∷ us) None q f t = let n = other-ident f (λ z. let v : ◌≡◌ {A = ℕ} 0x63 0x60 = sym t ∙ z in omega arith) in (sym n, λ i w. none-some (sym n ∙ w))
  as-ident (u ∷ us) (Some c) q f t = go (has 0x70 q)
    where
      rewrote : (i : List ℕ) → ident_of (field 0x60 (fixed_of q ++ c) none) ≡ Some i → field 0x60 (fixed_of q ++ c) none ≡ field 0x60 i none
      rewrote i w = let v : fixed_of q ++ c ≡ i = cc in ap (λ (y : List ℕ). field 0x60 y none) v

      went : Some (fixed_of q ++ c) ≡ ident_of (field 0x60 (fixed_of q ++ c) none)
      went = refl

      go : (b : Bool) → (cond b (Some (fixed_of q ++ c)) None ≡ ident_of (cond b (field 0x60 (fixed_of q ++ c) none) f)) ×
          ((i : List ℕ) → ident_of (cond b (field 0x60 (fixed_of q ++ c) none) f) ≡ Some i → cond b (field 0x60 (fixed_of q ++ c) none) f ≡ field 0x60 i none)
      go true = (went, rewrote)
      go false = let n = other-ident f (λ z. let v : ◌≡◌ {A = ℕ} 0x63 0x60 = sym t ∙ z in omega arith) in (sym n, λ i w. none-some (sym n ∙ w))

  -- a property of what has become an id, in the state in which it has: other members are no property
  as-member : (us : List Usage) (c : Option (List ℕ)) (q r f : Field) → tag_of f ≡ 0x63 → tag_of r ≡ tag_of q → (tag_of q ≡ 0x70 → ⊥) →
      (as_ident us c q ≡ None) × (as_property us c r f ≡ f)
  unfolding as_ident as_property
  as-member [] c q r f t h k = (refl, refl)
  as-member (u ∷ us) None q r f t h k = (refl, refl)
  as-member (u ∷ us) (Some c) q r f t h k = (
    ap (λ (b : Bool). cond b (Some (fixed_of q ++ c)) None) (ne_eqb (tag_of q) 0x70 k),
    ap (λ (b : Bool). cond b (field 0x60 (fixed_of r ++ c) none) f) (ne_eqb (tag_of r) 0x70 (λ z. k (sym h ∙ z))),
  )

  first-never : (i : Option (List ℕ)) (q : Field) (s : State) → becomes first i q s ≡ None
  unfolding becomes
  first-never i q s = refl

  abbrev Rewrote : Pass → Field → Field → State → Field → State → Type 0
  Rewrote k o q s g s' = (becomes k (ident_after o k s) q s ≡ ident_of g) × (k ≡ second → (i : List ℕ) → ident_of g ≡ Some i → (g ≡ field 0x60 i none) × (s' ≡ s))

  -- the walked object is no id
  rewrote-other : (k : Pass) (o q f : Field) (s s' : State) → tag_of f ≡ 0x63 → ident_after o k s ≡ None → Rewrote k o q s f s'
  unfolding becomes
  rewrote-other first o q f s s' t h = let n = other-ident f (λ z. let v : ◌≡◌ {A = ℕ} 0x63 0x60 = sym t ∙ z in omega arith) in (sym n, λ _ i w. none-some (sym n ∙ w))
  rewrote-other second o q f s s' t h =
      let n = other-ident f (λ z. let v : ◌≡◌ {A = ℕ} 0x63 0x60 = sym t ∙ z in omega arith) in
      (ap (λ (i : Option (List ℕ)). becomes second i q s) h ∙ sym n, λ _ i w. none-some (sym n ∙ w))

  -- it is the id i
  rewrote-ident : (o q r f : Field) (i : List ℕ) (s s1 s2 : State) → tag_of f ≡ 0x63 → ident_after o second s ≡ Some i → s1 ≡ s → Membered q s1 r s2 →
      Rewrote second o q s (as_property (usages_of i s2.usages) (imported_as i s2.imported) r f) s2
  unfolding becomes
  rewrote-ident o q r f i s s1 s2 t h same m = go (eqb (tag_of q) 0x70) refl
    where
      told : becomes second (ident_after o second s) q s ≡ as_ident (usages_of i s.usages) (imported_as i s.imported) q
      told = ap (λ (j : Option (List ℕ)). becomes second j q s) h

      go : (b : Bool) → eqb (tag_of q) 0x70 ≡ b → Rewrote second o q s (as_property (usages_of i s2.usages) (imported_as i s2.imported) r f) s2
      go true k =
          let w = m.1 (eqb-true (tag_of q) 0x70 k) in
          let u : s2 ≡ s = w.1 ∙ same in
          let a = as-ident (usages_of i s.usages) (imported_as i s.imported) q f t in
          rw (u, w.0) (told ∙ a.0, λ _ j v. (a.1 j v, refl))
      go false k =
          let n = other-ident f (λ z. let v : ◌≡◌ {A = ℕ} 0x63 0x60 = sym t ∙ z in omega arith) in
          let a = (as-member (usages_of i s2.usages) (imported_as i s2.imported) q r f t m.0 (eqb-false (tag_of q) 0x70 k)).1 in
          let b = (as-member (usages_of i s.usages) (imported_as i s.imported) q r f t m.0 (eqb-false (tag_of q) 0x70 k)).0 in
          (told ∙ b ∙ sym n ∙ ap ident_of (sym a), λ _ j v. none-some (sym n ∙ ap ident_of (sym a) ∙ v))

  expression-63 : (k : Pass) → e.pass ≡ k → (x : List ℕ) (o q : Field) (o' q' : Field) (object : Bool) (p : ℕ) (s s1 s2 : State) → Became o s o' s1 → Membered q s1 q' s2 →
      After (after_expression k e (field 0x63 x (more o' (more q' none))) object p s2) (Rewrote k o q s)
  unfolding after_expression rewritten on_ident ident_of
  expression-63 first one x o q o' q' object p s s1 s2 b m =
      after-weaken (after_expression first e (field 0x63 x (more o' (more q' none))) object p s2) (λ g s'. Same 0x63 x g) (Rewrote first o q s)
      (λ g s' t. in-first g s' t.0) (expression-same first e 0x63 x (more o' (more q' none)) object p s2 (λ z. absurd (let v : ◌≡◌ {A = ℕ} 0 1 = cc in omega arith)))
    where
      in-first : (g : Field) (s' : State) → tag_of g ≡ 0x63 → Rewrote first o q s g s'
      in-first g s' t = let n = other-ident g (λ z. let v : ◌≡◌ {A = ℕ} 0x63 0x60 = sym t ∙ z in omega arith) in
          (nothing-first (ident_after o first s) ∙ sym n, λ z i w. none-some (sym n ∙ w))
        where
          nothing-first : (i : Option (List ℕ)) → becomes first i q s ≡ None
          nothing-first i = first-never i q s
  expression-63 second two x o q (field t y ds) q' object p s s1 s2 b m = go (eqb t 0x60) refl
    where
      here : ident_after o second s ≡ ident_after o e.pass s
      here = ap (λ (k : Pass). ident_after o k s) (sym two)

      go : (c : Bool) → eqb t 0x60 ≡ c →
          Rewrote second o q s (rewritten (cond c (Some (field t y ds, q')) None) (field 0x63 x (more (field t y ds) (more q' none))) s2) s2
      go true k =
          let i : cond (eqb t 0x60) (Some y) None ≡ Some y = ap (λ (c : Bool). cond c (Some y) None) k in
          rewrote-ident o q q' (field 0x63 x (more (field t y ds) (more q' none))) y s s1 s2 refl (here ∙ b.0 ∙ i) (b.1 two y i).1 m
      go false k =
          rewrote-other second o q (field 0x63 x (more (field t y ds) (more q' none))) s s2 refl
          (here ∙ b.0 ∙ ap (λ (c : Bool). cond c (Some y) None) k)

  no-two : {A : Type 0} (x : Fields) → ((o q : Field) → x ≡ more o (more q none) → ⊥) → Two x → A
  no-two x h w = absurd (h w.0 w.1 w.2)

  -- the parts of a 63
  pub parts-63 : (o q : Field) (p : ℕ) (s : State) → ((tag_of q ≡ 0x70) ⊎ ((tag_of q ≡ 0x71) ⊎ (tag_of q ≡ 0x72))) → Regular q → After (walk o e true p s) (Became o s) →
      After (walk_member (more o (more q none)) e p s)
      (λ ds s2. (o' q' : Field) × (s1 : State) × (ds ≡ more o' (more q' none)) × Became o s o' s1 × Membered q s1 q' s2)
  unfolding walk
  parts-63 o q p s t w h =
      after-bind (walk o e true p s) _ (Became o s) _ h λ o' s1 b.
      after-bind (walk_all (more q none) e false (p + size o) s1) _ (λ qs s2. (q' : Field) × (qs ≡ more q' none) × Membered q s1 q' s2) _
      (after-bind (walk q e false (p + size o) s1) _ (Membered q s1) _ (member-walk q (p + size o) s1 t w) λ q' s2 m. (q', refl, m)) λ qs s2 m.
      (o', m.0, s1, ap (more o') m.1, b, m.2)

  member-63 : (x : List ℕ) (o q : Field) (object : Bool) (p : ℕ) (s : State) → ((tag_of q ≡ 0x70) ⊎ ((tag_of q ≡ 0x71) ⊎ (tag_of q ≡ 0x72))) → Regular q →
      After (walk o e true (inside p x) s) (Became o s) →
      After (walk (field 0x63 x (more o (more q none))) e object p s) (Became (field 0x63 x (more o (more q none))) s)
  unfolding walk parts_for rule_for within after ident_after
  member-63 x o q object p s t w h =
      after-bind (walk_member (more o (more q none)) e (inside p x) s) _ _ (Became (field 0x63 x (more o (more q none))) s) (parts-63 o q (inside p x) s t w h) λ ds s2 m.
      subst (λ (gs : Fields). After (after_expression e.pass e (field 0x63 x gs) object p s2) (Became (field 0x63 x (more o (more q none))) s)) (sym m.3)
      (expression-63 e.pass refl x o q m.0 m.1 object p s m.2 s2 m.4 m.5)

  -- the law of the first part, walked as an object
  abbrev FirstBecame : Fields → Type 0
  FirstBecame none = Unit {0}
  FirstBecame (more o fs) = (p : ℕ) (s : State) → After (walk o e true p s) (Became o s)

  ident-by : (t : ℕ) (x : List ℕ) (cs : Fields) (object : Bool) (p : ℕ) (s : State) → Regular (field t x cs) → FirstBecame cs → (b : Bool) → eqb t 0x63 ≡ b →
      After (walk (field t x cs) e object p s) (Became (field t x cs) s)
  ident-by t x cs object p s w h false k = other-walk t x cs object p s k w.0
  ident-by t x none object p s w h true k = no-two none (λ o q z. let v : ◌≡◌ {A = ℕ} 0 1 = cc in omega arith) (w.0.member_two (eqb-true t 0x63 k))
  ident-by t x (more o none) object p s w h true k = no-two (more o none) (λ a q z. let v : ◌≡◌ {A = ℕ} 0 1 = cc in omega arith) (w.0.member_two (eqb-true t 0x63 k))
  ident-by t x (more o (more q qs)) object p s w h true k =
      let m = w.0.member_two (eqb-true t 0x63 k) in
      let r : qs ≡ none = cc m.2 in
      let u : m.1 ≡ q = cc m.2 in
      let z : field 0x63 x (more o (more q none)) ≡ field t x (more o (more q qs)) = cc (eqb-true t 0x63 k, r) in
      subst (λ (f : Field). After (walk f e object p s) (Became f s)) z
      (member-63 x o q object p s (subst (λ (g : Field). (tag_of g ≡ 0x70) ⊎ ((tag_of g ≡ 0x71) ⊎ (tag_of g ≡ 0x72))) u m.3) w.1.1.0 (h (inside p x) s))

  mutual
    pub walk-ident : (f : Field) (object : Bool) (p : ℕ) (s : State) → Regular f → After (walk f e object p s) (Became f s)
    walk-ident (field t x cs) object p s w = ident-by t x cs object p s w (first-ident cs w.1) (eqb t 0x63) refl

    first-ident : (cs : Fields) → RegularAll cs → FirstBecame cs
    first-ident none w = tt
    first-ident (more o fs) w = λ p s. walk-ident o true p s w.0
