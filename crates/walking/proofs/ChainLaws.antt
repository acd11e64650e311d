-- In the second pass an expression that is to become an id does so at once and leaves the state alone; any other 63 stays one.
use Rattle.std.specs.Prelude.{Option, None, Some}
use Prim.Native.Nat.{ℕ, ◌+◌}
use mathlib.Core.Path.{◌≡◌, refl, sym, ap, subst, ◌∙◌}
use mathlib.Core.Bool.{Bool, true, false, cond}
use mathlib.Core.List.{List, [], ◌∷◌, ◌++◌}
use lib.Dec.{eqb}
use borrow.Author.Tests.{eqb-true}
use Rattle.tree.specs.Tree.{Field, field, Fields, none, more, tag_of, fixed_of, size}
use Rattle.inputs.specs.Outcome.{Outcome, done, refused, onto}
use Rattle.inputs.specs.Fields.{has, inside}
use Rattle.extraction_rules.specs.State.{Usage, State, Pass, second, Setting}
use Rattle.extraction_rules.specs.First.{imported_as, on_ident}
use Rattle.extraction_rules.specs.Second.{usages_of, as_property, rewritten}
use Rattle.extraction_rules.specs.Walk.{after_expression, walk, walk_member}
use Rattle.extraction_rules.proofs.OutcomeLaws.{after-done}
use Rattle.extraction_rules.proofs.AlikeLaws.{Two, Regular, RegularAll}
use Rattle.expressions.specs.After.{ident_of, as_ident, becomes, ident_after, member_after}
use Rattle.expressions.proofs.IdentLaws.{walk-70, as-ident, Became, walk-ident}
use Rattle.walking.proofs.TagLaws.{around, walk-60, walk-63, second-60}
use Rattle.scope.proofs.Laws.{none-some}

-- ---- A 63 that is no usage

unwritten : (us : List Usage) (c : Option (List ℕ)) (q f : Field) → ident_of (as_property us c q f) ≡ None → as_property us c q f ≡ f
unfolding as_property ident_of
unwritten [] c q f h = refl
unwritten (u ∷ us) None q f h = refl
unwritten (u ∷ us) (Some c) q f h = go (has 0x70 q) h
  where
    go : (b : Bool) → ident_of (cond b (field 0x60 (fixed_of q ++ c) none) f) ≡ None → cond b (field 0x60 (fixed_of q ++ c) none) f ≡ f
    go true h = none-some (sym h)
    go false h = refl

rewritten-same : (o : Option (Field × Field)) (f : Field) (s : State) → ident_of (rewritten o f s) ≡ None → rewritten o f s ≡ f
unfolding rewritten
rewritten-same None f s h = refl
rewritten-same (Some m) f s h = unwritten (usages_of (fixed_of m.0) s.usages) (imported_as (fixed_of m.0) s.imported) m.1 f h

second-63 : (e : Setting) (x : List ℕ) (ds : Fields) (object : Bool) (p : ℕ) (s : State) →
    after_expression second e (field 0x63 x ds) object p s ≡ done (rewritten (on_ident (field 0x63 x ds)) (field 0x63 x ds) s, s)
unfolding after_expression
second-63 e x ds object p s = refl

module _ (e : Setting) (two : e.pass ≡ second) where
  pub member-stays : (x : List ℕ) (cs : Fields) (object : Bool) (p : ℕ) (s : State) → Regular (field 0x63 x cs) → ident_after (field 0x63 x cs) second s ≡ None →
      walk (field 0x63 x cs) e object p s ≡ around 0x63 x (walk_member cs e (inside p x)) s
  member-stays x cs object p s w h =
      walk-63 e x cs object p s ∙ go (walk_member cs e (inside p x) s) (sym (walk-63 e x cs object p s))
    where
      passed : (ds : Fields) (u : State) → after_expression e.pass e (field 0x63 x ds) object p u ≡ done (rewritten (on_ident (field 0x63 x ds)) (field 0x63 x ds) u, u)
      passed ds u = ap (λ (k : Pass). after_expression k e (field 0x63 x ds) object p u) two ∙ second-63 e x ds object p u

      go : (m : Outcome (Fields × State)) → onto m (λ r. after_expression e.pass e (field 0x63 x r.0) object p r.1) ≡ walk (field 0x63 x cs) e object p s →
          onto m (λ r. after_expression e.pass e (field 0x63 x r.0) object p r.1) ≡ onto m (λ r. done (field 0x63 x r.0, r.1))
      go (refused n q) z = refl
      go (done r) z =
          let f = field 0x63 x r.0 in
          let b = after-done (walk (field 0x63 x cs) e object p s) (Became e (field 0x63 x cs) s) (rewritten (on_ident f) f r.1, r.1)
          (sym z ∙ passed r.0 r.1) (walk-ident e (field 0x63 x cs) object p s w) in
          let n : ident_of (rewritten (on_ident f) f r.1) ≡ None = sym b.0 ∙ ap (λ (k : Pass). ident_after (field 0x63 x cs) k s) two ∙ h in
          passed r.0 r.1 ∙ ap (λ (g : Field). done (g, r.1)) (rewritten-same (on_ident f) f r.1 n)

  -- ---- A chain that becomes an id

  -- what a 63 on the id j becomes
  abbrev As : List ℕ → Field → State → List ℕ → Type 0
  As j q s i = as_ident (usages_of j s.usages) (imported_as j s.imported) q ≡ Some i

  as-name : (us : List Usage) (c : Option (List ℕ)) (q : Field) (i : List ℕ) → as_ident us c q ≡ Some i → tag_of q ≡ 0x70
  unfolding as_ident
  as-name [] c q i h = none-some h
  as-name (u ∷ us) None q i h = none-some h
  as-name (u ∷ us) (Some c) q i h = go (has 0x70 q) refl h
    where
      go : (b : Bool) → has 0x70 q ≡ b → cond b (Some (fixed_of q ++ c)) None ≡ Some i → tag_of q ≡ 0x70
      go true k h = eqb-true (tag_of q) 0x70 k
      go false k h = none-some h

  chain-60 : (x : List ℕ) (j : List ℕ) (q : Field) (s : State) (i : List ℕ) → As j q s i →
      rewritten (on_ident (field 0x63 x (more (field 0x60 j none) (more q none)))) (field 0x63 x (more (field 0x60 j none) (more q none))) s ≡ field 0x60 i none
  unfolding on_ident rewritten
  chain-60 x j q s i h =
      let a = as-ident e (usages_of j s.usages) (imported_as j s.imported) q (field 0x63 x (more (field 0x60 j none) (more q none))) refl in
      a.1 i (sym a.0 ∙ h)

  name-walks : (q : Field) (p : ℕ) (s : State) → Regular q → tag_of q ≡ 0x70 → walk q e false p s ≡ done (q, s)
  name-walks (field t y cs) p s w k =
      let z : field t y cs ≡ field 0x70 y none = cc (k, w.0.name_bare k) in
      ap (λ (f : Field). walk f e false p s) z ∙ walk-70 e y false p s ∙ ap (λ (f : Field). done (f, s)) (sym z)

  -- the parts of such a 63
  chain-parts : (o q : Field) (j : List ℕ) (p : ℕ) (s : State) → walk o e true p s ≡ done (field 0x60 j none, s) → Regular q → tag_of q ≡ 0x70 →
      walk_member (more o (more q none)) e p s ≡ done (more (field 0x60 j none) (more q none), s)
  unfolding walk
  chain-parts o q j p s h w k = rw (h, name-walks q (p + size o) s w k) refl

  chain-63 : (x : List ℕ) (o q : Field) (object : Bool) (p : ℕ) (s : State) (j i : List ℕ) → walk o e true (inside p x) s ≡ done (field 0x60 j none, s) → Regular q → As j q s i →
      walk (field 0x63 x (more o (more q none))) e object p s ≡ done (field 0x60 i none, s)
  chain-63 x o q object p s j i h w a =
      walk-63 e x (more o (more q none)) object p s
      ∙ ap (λ (m : Outcome (Fields × State)). onto m (λ r. after_expression e.pass e (field 0x63 x r.0) object p r.1))
      (chain-parts o q j (inside p x) s h w (as-name (usages_of j s.usages) (imported_as j s.imported) q i a))
      ∙ ap (λ (k : Pass). after_expression k e (field 0x63 x (more (field 0x60 j none) (more q none))) object p s) two
      ∙ second-63 e x (more (field 0x60 j none) (more q none)) object p s ∙ ap (λ (g : Field). done (g, s)) (chain-60 x j q s i a)

  -- the law of an object
  abbrev ObjectWalks : Fields → Type 0
  ObjectWalks none = Unit {0}
  ObjectWalks (more o fs) = (p : ℕ) (s : State) (j : List ℕ) → ident_after o second s ≡ Some j → walk o e true p s ≡ done (field 0x60 j none, s)

  chain-member : (x : List ℕ) (cs : Fields) (object : Bool) (p : ℕ) (s : State) (i : List ℕ) → Two cs → RegularAll cs → ObjectWalks cs → member_after cs second s ≡ Some i →
      walk (field 0x63 x cs) e object p s ≡ done (field 0x60 i none, s)
  unfolding ident_after becomes
  chain-member x none object p s i m w o h = none-some h
  chain-member x (more c none) object p s i m w o h = none-some h
  chain-member x (more c (more q qs)) object p s i m w o h = go (ident_after c second s) refl h
    where
      last : qs ≡ none
      last = cc m.2

      go : (v : Option (List ℕ)) → ident_after c second s ≡ v → becomes second v q s ≡ Some i → walk (field 0x63 x (more c (more q qs))) e object p s ≡ done (field 0x60 i none, s)
      go None k h = none-some h
      go (Some j) k h =
          subst (λ (l : Fields). walk (field 0x63 x (more c (more q l))) e object p s ≡ done (field 0x60 i none, s)) (sym last)
          (chain-63 x c q object p s j i (o (inside p x) s j k) w.1.0 h)

  ident-at-once : (t : ℕ) (x : List ℕ) (cs : Fields) (object : Bool) (p : ℕ) (s : State) (i : List ℕ) → Regular (field t x cs) → ObjectWalks cs →
      ident_after (field t x cs) second s ≡ Some i →
      walk (field t x cs) e object p s ≡ done (field 0x60 i none, s)
  unfolding ident_after
  ident-at-once t x cs object p s i w o h = go (eqb t 0x63) refl (eqb t 0x60) refl h
    where
      go : (a : Bool) → eqb t 0x63 ≡ a → (b : Bool) → eqb t 0x60 ≡ b → cond a (member_after cs second s) (cond b (Some x) None) ≡ Some i →
          walk (field t x cs) e object p s ≡ done (field 0x60 i none, s)
      go true k b l h =
          subst (λ (u : ℕ). walk (field u x cs) e object p s ≡ done (field 0x60 i none, s)) (sym (eqb-true t 0x63 k))
          (chain-member x cs object p s i (w.0.member_two (eqb-true t 0x63 k)) w.1 o h)
      go false k true l h =
          let z : field t x cs ≡ field 0x60 x none = cc (eqb-true t 0x60 l, w.0.ident_bare (eqb-true t 0x60 l)) in
          let y : x ≡ i = cc in
          ap (λ (f : Field). walk f e object p s) z ∙ walk-60 e x object p s
          ∙ ap (λ (k : Pass). after_expression k e (field 0x60 x none) object p s) two ∙ second-60 e x object p s ∙ ap (λ (v : List ℕ). done (field 0x60 v none, s)) y
      go false k false l h = none-some h

  mutual
    pub ident-walks : (f : Field) (object : Bool) (p : ℕ) (s : State) (i : List ℕ) → Regular f → ident_after f second s ≡ Some i → walk f e object p s ≡ done (field 0x60 i none, s)
    ident-walks (field t x cs) object p s i w h = ident-at-once t x cs object p s i w (object-walks cs w.1) h

    object-walks : (cs : Fields) → RegularAll cs → ObjectWalks cs
    object-walks none w = tt
    object-walks (more o fs) w = λ p s j h. ident-walks o true p s j w.0 h
