-- The second pass over items that are no imports: what stays as it was, and which member expressions become identifiers. The same before the
-- namespace's import and behind it: of the state only what is `Carried` is used.
use Rattle.std.specs.Prelude.{Option, None, Some}
use Prim.Native.Nat.{ℕ, ◌+◌, ◌≤◌}
use mathlib.Core.Path.{◌≡◌, refl, sym, ap, ap₂, subst, ◌∙◌}
use mathlib.Core.Logic.{◌⊎◌, inl, inr}
use mathlib.Core.Bool.{Bool, true, false, not, cond, ◌||◌, true≢false}
use mathlib.Core.List.{List, [], ◌∷◌, ◌++◌}
use native.Mathlib.Omega.{arith}
use lib.Dec.{eqb}
use lib.ListN.{length, get_or}
use borrow.Author.Tests.{eqb-true}
use Rattle.scope.specs.Id.{require_atom, local, export}
use Rattle.scope.specs.Modules.{set_mark}
use Rattle.scope.specs.declared.Mark.TheVariants.{Cjs}
use Rattle.scope.proofs.Laws.{request-keeps-numbers, mark-keeps-numbers}
use Rattle.tree.specs.Layout.{same, two, four, id_at, name_of, context_of, value_of}
use Rattle.tree.specs.Tree.{Field, field, Fields, none, more, tag_of, fixed_of, size}
use Rattle.tree.specs.Grammar.{within}
use Rattle.tree.proofs.LayoutLaws.{same-refl, same-equal}
use Rattle.tree.proofs.Table.{both-true}
use Rattle.inputs.specs.Outcome.{Outcome, done, onto}
use Rattle.inputs.specs.Lists.{filter, among}
use Rattle.inputs.specs.Fields.{has, inside}
use Rattle.extraction_rules.specs.State.{Usage, State, Pass, first, second, Setting, refuse, set_modules, set_lazy, set_top}
use Rattle.extraction_rules.specs.First.{force_id, on_ident, imported_as, export_specifier, declarator}
use Rattle.extraction_rules.specs.Second.{usages_of, as_property, rewritten}
use Rattle.extraction_rules.specs.Walk.{Rule, import, export as exporting, declare, express, nothing as nil, after_expression, rule_for, after, Parts}
use Rattle.extraction_rules.specs.Walk.{unwalked, member, super, assignment, children, parts_for, enter, walk, walk_all, walk_member, walk_assignment}
use Rattle.extraction_rules.specs.Walk.{walk_target}
use Rattle.extraction_rules.proofs.OutcomeLaws.{After, after-bind, after-both, after-if}
use Rattle.extraction_rules.proofs.ListLaws.{All, all-filter, not-same, same-swap}
use Rattle.extraction_rules.proofs.WalkLaws.{walk_parts}
use Rattle.extraction_rules.proofs.TagLaws.{rule-import, rule-export, other-parts, parts-member, parts-unwalked}
use Rattle.extraction_rules.proofs.StepLaws.{RequireSteps, enter-keeps, declarator-keeps}
use Rattle.extraction_rules.proofs.AlikeLaws.{Two, RegularAt, Regular, RegularAll, SameBytes, equal, behind, callee, same-other, export-front}
use Rattle.extraction_rules.proofs.TestLaws.{or-neither}
use Rattle.extraction_rules.proofs.SeekLaws.{seek, holds_in, force-tables}
use Rattle.extraction_rules.proofs.SpaceLaws.{Property}
use Rattle.placement.specs.Stands.{How, original, otherwise, ids_in, object_ids, is_misplaced, properties}
use Rattle.placement.specs.Placed.{all}
use Rattle.placement.proofs.WaysLaws.{met-append, met, ways, ways_all, ways_member, ways_assignment, ways_target, ways_parts, ways_object}
use Rattle.placement.proofs.HowLaws.{all-append, all_plain, fits}
use Rattle.theorems.proofs.HeldLaws.{usages_for, Unfelt, unfelt-modules, unfelt-force}
use Rattle.theorems.proofs.OutFieldLaws.{export-foreign, Foreign, Says, foreign-unused, says-force, Unturned, out-tag, declarator-out, out-stays, Fine, fine-append, Out, OutAll}

-- ---- The state while the items are walked

-- what is carried of the namespace, before its import and behind it: the steps that it takes, and what it says of usages. plain: all uses are
-- plain properties
pub record Carried (plain taken : Bool) (i lit c : List ℕ) (own file : ℕ) (ps : List (List ℕ)) (J : State → Type 0) : Type 0 where
  pub on_unfelt : (s t : State) → Unfelt i lit own file s t → J s → J t
  pub on_force : (s : State) → (plain ≡ true → ⊥) → J s → J (force_id i s)
  pub alone : (s : State) (j : List ℕ) → J s → seek (holds_in j) s.collected ≡ Some (value_of lit) → j ≡ i
  pub apart : (s : State) → J s → taken ≡ true → (imported_as i s.imported ≡ Some c) × (usages_of i s.usages ≡ usages_for i c ps)
  pub kept : (s : State) → J s → taken ≡ false → usages_of i s.usages ≡ []

module _ (plain taken : Bool) (less : taken ≡ true → plain ≡ true) (i lit : List ℕ) (own file n : ℕ) (ps : List (List ℕ)) (J : State → Type 0)
    (carried : Carried plain taken i lit (four (export n)) own file ps J) where
  abbrev c : List ℕ
  c = four (export n)

  abbrev pub At : State → Type 0
  At s = J s × Says own s × All (λ u. Property u.property) s.usages

  at-unfelt : (s t : State) → Unfelt i lit own file s t → t.usages ≡ s.usages → t.imported ≡ s.imported → At s → At t
  at-unfelt s t u p q h = (carried.on_unfelt s t u h.0, (λ j. rw (p, q) (h.1 j)), rw p h.2)

  at-requires : (e : Setting) → RequireSteps e At
  at-requires e =
      record {
        on_request = λ s f m ms q h. at-unfelt s (set_modules ms s) (unfelt-modules i lit own file n s ms (λ m w. request-keeps-numbers f s.modules q file m w)) refl refl h;
        on_cjs =
            λ s m h. at-unfelt s (set_modules (set_mark Cjs m s.modules) s)
            (unfelt-modules i lit own file n s (set_mark Cjs m s.modules) (λ k w. mark-keeps-numbers Cjs m s.modules file ∙ w)) refl refl h;
        on_lazy =
            λ s r b h. at-unfelt s (set_lazy (s.lazy ++ (r ∷ [])) s)
            (record
            { entry = refl; holders = λ j q. q; holder = refl; suited = refl; number = λ n q. q; context = refl; usages = refl; forced = refl }) refl
            refl h;
      }

  pub at-top : (s : State) (b : Bool) → At s → At (set_top b s)
  at-top s b h = at-unfelt s (set_top b s) (record { entry = refl; holders = λ j q. q; holder = refl; suited = refl; number = λ n q. q; context = refl; usages = refl; forced = refl }) refl refl h

  forced-all : (s : State) (j : List ℕ) → All (λ u. Property u.property) s.usages → All (λ u. Property u.property) (force_id j s).usages
  forced-all s j h =
      subst (All (λ (u : Usage). Property u.property)) (sym (force-tables j s).3)
      (all-filter (λ (u : Usage). Property u.property) (λ (u : Usage). Property u.property) (λ (u : Usage). not (same u.id j)) s.usages (λ u _ k. k) h)

  -- the id itself is forced: only where not all uses are plain
  pub at-force : (s : State) (j : List ℕ) → (plain ≡ true → same j i ≡ false) → At s → At (force_id j s)
  at-force s j d h = (go (same j i) refl, says-force own s j h.1, forced-all s j h.2)
    where
      go : (b : Bool) → same j i ≡ b → J (force_id j s)
      go true q = rw (same-equal j i q) (carried.on_force s (λ e. true≢false (sym q ∙ d e)) h.0)
      go false q = carried.on_unfelt s (force_id j s) (unfelt-force i lit own file n s j q (λ w. not-same j i q (carried.alone s j h.0 w))) h.0

  -- ---- A 63, its parts walked

  -- a property, or the expression as it was, and why
  property-cases : (u : List Usage) (o : Option (List ℕ)) (q f : Field) (Q : Field → Type 0) → ((u ≡ []) ⊎ ((o ≡ None) ⊎ (has 0x70 q ≡ false)) → Q f) →
      ((v : Usage) (w : List Usage) (d : List ℕ) → u ≡ v ∷ w → o ≡ Some d → has 0x70 q ≡ true → Q (field 0x60 (fixed_of q ++ d) none)) → Q (as_property u o q f)
  unfolding as_property
  property-cases [] o q f Q h k = h (inl refl)
  property-cases (v ∷ w) None q f Q h k = h (inr (inl refl))
  property-cases (v ∷ w) (Some d) q f Q h k = go (has 0x70 q) refl
    where
      go : (b : Bool) → has 0x70 q ≡ b → Q (cond b (field 0x60 (fixed_of q ++ d) none) f)
      go true e = k v w d refl refl e
      go false e = h (inr (inr e))

  module _ (used : taken ≡ true → ps ≡ [] → ⊥) (named : same (name_of i) (two require_atom) ≡ false) (context : context_of i ≡ four (local own)) where
    abbrev O : Field → Field → Type 0
    O f g = Out taken i c own f g

    abbrev OA : Fields → Fields → Type 0
    OA fs gs = OutAll taken i c own fs gs

    behind-name : (p d : List ℕ) → length p ≡ 2 → context_of (p ++ d) ≡ d
    behind-name [] d q = absurd (omega arith)
    behind-name (x ∷ []) d q = absurd (omega arith)
    behind-name (x ∷ (y ∷ [])) d q = refl
    behind-name (x ∷ (y ∷ (z ∷ p))) d q = absurd (omega arith)

    -- a walked 60: the same id, or one in another context
    walked-ident : (o w : Field) → O o w → tag_of w ≡ 0x60 → ((tag_of o ≡ 0x60) × (fixed_of w ≡ fixed_of o)) ⊎ ((fixed_of o ≡ i → tag_of o ≡ 0x60 →
        ⊥) × Foreign own (fixed_of w))
    walked-ident (field k z os) w (inr h) t = inr ((λ _ q. let v : ◌≡◌ {A = ℕ} 0x63 0x60 = sym h.tag ∙ q in omega arith), h.foreign)
    walked-ident (field k z os) w (inl h) t = go h.1
      where
        go : SameBytes k z (fixed_of w) → ((k ≡ 0x60) × (fixed_of w ≡ z)) ⊎ ((z ≡ i → k ≡ 0x60 → ⊥) × Foreign own (fixed_of w))
        go (equal q) = inl (sym h.0 ∙ t, q)
        go (behind q r) = absurd (let v : ◌≡◌ {A = ℕ} 0x23 0x60 = sym q ∙ sym h.0 ∙ t in omega arith)
        go (callee q r m v) =
            inr (
              (λ e _. not-same (name_of i) (two require_atom) named (ap name_of (sym e) ∙ r)),
              ap (λ (y : List ℕ). same (context_of y) (four (local own)))
                  v ∙ export-foreign m own,
            )

    -- the usages and the context of i
    own-usages : (s : State) → At s → taken ≡ true → (usages_of i s.usages ≡ [] → ⊥) × (imported_as i s.imported ≡ Some c)
    own-usages s h q = let k = carried.apart s h.0 q in ((λ e. go ps (used q) (sym k.1 ∙ e)), k.0)
      where
        go : (l : List (List ℕ)) → (l ≡ [] → ⊥) → usages_for i c l ≡ [] → ⊥
        go [] d e = d refl
        go (p ∷ l) d e = let z : ◌≡◌ {A = ℕ} 0 1 = cc in omega arith

    kept-usages : (s : State) → At s → taken ≡ false → usages_of i s.usages ≡ []
    kept-usages s h q = carried.kept s h.0 q

    bool-cases : (b : Bool) (Q : Type 0) → (b ≡ true → Q) → (b ≡ false → Q) → Q
    bool-cases true Q h k = h refl
    bool-cases false Q h k = k refl

    stay-out : (x : List ℕ) (o q w v : Field) (s : State) → O o w → O q v → tag_of v ≡ tag_of q → tag_of w ≡ 0x60 → At s →
        (usages_of (fixed_of w) s.usages ≡ []) ⊎ ((imported_as (fixed_of w) s.imported ≡ None) ⊎ (has 0x70 v ≡ false)) →
        O (field 0x63 x (more o (more q none))) (field 0x63 x (more w (more v none)))
    stay-out x o q w v s ow qv tv tw h why =
        inl (refl, equal refl, unturned, (w, more v none, refl, ow, (v, none, refl, qv, refl)))
      where
        refuted : fixed_of w ≡ i → tag_of q ≡ 0x70 → taken ≡ true →
            (usages_of (fixed_of w) s.usages ≡ []) ⊎ ((imported_as (fixed_of w) s.imported ≡ None) ⊎ (has 0x70 v ≡ false)) → ⊥
        refuted e k t (inl r) = (own-usages s h t).0 (ap (λ (y : List ℕ). usages_of y s.usages) (sym e) ∙ r)
        refuted e k t (inr (inl r)) = let y = (own-usages s h t).1 in let u : imported_as i s.imported ≡ None =
            ap (λ (y : List ℕ). imported_as y s.imported) (sym e) ∙ r in let z : ◌≡◌ {A = ℕ} 0 1 = cc in omega arith
        refuted e k t (inr (inr r)) = true≢false (sym (ap (λ (m : ℕ). eqb m 0x70) (tv ∙ k)) ∙ r)

        same-id : ((tag_of o ≡ 0x60) × (fixed_of w ≡ fixed_of o)) ⊎ ((fixed_of o ≡ i → tag_of o ≡ 0x60 → ⊥) × Foreign own (fixed_of w)) → tag_of o ≡ 0x60 →
            fixed_of o ≡ i → fixed_of w ≡ i
        same-id (inl r) to e = r.1 ∙ e
        same-id (inr r) to e = absurd (r.0 e to)

        unturned : Unturned taken i c own 0x63 (more o (more q none))
        unturned o₁ q₁ t p to tq e =
            let eo : o ≡ o₁ = cc in
            let eq : q ≡ q₁ = cc in
            bool-cases taken (taken ≡ false) (λ t. absurd (refuted (same-id (walked-ident o w ow tw) (ap tag_of eo ∙ to) (ap fixed_of eo ∙ e)) (ap tag_of eq ∙ tq) t why)) (λ t. t)

    plain-way : (o q : Field) → tag_of o ≡ 0x60 → tag_of q ≡ 0x70 → fixed_of o ≡ i → properties (met (object_ids true (more o (more q none))) i) ≡ fixed_of q ∷ []
    unfolding object_ids met properties
    plain-way o q to tq e = rw (to, tq, e, same-refl i)

    not-first : (b y : List ℕ) → among b (y ∷ []) ≡ false → same b y ≡ false
    unfolding among
    not-first b y h = (or-neither (same b y) false h).0

    turn-out : (x : List ℕ) (o q v w : Field) (s : State) (u : Usage) (us : List Usage) (d : List ℕ) → O o w → tag_of w ≡ 0x60 → tag_of q ≡ 0x70 →
        fixed_of v ≡ fixed_of q → length (fixed_of q) ≡ 2 →
        Fine plain (met (object_ids true (more o (more q none))) i) → At s → usages_of (fixed_of w) s.usages ≡ u ∷ us → imported_as (fixed_of w) s.imported ≡ Some d →
        O (field 0x63 x (more o (more q none))) (field 0x60 (fixed_of v ++ d) none)
    turn-out x o q v w s u us d ow tw tq bv len fine h used-here as-d = by (walked-ident o w ow tw)
      where
        exported : (usages_of (fixed_of w) s.usages ≡ []) ⊎
            ((context_of (fixed_of w) ≡ four (local own))
            × ((imported_as (fixed_of w) s.imported ≡ None) ⊎ ((m : ℕ) × (imported_as (fixed_of w) s.imported ≡ Some (four (export m)))))) →
            same d (four (local own)) ≡ false
        exported (inl r) = absurd (let z : ◌≡◌ {A = ℕ} 0 1 = cc in omega arith)
        exported (inr (_, inl r)) = absurd (let z : ◌≡◌ {A = ℕ} 0 1 = cc in omega arith)
        exported (inr (_, inr r)) = let e : d ≡ four (export r.0) = cc r.1 in ap (λ (y : List ℕ). same y (four (local own))) e ∙ export-foreign r.0 own

        named-id : (p : List ℕ) (m : ℕ) → length p ≡ 2 → id_at (p ++ four (export m)) 0 ≡ p ++ four (export m)
        named-id [] m q = absurd (omega arith)
        named-id (x ∷ []) m q = absurd (omega arith)
        named-id (x ∷ (y ∷ [])) m q = refl
        named-id (x ∷ (y ∷ (z ∷ p))) m q = absurd (omega arith)

        named-whole : (p : List ℕ) →
            (usages_of (fixed_of w) s.usages ≡ []) ⊎
            ((context_of (fixed_of w) ≡ four (local own))
            × ((imported_as (fixed_of w) s.imported ≡ None) ⊎ ((m : ℕ) × (imported_as (fixed_of w) s.imported ≡ Some (four (export m)))))) →
            length p ≡ 2 → id_at (p ++ d) 0 ≡ p ++ d
        named-whole p (inl r) k = absurd (let z : ◌≡◌ {A = ℕ} 0 1 = cc in omega arith)
        named-whole p (inr (_, inl r)) k = absurd (let z : ◌≡◌ {A = ℕ} 0 1 = cc in omega arith)
        named-whole p (inr (_, inr r)) k = let e : d ≡ four (export r.0) = cc r.1 in rw e (named-id p r.0 k)

        by : ((tag_of o ≡ 0x60) × (fixed_of w ≡ fixed_of o)) ⊎ ((fixed_of o ≡ i → tag_of o ≡ 0x60 → ⊥) × Foreign own (fixed_of w)) →
            O (field 0x63 x (more o (more q none))) (field 0x60 (fixed_of v ++ d) none)
        by (inr r) = absurd (let e = foreign-unused own s (fixed_of w) h.1 r.1 in let z : ◌≡◌ {A = ℕ} 0 1 = cc in omega arith)
        by (inl r) =
            inr
            (record {
              tag = refl;
              object = o;
              member = q;
              parts = refl;
              ident = r.0;
              name = tq;
              out = refl;
              bare = refl;
              foreign = ap (λ (y : List ℕ). same y (four (local own))) (ap (λ (y : List ℕ). context_of (y ++ d)) bv ∙ behind-name (fixed_of q) d len) ∙ exported (h.1 (fixed_of w));
              whole = rw bv (named-whole (fixed_of q) (h.1 (fixed_of w)) len);
              mine = λ e.
                  let m : fixed_of w ≡ i = r.1 ∙ e in
                  let t : taken ≡ true =
                  bool-cases taken (taken ≡ true) (λ t. t)
                  (λ t. absurd
                  (let z = kept-usages s h t in let k : usages_of i s.usages ≡ u ∷ us = ap (λ (y : List ℕ). usages_of y s.usages) (sym m)
                  ∙ used-here in let z : ◌≡◌ {A = ℕ} 0 1 = cc in omega arith)) in
                  let k : imported_as i s.imported ≡ Some d = ap (λ (y : List ℕ). imported_as y s.imported) (sym m) ∙ as-d in
                  let f = (own-usages s h t).1 in
                  let dc : d ≡ c = cc in (
                    t,
                    ap₂ {C = List ℕ} (λ y z. y ++ z) bv dc,
                    same-swap (fixed_of q) (two require_atom)
                        ∙ not-first (two require_atom) (fixed_of q) (sym (ap (among (two require_atom)) (plain-way o q r.0 tq e)) ∙ fine.1),
                    len,
                  );
            })

    -- the member of a 63 is no 63, so it keeps its tag, and a 70 its bytes
    member-tag : (q v : Field) → (tag_of q ≡ 0x70) ⊎ ((tag_of q ≡ 0x71) ⊎ (tag_of q ≡ 0x72)) → O q v → (tag_of v ≡ tag_of q) × SameBytes (tag_of q) (fixed_of q) (fixed_of v)
    member-tag q v (inl k) h = out-tag taken i c own q v h (λ z. let m : ◌≡◌ {A = ℕ} 0x70 0x63 = sym k ∙ z in omega arith)
    member-tag q v (inr (inl k)) h = out-tag taken i c own q v h (λ z. let m : ◌≡◌ {A = ℕ} 0x71 0x63 = sym k ∙ z in omega arith)
    member-tag q v (inr (inr k)) h = out-tag taken i c own q v h (λ z. let m : ◌≡◌ {A = ℕ} 0x72 0x63 = sym k ∙ z in omega arith)

    name-length : (q : Field) → tag_of q ≡ 0x70 → Regular q → length (fixed_of q) ≡ 2
    name-length (field t y ds) k w = w.0.name_two k

    pair-out : (x : List ℕ) (o q w v : Field) (s : State) → (tag_of q ≡ 0x70) ⊎ ((tag_of q ≡ 0x71) ⊎ (tag_of q ≡ 0x72)) → Regular q →
        Fine plain (met (object_ids true (more o (more q none))) i) → O o w → O q v → At s →
        O (field 0x63 x (more o (more q none))) (rewritten (on_ident (field 0x63 x (more w (more v none)))) (field 0x63 x (more w (more v none))) s)
    unfolding on_ident rewritten
    pair-out x o q w v s k y fine ow qv h = go (eqb (tag_of w) 0x60) refl
      where
        tv : (tag_of v ≡ tag_of q) × SameBytes (tag_of q) (fixed_of q) (fixed_of v)
        tv = member-tag q v k qv

        tags : has 0x70 v ≡ true → tag_of q ≡ 0x70
        tags r = sym tv.0 ∙ eqb-true (tag_of v) 0x70 r

        bytes : tag_of q ≡ 0x70 → fixed_of v ≡ fixed_of q
        bytes t =
            same-other (tag_of q) (fixed_of q) (fixed_of v) tv.1 (λ z. let m : ◌≡◌ {A = ℕ} 0x70 0x23 = sym t ∙ z in omega arith)
            (λ z. let m : ◌≡◌ {A = ℕ} 0x70 0x60 = sym t ∙ z in omega arith)

        no-ident : eqb (tag_of w) 0x60 ≡ false → Unturned taken i c own 0x63 (more o (more q none))
        no-ident r o₁ q₁ t p to tq e =
            let eo : o ≡ o₁ = cc in
            absurd
            (true≢false
            (sym (ap (λ (m : ℕ). eqb m 0x60)
            ((out-tag taken i c own o w ow (λ z. let m : ◌≡◌ {A = ℕ} 0x60 0x63 = sym to ∙ ap tag_of (sym eo) ∙ z in omega arith)).0 ∙ ap tag_of eo
            ∙ to)) ∙ r))

        go : (b : Bool) → eqb (tag_of w) 0x60 ≡ b → O (field 0x63 x (more o (more q none))) (rewritten (cond b (Some (w, v)) None) (field 0x63 x (more w (more v none))) s)
        go true r =
            property-cases (usages_of (fixed_of w) s.usages) (imported_as (fixed_of w) s.imported) v (field 0x63 x (more w (more v none))) (O (field 0x63 x (more o (more q none))))
            (λ why. stay-out x o q w v s ow qv tv.0 (eqb-true (tag_of w) 0x60 r) h why)
            (λ u us d e f z. turn-out x o q v w s u us d ow (eqb-true (tag_of w) 0x60 r) (tags z) (bytes (tags z)) (name-length q (tags z) y) fine h e f)
        go false r = inl (refl, equal refl, no-ident r, (w, more v none, refl, ow, (v, none, refl, qv, refl)))

    member-out : (x : List ℕ) (cs ds : Fields) (s : State) → Two cs → RegularAll cs → Fine plain (met (object_ids true cs) i) → OA cs ds → At s →
        O (field 0x63 x cs) (rewritten (on_ident (field 0x63 x ds)) (field 0x63 x ds) s)
    member-out x none ds s k y fine h at = absurd (let e = k.2 in let z : ◌≡◌ {A = ℕ} 0 1 = cc in omega arith)
    member-out x (more o none) ds s k y fine h at = absurd (let e = k.2 in let z : ◌≡◌ {A = ℕ} 0 1 = cc in omega arith)
    member-out x (more o (more q (more r rs))) ds s k y fine h at = absurd (let e = k.2 in let z : ◌≡◌ {A = ℕ} 0 1 = cc in omega arith)
    member-out x (more o (more q none)) ds s k y fine h at =
        let e : k.1 ≡ q = cc k.2 in
        rw (h.2 ∙ ap (more h.0) (h.4.2 ∙ ap (more h.4.0) h.4.4))
        (pair-out x o q h.0 h.4.0 s (subst (λ (m : Field). (tag_of m ≡ 0x70) ⊎ ((tag_of m ≡ 0x71) ⊎ (tag_of m ≡ 0x72))) e k.3) y.1.0 fine h.3 h.4.3 at)

    module _ (e : Setting) (two-pass : e.pass ≡ second) where
      abbrev Walked : Field → Field → State → Type 0
      Walked f g t = At t × O f g

      plain-expression : (k : Pass) → k ≡ second → (t : ℕ) (x : List ℕ) (cs ds : Fields) (object : Bool) (p : ℕ) (s : State) → (t ≡ 0x63 → ⊥) →
          OA cs ds → At s → After (after_expression k e (field t x ds) object p s) (λ g t'. Walked (field t x cs) g t')
      unfolding after_expression on_ident rewritten
      plain-expression first q t x cs ds object p s d h at = absurd (let z : ◌≡◌ {A = ℕ} 0 1 = cc in omega arith)
      plain-expression second q t x cs ds object p s d h at = (at, subst (λ (g : Field). O (field t x cs) g) (sym (go ds)) (out-stays taken i c own t x cs ds d h))
        where
          not-63 : eqb t 0x63 ≡ false
          not-63 = bool-cases (eqb t 0x63) (eqb t 0x63 ≡ false) (λ r. absurd (d (eqb-true t 0x63 r))) (λ r. r)

          go : (es : Fields) → rewritten (on_ident (field t x es)) (field t x ds) s ≡ field t x ds
          go none = refl
          go (more o none) = refl
          go (more o (more q qs)) = rw not-63

      member-expression : (k : Pass) → k ≡ second → (x : List ℕ) (cs ds : Fields) (object : Bool) (p : ℕ) (s : State) → Two cs → RegularAll cs →
          Fine plain (met (object_ids true cs) i) → OA cs ds → At s →
          After (after_expression k e (field 0x63 x ds) object p s) (λ g t'. Walked (field 0x63 x cs) g t')
      unfolding after_expression
      member-expression first q x cs ds object p s k y fine h at = absurd (let z : ◌≡◌ {A = ℕ} 0 1 = cc in omega arith)
      member-expression second q x cs ds object p s k y fine h at = (at, member-out x cs ds s k y fine h at)

      export-out : (x : List ℕ) (object : Bool) (p : ℕ) (s : State) → ((get_or x 0 0 ≡ 1) × (7 ≤ length x)) ⊎ (get_or x 0 0 ≡ 2) →
          Fine plain (met (ids_in 0x23 x object) i) → At s → After (export_specifier e x p s) (λ g t. Walked (field 0x23 x none) g t)
      unfolding export_specifier ids_in met filter all
      export-out x object p s (inl k) fine at =
          after-if (eqb (get_or x 0 0) 2 || eqb (get_or x 7 0) 2) (refuse 6 p) _ s (λ g t. Walked (field 0x23 x none) g t) (λ _. tt)
          (λ _. (
            at-force s (id_at x 1) (other (rw k.0 at fine)) at,
            inl
                (refl, behind refl (export-front x _ k.1), (λ o q z. absurd (let m : ◌≡◌ {A = ℕ} 0x23 0x63 = z in omega arith)), refl),
          ))
        where
          other : Fine plain (cond (same (id_at x 1) i) (original ∷ []) []) → plain ≡ true → same (id_at x 1) i ≡ false
          other h t = go (same (id_at x 1) i) (h.0 t)
            where
              go : (b : Bool) → all_plain (cond b (original ∷ []) []) ≡ true → b ≡ false
              go true z = sym z
              go false z = refl
      export-out x object p s (inr k) fine at = rw k tt

      rule-out : (r : Rule) (t : ℕ) (x : List ℕ) (cs ds : Fields) (object : Bool) (p : ℕ) (s : State) → rule_for t ≡ r → (t ≡ 0x63 → ⊥) →
          RegularAt t x cs → Fine plain (met (ids_in t x object) i) → OA cs ds → At s →
          After (after r e t x ds object p s) (λ g t'. Walked (field t x cs) g t')
      unfolding after
      rule-out import t x cs ds object p s q d w fine h at = absurd (w.no_import (rule-import t q))
      rule-out exporting t x cs ds object p s q d w fine h at = go t cs (rule-export t q) (w.export_bare (rule-export t q)) (w.export_kind (rule-export t q)) fine
        where
          go : (t : ℕ) (cs : Fields) → t ≡ 0x23 → cs ≡ none → ((get_or x 0 0 ≡ 1) × (7 ≤ length x)) ⊎ (get_or x 0 0 ≡ 2) →
              Fine plain (met (ids_in t x object) i) → After (export_specifier e x p s) (λ g t'. Walked (field t x cs) g t')
          go t cs v b k fine = rw (v, b) (export-out x object p s k (subst (λ (m : ℕ). Fine plain (met (ids_in m x object) i)) v fine) at)
      rule-out declare t x cs ds object p s q d w fine h at =
          after-bind (declarator e ds p s) _ (λ gs t'. At t' × OA cs gs) (λ g t'. Walked (field t x cs) g t')
          (after-both (declarator e ds p s) (λ gs t'. At t') (λ gs t'. OA cs gs) (declarator-keeps e At (at-requires e) ds p s at) (declarator-out taken i c own e cs ds p s h)) λ gs s y.
          (y.0, out-stays taken i c own t x cs gs d y.1)
      rule-out express t x cs ds object p s q d w fine h at = plain-expression e.pass two-pass t x cs ds object p s d h at
      rule-out nil t x cs ds object p s q d w fine h at = (at, out-stays taken i c own t x cs ds d h)

      -- 63
      member-rule : (t : ℕ) (x : List ℕ) (cs ds : Fields) (object : Bool) (p : ℕ) (s : State) → t ≡ 0x63 → Two cs → RegularAll cs →
          Fine plain (met (object_ids true cs) i) → OA cs ds → At s →
          After (after (rule_for t) e t x ds object p s) (λ g t'. Walked (field t x cs) g t')
      unfolding after rule_for within
      member-rule t x cs ds object p s q k y fine h at = rw q (member-expression e.pass two-pass x cs ds object p s k y fine h at)

      -- a field, its parts walked
      field-out : (v : Parts) (t : ℕ) (x : List ℕ) (cs ds : Fields) (object : Bool) (p : ℕ) (s : State) → parts_for t ≡ v → RegularAt t x cs →
          RegularAll cs → Fine plain (met (ids_in t x object) i ++ ways_parts v cs i object) → OA cs ds → At s →
          After (after (rule_for t) e t x ds object p s) (λ g t'. Walked (field t x cs) g t')
      unfolding parts_for
      field-out unwalked t x cs ds object p s q w y fine h at =
          rule-out (rule_for t) t x cs ds object p s refl (other-parts t 0x63 unwalked member q refl (λ z. omega arith)) w
          (fine-append plain (met (ids_in t x object) i) _ fine).0 h at
      field-out member t x cs ds object p s q w y fine h at =
          member-rule t x cs ds object p s (parts-member t q) (w.member_two (parts-member t q)) y
          (fine-append plain (met (object_ids true cs) i) (ways_member cs i)
          (fine-append plain (met (ids_in t x object) i) (met (object_ids true cs) i ++ ways_member cs i) fine).1).0 h at
      field-out super t x cs ds object p s q w y fine h at =
          rule-out (rule_for t) t x cs ds object p s refl (other-parts t 0x63 super member q refl (λ z. omega arith)) w
          (fine-append plain (met (ids_in t x object) i) _ fine).0 h at
      field-out assignment t x cs ds object p s q w y fine h at =
          rule-out (rule_for t) t x cs ds object p s refl (other-parts t 0x63 assignment member q refl (λ z. omega arith)) w
          (fine-append plain (met (ids_in t x object) i) _ fine).0 h at
      field-out children t x cs ds object p s q w y fine h at =
          rule-out (rule_for t) t x cs ds object p s refl (other-parts t 0x63 children member q refl (λ z. omega arith)) w
          (fine-append plain (met (ids_in t x object) i) _ fine).0 h at

      -- ---- The walk

      abbrev PartsOut : Fields → (ℕ → State → Outcome (Fields × State)) → List How → Type 0
      PartsOut cs m l = (p : ℕ) (s : State) → Fine plain l → At s → After (m p s) (λ ds t. At t × OA cs ds)

      parts-out : (v : Parts) (t : ℕ) (cs : Fields) (object : Bool) (p : ℕ) (s : State) → parts_for t ≡ v → (t ≡ 0x10 → ⊥) → (t ≡ 0x23 → cs ≡ none) →
          Fine plain (ways_parts v cs i object) → ((b : Bool) → PartsOut cs (walk_all cs e b) (ways_all cs i b)) →
          PartsOut cs (walk_member cs e) (ways_member cs i) → PartsOut cs (walk_assignment cs e object) (ways_assignment cs i object) → At s →
          After (walk_parts v cs e object p s) (λ ds t. At t × OA cs ds)
      parts-out unwalked t cs object p s q d b fine all mem asg at = by (parts-unwalked t q)
        where
          by : (t ≡ 0x10) ⊎ (t ≡ 0x23) → At s × OA cs cs
          by (inl v) = absurd (d v)
          by (inr v) = (at, rw (b v))
      parts-out member t cs object p s q d b fine all mem asg at = mem p s (fine-append plain (met (object_ids true cs) i) (ways_member cs i) fine).1 at
      parts-out super t cs object p s q d b fine all mem asg at = all false p s fine at
      parts-out assignment t cs object p s q d b fine all mem asg at = asg p s fine at
      parts-out children t cs object p s q d b fine all mem asg at = all object p s fine at

      both-out : (f : Field) (fs : Fields) (m : Outcome (Field × State)) (k : State → Outcome (Fields × State)) → After m (λ g t. Walked f g t) →
          ((s : State) → At s → After (k s) (λ gs t. At t × OA fs gs)) →
          After (onto m (λ r. onto (k r.1) (λ q. done (more r.0 q.0, q.1)))) (λ gs t. At t × OA (more f fs) gs)
      both-out f fs m k h w =
          after-bind m _ (λ g t. Walked f g t) (λ gs t. At t × OA (more f fs) gs) h λ g s y.
          after-bind (k s) _ (λ gs t. At t × OA fs gs) (λ gs t. At t × OA (more f fs) gs) (w s y.0) λ gs s z. (z.0, (g, gs, refl, y.1, z.1))

      -- a 60 stays as it is
      ident-out : (t : ℕ) (x : List ℕ) (cs : Fields) (object : Bool) (p : ℕ) (s : State) → t ≡ 0x60 → cs ≡ none → At s →
          After (walk (field t x cs) e object p s) (λ g t'. Walked (field t x cs) g t')
      unfolding walk parts_for rule_for within after
      ident-out t x cs object p s q k at = rw (q, k) (plain-expression e.pass two-pass 0x60 x none none object p s (λ z. omega arith) refl at)

      -- the object of a 63
      object-out : (o : Field) (p : ℕ) (s : State) → Regular o → Fine plain (ways_object (has 0x60 o) o i) → At s →
          (Fine plain (ways o i true) → After (walk o e true p s) (λ g t. Walked o g t)) → After (walk o e true p s) (λ g t. Walked o g t)
      object-out (field t x cs) p s w fine at k = go (eqb t 0x60) refl fine
        where
          go : (b : Bool) → eqb t 0x60 ≡ b → Fine plain (ways_object b (field t x cs) i) → After (walk (field t x cs) e true p s) (λ g t'. Walked (field t x cs) g t')
          go true q f = ident-out t x cs true p s (eqb-true t 0x60 q) (w.0.ident_bare (eqb-true t 0x60 q)) at
          go false q f = k f

      -- a target stays a 63: on i it is misplaced
      target-stays : (t : ℕ) (x : List ℕ) (cs : Fields) → Fine plain (met (ids_in t x false ++ object_ids false cs) i) → Unturned taken i c own t cs
      unfolding object_ids met all
      target-stays t x cs fine o q k r to tq m = bool-cases taken (taken ≡ false) (λ v. absurd (true≢false (sym (wrong v)))) (λ v. v)
        where
          misplaced : met (ids_in t x false ++ object_ids false cs) i ≡ met (ids_in t x false) i ++ (otherwise ∷ [])
          misplaced = met-append i named (ids_in t x false) (object_ids false cs) ∙ ap (λ (l : List How). met (ids_in t x false) i ++ l) (rw (r, to, m, same-refl i))

          wrong : taken ≡ true → false ≡ true
          wrong v =
              (both-true (fits (met (ids_in t x false) i)) false
              (sym (all-append (λ h. not (is_misplaced h)) (met (ids_in t x false) i) (otherwise ∷ [])) ∙ sym (ap fits misplaced) ∙ fine.2 (less v))).1

      mutual
        unfolding walk ways

        pub walk-out : (f : Field) (object : Bool) (p : ℕ) (s : State) → Regular f → Fine plain (ways f i object) → At s → After (walk f e object p s) (λ g t. Walked f g t)
        walk-out (field t x cs) object p s w fine at =
            after-bind (walk_parts (parts_for t) cs e object (inside p x) (enter t s)) _ (λ ds t'. At t' × OA cs ds) (λ g t'. Walked (field t x cs) g t')
            (parts-out (parts_for t) t cs object (inside p x) (enter t s) refl w.0.no_import w.0.export_bare
            (fine-append plain (met (ids_in t x object) i) (ways_parts (parts_for t) cs i object) fine).1
            (λ b p s fine at. walk_all-out cs b p s w.1 fine at) (λ p s fine at. walk_member-out cs p s w.1 fine at)
            (λ p s fine at. walk_assignment-out cs object p s w.1 fine at) (enter-keeps At at-top t s at)) λ ds s y.
            field-out (parts_for t) t x cs ds object p s refl w.0 w.1 fine y.1 y.0

        pub walk_all-out : (fs : Fields) (object : Bool) (p : ℕ) (s : State) → RegularAll fs → Fine plain (ways_all fs i object) → At s →
            After (walk_all fs e object p s) (λ gs t. At t × OA fs gs)
        walk_all-out none object p s w fine at = (at, refl)
        walk_all-out (more f fs) object p s w fine at =
            let k = fine-append plain (ways f i object) (ways_all fs i object) fine in
            both-out f fs (walk f e object p s) (walk_all fs e object (p + size f)) (walk-out f object p s w.0 k.0 at) (λ s at. walk_all-out fs object (p + size f) s w.1 k.1 at)

        walk_member-out : (fs : Fields) (p : ℕ) (s : State) → RegularAll fs → Fine plain (ways_member fs i) → At s → After (walk_member fs e p s) (λ gs t. At t × OA fs gs)
        walk_member-out none p s w fine at = (at, refl)
        walk_member-out (more o os) p s w fine at =
            let k = fine-append plain (ways_object (has 0x60 o) o i) (ways_all os i false) fine in
            both-out o os (walk o e true p s) (walk_all os e false (p + size o))
            (object-out o p s w.0 k.0 at (λ f. walk-out o true p s w.0 f at))
            (λ s at. walk_all-out os false (p + size o) s w.1 k.1 at)

        walk_assignment-out : (fs : Fields) (object : Bool) (p : ℕ) (s : State) → RegularAll fs → Fine plain (ways_assignment fs i object) → At s →
            After (walk_assignment fs e object p s) (λ gs t. At t × OA fs gs)
        walk_assignment-out none object p s w fine at = (at, refl)
        walk_assignment-out (more f fs) object p s w fine at =
            let k = fine-append plain (ways_target f i) (ways_all fs i object) fine in
            both-out f fs (walk_target f e p s) (walk_all fs e object (p + size f)) (walk_target-out f p s w.0 k.0 at) (λ s at. walk_all-out fs object (p + size f) s w.1 k.1 at)

        walk_target-out : (f : Field) (p : ℕ) (s : State) → Regular f → Fine plain (ways_target f i) → At s → After (walk_target f e p s) (λ g t. Walked f g t)
        walk_target-out (field t x cs) p s w fine at =
            after-bind (walk_member cs e (inside p x) s) _ (λ ds t'. At t' × OA cs ds) (λ g t'. Walked (field t x cs) g t')
            (walk_member-out cs (inside p x) s w.1 (fine-append plain (met (ids_in t x false ++ object_ids false cs) i) (ways_member cs i) fine).1 at) λ ds s y.
            (y.0, inl (refl, equal refl, target-stays t x cs (fine-append plain (met (ids_in t x false ++ object_ids false cs) i) (ways_member cs i) fine).0, y.1))
