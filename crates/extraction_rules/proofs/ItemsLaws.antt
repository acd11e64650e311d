-- What the steps of the first pass behind the imports keep, the walk keeps: as WalkLaws, with what is known of each usage.
use Rattle.std.specs.Prelude.{Option, None, Some}
use Prim.Native.Nat.{ℕ, ◌+◌}
use mathlib.Core.Path.{◌≡◌, refl, sym, ap, subst, ◌∙◌}
use mathlib.Core.Logic.{◌⊎◌, inl, inr}
use mathlib.Core.Bool.{Bool, true, false, not, cond, ◌&&◌, true≢false}
use mathlib.Core.List.{List, [], ◌∷◌, ◌++◌}
use native.Mathlib.Omega.{arith}
use lib.Dec.{eqb}
use lib.ListN.{length}
use borrow.Author.Tests.{eqb-true}
use Rattle.scope.specs.Id.{export}
use Rattle.tree.specs.Layout.{value_of}
use Rattle.tree.specs.Tree.{Field, field, Fields, none, more, tag_of, fixed_of, size}
use Rattle.inputs.specs.Outcome.{Outcome, done, onto}
use Rattle.inputs.specs.Fields.{has, inside}
use Rattle.extraction_rules.specs.State.{Record, Usage, State, Pass, first, second, Setting, change, refuse, set_modules, set_usages}
use Rattle.extraction_rules.specs.First.{id_from, module_for, force_id, on_ident, imported_as, used_record, add_usage, use_property, use_from, use_imported, usage, declarator}
use Rattle.extraction_rules.specs.Walk.{Rule, import, export as exporting, declare, express, nothing as plain, after_expression, rule_for, after}
use Rattle.extraction_rules.specs.Walk.{Parts, unwalked, member, super, assignment, children, parts_for, enter, walk, walk_all, walk_member}
use Rattle.extraction_rules.specs.Walk.{walk_assignment, walk_target}
use Rattle.extraction_rules.proofs.OutcomeLaws.{after-bind, after-both, after-if}
use Rattle.extraction_rules.proofs.StepLaws.{Keeps, CommonSteps, EmptyKeeps, then-keeps, enter-keeps, module_for-stays, add_usage-keeps}
use Rattle.extraction_rules.proofs.StepLaws.{require-keeps, declarator-keeps, export_specifier-keeps, module_for-keeps}
use Rattle.extraction_rules.proofs.WalkLaws.{walk_parts}
use Rattle.extraction_rules.proofs.TagLaws.{rule-import}
use Rattle.extraction_rules.proofs.AlikeLaws.{Two, RegularAt, Regular, RegularAll, AlikeAll, alike-two, regular_all-alike, parts-alike, walk_all-alike, walk_member-alike, walk_assignment-alike}

pub record ItemSteps (e : Setting) (J : State → Type 0) : Type 0 where
  pub common : CommonSteps e J
  pub on_empty : EmptyKeeps e J
  -- a usage of the id j: the property p in an export context, and the record that was found
  pub on_usage : (s : State) (j p : List ℕ) (n : ℕ) (r : Record) → used_record e.own j s.collected ≡ Some r → length p ≡ 2 → J s →
      J (set_usages (s.usages ++ (record { id = j; property = id_from p (export n) } ∷ [])) s)

module _ (e : Setting) (J : State → Type 0) (steps : ItemSteps e J) where
  -- a member: 70, 71 or 72, and a 70 of two bytes
  abbrev Member : Field → Type 0
  Member q = ((tag_of q ≡ 0x70) ⊎ ((tag_of q ≡ 0x71) ⊎ (tag_of q ≡ 0x72))) × (tag_of q ≡ 0x70 → length (fixed_of q) ≡ 2)

  two_bytes : (q : Field) → Member q → has 0x71 q ≡ false → has 0x72 q ≡ false → length (fixed_of q) ≡ 2
  two_bytes q (inl k, w) a b = w k
  two_bytes q (inr (inl k), w) a b = absurd (true≢false (sym (ap (λ (m : ℕ). eqb m 0x71) k) ∙ a))
  two_bytes q (inr (inr k), w) a b = absurd (true≢false (sym (ap (λ (m : ℕ). eqb m 0x72) k) ∙ b))

  property-keeps : (o : Option ℕ) (j : List ℕ) (q : Field) (at p : ℕ) (s : State) (r : Record) → used_record e.own j s.collected ≡ Some r →
      Member q → has 0x71 q ≡ false → J s → Keeps J (use_property o j q at p s)
  unfolding use_property
  property-keeps None j q at p s r w m a h = h
  property-keeps (Some n) j q at p s r w m a h =
      let u : Usage = record { id = j; property = id_from (fixed_of q) (export n) } in
      after-if (has 0x72 q) (refuse 7 at) (add_usage u p) s (λ r s. J s) (λ _. tt)
      (λ b. add_usage-keeps J u p s (steps.on_usage s j (fixed_of q) n r w (two_bytes q m a b) h))

  from-keeps : (o : Option Record) (j : List ℕ) (q : Field) (at p : ℕ) (s : State) → used_record e.own j s.collected ≡ o → Member q →
      has 0x71 q ≡ false → J s → Keeps J (use_from o e j q at p s)
  unfolding use_from
  from-keeps None j q at p s w m a h = h
  from-keeps (Some r) j q at p s w m a h =
      after-bind (module_for e (value_of r.literal) p s) _ (λ n t. J t × (t ≡ set_modules t.modules s)) (λ r s. J s)
      (after-both (module_for e (value_of r.literal) p s) (λ n t. J t) (λ n t. t ≡ set_modules t.modules s)
      (module_for-keeps e J steps.common.requires (value_of r.literal) p s h) (module_for-stays e (value_of r.literal) p s)) λ n t k.
      property-keeps n j q at p t r (ap (λ (t : State). used_record e.own j t.collected) k.1 ∙ w) m a k.0

  imported-keeps : (o : Option (List ℕ)) (j : List ℕ) (q : Field) (at p : ℕ) (s : State) → Member q → J s → Keeps J (use_imported o e j q at p s)
  unfolding use_imported
  imported-keeps None j q at p s m h = h
  imported-keeps (Some k) j q at p s m h =
      after-if (has 0x71 q) (change (force_id j)) _ s (λ r s. J s) (λ _. steps.common.on_force s j h) (λ a. from-keeps (used_record e.own j s.collected) j q at p s refl m a h)

  usage-pair : (t : ℕ) (x : List ℕ) (ds : Fields) (p : ℕ) (s : State) → (t ≡ 0x63 → Two ds × RegularAll ds) → J s → Keeps J (usage (on_ident (field t x ds)) e p s)
  unfolding usage on_ident
  usage-pair t x none p s w h = h
  usage-pair t x (more o none) p s w h = h
  usage-pair t x (more o (more q qs)) p s w h = go (eqb t 0x63) (has 0x60 o) refl
    where
      member-of : Two (more o (more q qs)) × RegularAll (more o (more q qs)) → Member q
      member-of k = let e : k.0.1 ≡ q = cc k.0.2 in (subst (λ (m : Field). (tag_of m ≡ 0x70) ⊎ ((tag_of m ≡ 0x71) ⊎ (tag_of m ≡ 0x72))) e k.0.3, name q k.1.1.0)
        where
          name : (q : Field) → Regular q → tag_of q ≡ 0x70 → length (fixed_of q) ≡ 2
          name (field t y ds) w = w.0.name_two

      go : (a b : Bool) → eqb t 0x63 ≡ a → Keeps J (usage (cond (a && b) (Some (o, q)) None) e p s)
      go true true r = imported-keeps (imported_as (fixed_of o) s.imported) (fixed_of o) q (p + 3 + size o) p s (member-of (w (eqb-true t 0x63 r))) h
      go true false r = h
      go false b r = h

  expression-keeps : (k : Pass) → k ≡ first → (t : ℕ) (x : List ℕ) (ds : Fields) (object : Bool) (p : ℕ) (s : State) →
      (t ≡ 0x63 → Two ds × RegularAll ds) → J s → Keeps J (after_expression k e (field t x ds) object p s)
  unfolding after_expression
  expression-keeps first q t x ds object p s w h =
      after-if (has 0x60 (field t x ds) && not object) _ _ s (λ r s. J s) (λ _. steps.common.on_force s x h)
      (λ _. then-keeps J (usage (on_ident (field t x ds)) e p s) _ (usage-pair t x ds p s w h) λ _ s h. require-keeps e J steps.common.requires steps.on_empty (field t x ds) p s h)
  expression-keeps second q t x ds object p s w h = absurd (let z : ◌≡◌ {A = ℕ} 0 1 = cc in omega arith)

  module _ (one : e.pass ≡ first) where
    rule-keeps : (r : Rule) (t : ℕ) (x : List ℕ) (cs ds : Fields) (object : Bool) (p : ℕ) (s : State) → rule_for t ≡ r → RegularAt t x cs →
        RegularAll cs → AlikeAll cs ds → J s → Keeps J (after r e t x ds object p s)
    unfolding after
    rule-keeps import t x cs ds object p s q w k a h = absurd (w.no_import (rule-import t q))
    rule-keeps exporting t x cs ds object p s q w k a h = export_specifier-keeps e J steps.common x p s h
    rule-keeps declare t x cs ds object p s q w k a h = then-keeps J (declarator e ds p s) _ (declarator-keeps e J steps.common.requires ds p s h) λ ds s h. h
    rule-keeps express t x cs ds object p s q w k a h = expression-keeps e.pass one t x ds object p s (λ z. (alike-two cs ds a (w.member_two z), regular_all-alike cs ds a k)) h
    rule-keeps plain t x cs ds object p s q w k a h = h

    parts-keep : (v : Parts) (cs : Fields) (object : Bool) (p : ℕ) (s : State) →
        ((b : Bool) (p : ℕ) (s : State) → J s → Keeps J (walk_all cs e b p s)) → ((p : ℕ) (s : State) → J s → Keeps J (walk_member cs e p s)) →
        ((p : ℕ) (s : State) → J s → Keeps J (walk_assignment cs e object p s)) → J s → Keeps J (walk_parts v cs e object p s)
    parts-keep unwalked cs object p s all mem asg h = h
    parts-keep member cs object p s all mem asg h = mem p s h
    parts-keep super cs object p s all mem asg h = all false p s h
    parts-keep assignment cs object p s all mem asg h = asg p s h
    parts-keep children cs object p s all mem asg h = all object p s h

    both-keep : (m : Outcome (Field × State)) (k : State → Outcome (Fields × State)) → Keeps J m → ((s : State) → J s → Keeps J (k s)) →
        Keeps J (onto m (λ r. onto (k r.1) (λ q. done (more r.0 q.0, q.1))))
    both-keep m k h w = then-keeps J m _ h λ g s h. then-keeps J (k s) _ (w s h) λ gs s h. h

    mutual
      unfolding walk

      pub item-keeps : (f : Field) (object : Bool) (p : ℕ) (s : State) → Regular f → J s → Keeps J (walk f e object p s)
      item-keeps (field t x cs) object p s w h =
          after-bind (walk_parts (parts_for t) cs e object (inside p x) (enter t s)) _ (λ ds s. J s × AlikeAll cs ds) (λ g s. J s)
          (after-both (walk_parts (parts_for t) cs e object (inside p x) (enter t s)) (λ ds s. J s) (λ ds s. AlikeAll cs ds)
          (parts-keep (parts_for t) cs object (inside p x) (enter t s) (λ b p s h. items-keep cs b p s w.1 h)
          (λ p s h. member-keeps cs p s w.1 h) (λ p s h. assignment-keeps cs object p s w.1 h)
          (enter-keeps J steps.common.on_top t s h))
          (parts-alike e one (parts_for t) cs object (inside p x) (enter t s) (λ b p s. walk_all-alike e one cs b p s w.1)
          (λ p s. walk_member-alike e one cs p s w.1) (λ p s. walk_assignment-alike e one cs object p s w.1))) λ ds s y.
          rule-keeps (rule_for t) t x cs ds object p s refl w.0 w.1 y.1 y.0

      pub items-keep : (fs : Fields) (object : Bool) (p : ℕ) (s : State) → RegularAll fs → J s → Keeps J (walk_all fs e object p s)
      items-keep none object p s w h = h
      items-keep (more f fs) object p s w h =
          both-keep (walk f e object p s) (walk_all fs e object (p + size f)) (item-keeps f object p s w.0 h)
          (λ s h. items-keep fs object (p + size f) s w.1 h)

      member-keeps : (fs : Fields) (p : ℕ) (s : State) → RegularAll fs → J s → Keeps J (walk_member fs e p s)
      member-keeps none p s w h = h
      member-keeps (more f fs) p s w h = both-keep (walk f e true p s) (walk_all fs e false (p + size f)) (item-keeps f true p s w.0 h) (λ s h. items-keep fs false (p + size f) s w.1 h)

      assignment-keeps : (fs : Fields) (object : Bool) (p : ℕ) (s : State) → RegularAll fs → J s → Keeps J (walk_assignment fs e object p s)
      assignment-keeps none object p s w h = h
      assignment-keeps (more f fs) object p s w h =
          both-keep (walk_target f e p s) (walk_all fs e object (p + size f)) (target-keeps f p s w.0 h)
          (λ s h. items-keep fs object (p + size f) s w.1 h)

      target-keeps : (f : Field) (p : ℕ) (s : State) → Regular f → J s → Keeps J (walk_target f e p s)
      target-keeps (field t x cs) p s w h = then-keeps J (walk_member cs e (inside p x) s) _ (member-keeps cs (inside p x) s w.1 h) λ ds s h. h
