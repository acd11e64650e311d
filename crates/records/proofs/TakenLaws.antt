-- The second pass appends to each collected record what it makes of the namespace imports with the record's literal, and drops no item.
use Rattle.std.specs.Prelude.{Option, None, Some}
use Prim.Native.Nat.{ℕ, ◌+◌}
use mathlib.Core.Path.{◌≡◌, refl, sym, ap, subst, ◌∙◌}
use mathlib.Core.Bool.{Bool, true, false, cond, ◌&&◌, ◌||◌, true≢false}
use mathlib.Core.List.{List, [], ◌∷◌, map}
use lib.Dec.{eqb}
use borrow.Author.Tests.{eqb-true, eqb-false, ne_eqb}
use Rattle.tree.specs.Layout.{same, value_of, same_literal}
use Rattle.tree.specs.Tree.{Field, field, Fields, none, more, tag_of, fixed_of, parts_of, size}
use Rattle.tree.specs.Grammar.{rule_of}
use Rattle.metadata.specs.Metadata.{append}
use Rattle.metadata.proofs.EncodeLaws.{append-none, append-rows}
use Rattle.inputs.specs.Outcome.{Outcome}
use Rattle.inputs.specs.Lists.{among}
use Rattle.inputs.specs.Fields.{has, sole}
use Rattle.extraction_rules.specs.State.{Record, Usage, State, second, Setting, give, set_top}
use Rattle.extraction_rules.specs.First.{external, force_source, forget, specifiers_in, attributes_in, stays}
use Rattle.extraction_rules.specs.Second.{usages_of, specifiers_from, extend, take_apart, on_sole, import_second}
use Rattle.extraction_rules.specs.Walk.{parts_for, walk, walk_all, walk_module}
use Rattle.extraction_rules.proofs.OutcomeLaws.{After, after-bind, after-weaken, after-both, after-if}
use Rattle.extraction_rules.proofs.ListLaws.{all-weaken, all-map, same-swap}
use Rattle.extraction_rules.proofs.FirstLaws.{source-cases, force-cases}
use Rattle.extraction_rules.proofs.WalkLaws.{Imports, ImportsAll, ImportsAssignment, ImportsTarget, imports-parts, Steps, walk-keeps}
use Rattle.extraction_rules.proofs.SanityLaws.{first-second}
use Rattle.extraction_rules.proofs.ValueLaws.{walk-second}
use Rattle.extraction_rules.proofs.ShapeLaws.{ShapedAll}
use Rattle.extraction_rules.proofs.AlikeLaws.{Regular, RegularAll}
use Rattle.extraction_rules.proofs.RegularLaws.{regular, item-outer}
use Rattle.extraction_rules.proofs.ReadableLaws.{item-step}
use Rattle.extraction_rules.proofs.StayLaws.{item-no-member, import-stays, walk-stays}
use Rattle.extraction_rules.proofs.KeepLaws.{Meets, keep-all}
use Rattle.records.specs.Model.{is_namespace, starts_named, whole_of, taken_of, taken}
use Rattle.records.proofs.PartLaws.{specifiers-usages}
use Rattle.records.proofs.GatheredLaws.{Written}

-- ---- What is taken of an item

sole-named : (fs : Fields) → is_namespace (sole fs) && starts_named fs ≡ false
unfolding sole
sole-named none = refl
sole-named (more f none) = by (has 0x22 f) refl
  where
    by : (b : Bool) → has 0x22 f ≡ b → b && has 0x20 f ≡ false
    by true q = ap (λ (k : ℕ). eqb k 0x20) (eqb-true (tag_of f) 0x22 q)
    by false q = refl
sole-named (more f (more g gs)) = refl

-- of one that is as it was: nothing
taken-same : (l : List ℕ) (w : Field) → taken_of l w w ≡ none
unfolding taken_of whole_of
taken-same l w =
    ap (λ (b : Bool). cond b (specifiers_in (parts_of w)) none)
    (by (has 0x10 w && same_literal (fixed_of w) l) (is_namespace (sole (specifiers_in (parts_of w)))) (starts_named (specifiers_in (parts_of w)))
    (sole-named (specifiers_in (parts_of w))))
  where
    by : (a b c : Bool) → b && c ≡ false → a && b && c ≡ false
    by true b c h = h
    by false b c h = refl

-- of one that is no import: nothing
taken-other : (l : List ℕ) (w g : Field) → (tag_of w ≡ 0x10 → ⊥) → taken_of l w g ≡ none
unfolding taken_of whole_of
taken-other l w g h =
    ap (λ (b : Bool). cond (b && same_literal (fixed_of w) l && is_namespace (sole (specifiers_in (parts_of w))) && starts_named (specifiers_in (parts_of g)))
    (specifiers_in (parts_of g)) none) (ne_eqb (tag_of w) 0x10 h)

starts : (u : Usage) (us : List Usage) → starts_named (specifiers_from (u ∷ us)) ≡ true
unfolding specifiers_from
starts u us = refl

-- of one that was taken apart: the usages
taken-apart : (l x : List ℕ) (cs : Fields) (u : Usage) (us : List Usage) → is_namespace (sole (specifiers_in cs)) ≡ true →
    taken_of l (field 0x10 x cs) (field 0x10 x (append (specifiers_from (u ∷ us)) (attributes_in cs))) ≡ cond (same x l) (specifiers_from (u ∷ us)) none
unfolding taken_of whole_of
taken-apart l x cs u us h =
    ap (λ (z : Fields). cond (same x l && is_namespace (sole (specifiers_in cs)) && starts_named z) z none) (specifiers-usages (u ∷ us) cs)
    ∙ named ∙ by (same x l) (is_namespace (sole (specifiers_in cs))) h
  where
    named : cond (same x l && is_namespace (sole (specifiers_in cs)) && starts_named (specifiers_from (u ∷ us))) (specifiers_from (u ∷ us)) none ≡ cond
        (same x l && is_namespace (sole (specifiers_in cs)) && true) (specifiers_from (u ∷ us)) none
    named = ap (λ (b : Bool). cond (same x l && is_namespace (sole (specifiers_in cs)) && b) (specifiers_from (u ∷ us)) none) (starts u us)

    by : (a b : Bool) → b ≡ true → cond (a && b && true) (specifiers_from (u ∷ us)) none ≡ cond a (specifiers_from (u ∷ us)) none
    by true true q = refl
    by true false q = absurd (true≢false (sym q))
    by false b q = refl

-- ---- Records that are written

written-as : (F G : List ℕ → Fields) (l : List Record) → ((x : List ℕ) → F x ≡ G x) → Written F l → Written G l
written-as F G l k h = all-weaken (λ r. r.specifiers ≡ F r.literal) (λ r. r.specifiers ≡ G r.literal) l (λ r w. w ∙ k r.literal) h

-- nothing more
written-none : (F T : List ℕ → Fields) (l : List Record) → ((x : List ℕ) → T x ≡ none) → Written F l → Written (λ x. append (F x) (T x)) l
written-none F T l k h = written-as F (λ x. append (F x) (T x)) l (λ x. sym (ap (append (F x)) (k x) ∙ append-none (F x))) h

-- the records of a literal are extended
written-extend : (F T : List ℕ → Fields) (x : List ℕ) (fs : Fields) (l : List Record) → ((y : List ℕ) → T y ≡ cond (same x y) fs none) → Written F l →
    Written (λ y. append (F y) (T y)) (map (extend x fs) l)
unfolding extend
written-extend F T x fs l k h =
    all-map (λ r. r.specifiers ≡ F r.literal) (λ r. r.specifiers ≡ append (F r.literal) (T r.literal)) (extend x fs) l
    (λ r w. by r w (same r.literal x) refl) h
  where
    by : (r : Record) → r.specifiers ≡ F r.literal → (b : Bool) → same r.literal x ≡ b →
        (cond b (record { literal = r.literal; specifiers = append r.specifiers fs }) r).specifiers ≡ append
        (F (cond b (record { literal = r.literal; specifiers = append r.specifiers fs }) r).literal)
        (T (cond b (record { literal = r.literal; specifiers = append r.specifiers fs }) r).literal)
    by r w true q = ap (λ (g : Fields). append g fs) w ∙ ap (append (F r.literal)) (sym (k r.literal ∙ ap (λ (c : Bool). cond c fs none) (same-swap x r.literal ∙ q)))
    by r w false q = w ∙ sym (append-none (F r.literal)) ∙ ap (append (F r.literal)) (sym (k r.literal ∙ ap (λ (c : Bool). cond c fs none) (same-swap x r.literal ∙ q)))

-- ---- Behind the imports

abbrev NoLiteral : List ℕ → Type 0
NoLiteral x = ⊥

mutual
  regular-imports : (f : Field) → Regular f → Imports f NoLiteral
  regular-imports (field t x cs) w = (λ q. w.0.no_import q, imports-parts (parts_for t) cs NoLiteral (regular-imports-all cs w.1) (regular-imports-assignment cs w.1))

  regular-imports-all : (fs : Fields) → RegularAll fs → ImportsAll fs NoLiteral
  regular-imports-all none w = tt
  regular-imports-all (more f fs) w = (regular-imports f w.0, regular-imports-all fs w.1)

  regular-imports-assignment : (fs : Fields) → RegularAll fs → ImportsAssignment fs NoLiteral
  regular-imports-assignment none w = tt
  regular-imports-assignment (more f fs) w = (regular-imports-target f w.0, regular-imports-all fs w.1)

  regular-imports-target : (f : Field) → Regular f → ImportsTarget f NoLiteral
  regular-imports-target (field t x cs) w = regular-imports-all cs w.1

written-steps : (e : Setting) (F : List ℕ → Fields) → e.pass ≡ second → Steps e NoLiteral (λ s. Written F s.collected)
unfolding forget
written-steps e F k =
    record {
      common =
          record {
            requires = record { on_request = λ s g m ms q h. h; on_cjs = λ s m h. h; on_lazy = λ s r b h. h };
            on_force = λ s i h. force-cases i s (λ s. Written F s.collected) h (λ r w. h);
            on_top = λ s b h. h;
          };
      one = λ q. first-second q k;
      two = λ _. record { on_extend = λ s x us p h. absurd p; on_source = λ s x b p h. absurd p };
    }

-- ---- The second pass

module _ (e : Setting) (two : e.pass ≡ second) where
  -- ---- An import

  abbrev Takes : (List ℕ → Fields) → Field → Field → State → Type 0
  Takes F f g s' = Written (λ l. append (F l) (taken_of l f g)) s'.collected × (stays g ≡ true)

  same-takes : (F : List ℕ → Fields) (x : List ℕ) (cs : Fields) (s : State) → Written F s.collected → Takes F (field 0x10 x cs) (field 0x10 x cs) s
  same-takes F x cs s h = (written-none F (λ l. taken_of l (field 0x10 x cs) (field 0x10 x cs)) s.collected (λ l. taken-same l (field 0x10 x cs)) h, import-stays (field 0x10 x cs) refl)

  apart-takes : (F : List ℕ → Fields) (us : List Usage) (x : List ℕ) (cs : Fields) (s : State) → is_namespace (sole (specifiers_in cs)) ≡ true →
      Written F s.collected → After (take_apart us x cs s) (Takes F (field 0x10 x cs))
  unfolding take_apart
  apart-takes F [] x cs s n h = same-takes F x cs (force_source (value_of x) s) (source-cases (value_of x) s (λ t. Written F t.collected) (λ _. h) h)
  apart-takes F (u ∷ us) x cs s n h =
      let g : Field = field 0x10 x (append (specifiers_from (u ∷ us)) (attributes_in cs)) in
      (written-extend F (λ l. taken_of l (field 0x10 x cs) g) x (specifiers_from (u ∷ us)) s.collected (λ l. taken-apart l x cs u us n) h, import-stays g refl)

  sole-takes : (F : List ℕ → Fields) (o : Option Field) (x : List ℕ) (cs : Fields) (s : State) → sole (specifiers_in cs) ≡ o →
      Written F s.collected → After (on_sole o x cs s) (Takes F (field 0x10 x cs))
  unfolding on_sole
  sole-takes F None x cs s q h = same-takes F x cs s h
  sole-takes F (Some f) x cs s q h =
      after-if (has 0x22 f) _ (give (field 0x10 x cs)) s (Takes F (field 0x10 x cs))
      (λ b. apart-takes F (usages_of (fixed_of f) s.usages) x cs s (ap is_namespace q ∙ b) h) (λ _. same-takes F x cs s h)

  import-takes : (F : List ℕ → Fields) (x : List ℕ) (cs : Fields) (s : State) → Written F s.collected → After (import_second e x cs s) (Takes F (field 0x10 x cs))
  unfolding import_second
  import-takes F x cs s h =
      after-if (external e x || among (value_of x) s.forced) (give (field 0x10 x cs)) (on_sole (sole (specifiers_in cs)) x cs) s (Takes F (field 0x10 x cs))
      (λ _. same-takes F x cs s h) (λ _. sole-takes F (sole (specifiers_in cs)) x cs s refl h)

  -- ---- The items

  item-takes : (F : List ℕ → Fields) (f : Field) (p : ℕ) (s : State) → ((tag_of f ≡ 0x10 → ⊥) → Regular f) → (tag_of f ≡ 0x63 → ⊥) → stays f ≡ true →
      Written F s.collected → After (walk f e false p s) (Takes F f)
  item-takes F f p s w m v h = go f (has 0x10 f) refl w m v
    where
      go : (f : Field) (b : Bool) → has 0x10 f ≡ b → ((tag_of f ≡ 0x10 → ⊥) → Regular f) → (tag_of f ≡ 0x63 → ⊥) → stays f ≡ true → After (walk f e false p s) (Takes F f)
      go (field t x cs) true q w m v =
          subst (λ (k : Outcome (Field × State)). After k (Takes F (field t x cs))) (sym (walk-second e two (field t x cs) p s (eqb-true t 0x10 q)))
          (subst (λ (k : ℕ). After (import_second e x cs s) (Takes F (field k x cs))) (sym (eqb-true t 0x10 q)) (import-takes F x cs s h))
      go f false q w m v =
          let n = eqb-false (tag_of f) 0x10 q in
          after-weaken (walk f e false p s) (λ g s'. Written F s'.collected × (stays g ≡ true)) (Takes F f)
          (λ g s' r. (written-none F (λ l. taken_of l f g) s'.collected (λ l. taken-other l f g n) r.0, r.1))
          (after-both (walk f e false p s) (λ g s'. Written F s'.collected) (λ g s'. stays g ≡ true)
          (walk-keeps e NoLiteral (λ s'. Written F s'.collected) (written-steps e F two) f false p s (regular-imports f (w n)) h) (walk-stays e f p s n m v))

  pub items-take : (F : List ℕ → Fields) (fs : Fields) (p : ℕ) (s : State) → ShapedAll fs (rule_of 0x01) → Meets stays fs → Written F s.collected →
      After (walk_all fs e false p s) (λ gs s'. Written (λ l. append (F l) (taken l fs gs)) s'.collected × Meets stays gs)
  unfolding walk_all taken
  items-take F none p s h v w = (written-none F (λ l. taken l none none) s.collected (λ l. refl) w, tt)
  items-take F (more f fs) p s h v w =
      let i = item-step (tag_of f) h.0 h.1 in
      after-bind (walk f e false p s) _ (Takes F f) _
      (item-takes F f p s (λ n. regular f (item-outer (tag_of f) i.0 (ne_eqb (tag_of f) 0x10 n)) h.2) (item-no-member (tag_of f) i.0) v.0 w) λ g s1 a.
      after-bind (walk_all fs e false (p + size f) s1) _ (λ gs s'. Written (λ l. append (append (F l) (taken_of l f g)) (taken l fs gs)) s'.collected × Meets stays gs) _
      (items-take (λ l. append (F l) (taken_of l f g)) fs (p + size f) s1 (subst (ShapedAll fs) i.1 h.3) v.1 a.0) λ gs s2 b. (
        written-as (λ l. append (append (F l) (taken_of l f g)) (taken l fs gs)) (λ l. append (F l) (append (taken_of l f g) (taken l fs gs)))
            s2.collected (λ l. append-rows (F l) (taken_of l f g) (taken l fs gs)) b.0,
        (a.1, b.1),
      )

  -- the second pass before its end
  pub second-written : (F : List ℕ → Fields) (works : Fields) (s : State) → ShapedAll works (rule_of 0x01) → Meets stays works → Written F s.collected →
      After (walk_module e works s) (λ outs s'. Written (λ l. append (F l) (taken l works outs)) s'.collected)
  unfolding walk_module
  second-written F works s h v w =
      after-bind (walk_all works e false 3 (set_top true s)) _
      (λ gs s'. Written (λ l. append (F l) (taken l works gs)) s'.collected × Meets stays gs) _ (items-take F works 3 (set_top true s) h v w)
      λ gs s' a.
      subst (λ (outs : Fields). Written (λ l. append (F l) (taken l works outs)) s'.collected) (sym (keep-all stays gs a.1)) a.0
