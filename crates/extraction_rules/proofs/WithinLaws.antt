-- The walk keeps the tree within the grammar and, but for an import's metadata, at most as deep: what a pass leaves can be read.
use Rattle.std.specs.Prelude.{Option, None, Some}
use Prim.Native.Nat.{ℕ, ◌+◌}
use mathlib.Core.Path.{◌≡◌, refl, sym, ap, subst, ◌∙◌}
use mathlib.Core.Logic.{◌⊎◌, inl, inr}
use mathlib.Core.Bool.{Bool, true, false, cond, ◌&&◌, ◌||◌}
use mathlib.Core.List.{List, [], ◌∷◌, ◌++◌}
use native.Mathlib.Omega.{arith}
use lib.Dec.{eqb}
use lib.ListN.{length, get_or, take, length-drop}
use borrow.Author.Tests.{eqb-true, ne_eqb}
use Rattle.scope.specs.Id.{local, export}
use Rattle.tree.specs.declared.grammar.Set.TheVariants.{Specifier, Expression}
use Rattle.tree.specs.declared.grammar.Slot.TheVariants.{One}
use Rattle.tree.specs.declared.grammar.Rule.{Rule}
use Rattle.tree.specs.Layout.{same, four, id_at, context_of, value_of}
use Rattle.tree.specs.Tree.{Field, field, Fields, none, more, tag_of, fixed_of, size}
use Rattle.tree.specs.Grammar.{within, holds_at, parts1, rule_of, step_at}
use Rattle.tree.specs.Within.{Exact}
use Rattle.tree.proofs.TreeLaws.{depth-parts, depth-none, depth-positive}
use Rattle.tree.proofs.WidthLaws.{plain-width}
use Rattle.tree.specs.declared.grammar.Value.TheVariants.{Id}
use Rattle.metadata.specs.Metadata.{append}
use Rattle.inputs.specs.Outcome.{onto}
use Rattle.inputs.specs.Lists.{among}
use Rattle.inputs.specs.Fields.{has, sole, inside}
use Rattle.extraction_rules.specs.State.{Imported, Usage, State, Pass, first, second, Setting, Act, give, refuse}
use Rattle.extraction_rules.specs.First.{external, id_from, module_for, on_ident, imported_as, with_callee, collect, note_id, note_named, outside_name}
use Rattle.extraction_rules.specs.First.{noted_context, note_specifier, note_all, note_specifiers, specifiers_in, attributes_in, with_context}
use Rattle.extraction_rules.specs.First.{import_first, exported_name, export_specifier, declarator}
use Rattle.extraction_rules.specs.Second.{usages_of, specifiers_from, take_apart, on_sole, import_second, as_property, rewritten}
use Rattle.extraction_rules.specs.Walk.{Rule as Kind, import, export as exporting, declare, express, nothing as plain, rule_for}
use Rattle.extraction_rules.specs.Walk.{after_expression, after_import, after, Parts, unwalked, member, super, assignment, children, parts_for}
use Rattle.extraction_rules.specs.Walk.{enter, walk, walk_all, walk_member, walk_assignment, walk_target}
use Rattle.extraction_rules.proofs.OutcomeLaws.{After, after-bind, after-both, after-if}
use Rattle.extraction_rules.proofs.ListLaws.{All, all-last, all-filter}
use Rattle.extraction_rules.proofs.FirstLaws.{source-cases}
use Rattle.extraction_rules.proofs.StepLaws.{Keeps, module_for-keeps, collect-keeps, note_id-keeps, export_specifier-keeps, declarator-keeps, expression-keeps, enter-keeps}
use Rattle.extraction_rules.proofs.WalkLaws.{rule-tag, parts-tag, parts-other, walk_parts}
use Rattle.extraction_rules.proofs.ValueLaws.{Called, first-expression, declarator-value}
use Rattle.extraction_rules.proofs.RuleLaws.{in_rule, step-without, takes_target, turned-step, no-module, rule-targets}
use Rattle.extraction_rules.proofs.ExactLaws.{id-width, rewritten-exact, named-exact, exported-exact}
use Rattle.extraction_rules.proofs.ShapeLaws.{Shaped, ShapedAll, name-width, member-width, target-step, Specifiers, import-parts, import-from}
use Rattle.extraction_rules.proofs.ShapeLaws.{context-shaped, named-specifier, usages-specifiers}
use Rattle.extraction_rules.proofs.TestLaws.{or-neither}
use Rattle.extraction_rules.proofs.ResultLaws.{Result, Results, same-results, none-results, more-results, target-results, field-result}
use Rattle.extraction_rules.proofs.ResultLaws.{import-result, Widths, widths-common, all-note, imported-width, with_callee-same, same-result}
use Rattle.extraction_rules.proofs.ResultLaws.{second-results, exported-done, ident-done}

-- ---- The rules of both passes

module _ (e : Setting) where
  declared-result : (t : ℕ) (x : List ℕ) (cs ds : Fields) (p : ℕ) (s : State) → Exact t x → (t ≡ 0x01 → ⊥) → Results cs ds (rule_of t) →
      After (declarator e ds p s) (λ gs s'. Result (field t x cs) (field t x gs))
  declared-result t x cs ds p s h n r =
      declarator-value e (λ gs. Result (field t x cs) (field t x gs)) ds p s (field-result t x cs ds h n r)
      (λ a i rest m l w v. field-result t x cs (more a (more (with_callee m i) rest)) h n
      (second-results cs a i (with_callee m i) rest (rule_of t) (subst (λ (z : Fields). Results cs z (rule_of t)) w r)
      (λ u. with_callee-same e i m l v u)))

  exported-result : (x : List ℕ) (cs : Fields) (p : ℕ) (s : State) → Exact 0x23 x →
      After (export_specifier e x p s) (λ g s'. Result (field 0x23 x cs) g)
  unfolding export_specifier
  exported-result x cs p s h =
      after-if (eqb (get_or x 0 0) 2 || eqb (get_or x 7 0) 2) (refuse 6 p) _ s (λ g s'. Result (field 0x23 x cs) g) (λ _. tt)
      (λ b. made (or-neither (eqb (get_or x 0 0) 2) (eqb (get_or x 7 0) 2) b).0)
    where
      made : eqb (get_or x 0 0) 2 ≡ false → Result (field 0x23 x cs) (field 0x23 (take 7 x ++ 1 ∷ id_from (exported_name x) (local e.own)) none)
      made n =
          record {
            shaped = (exported-exact x (local e.own) h n, exported-done);
            steps = λ q w. refl;
            deep = λ k i d. let a = depth-parts 0x23 (take 7 x ++ 1 ∷ id_from (exported_name x) (local e.own)) none in let z =
                depth-none in let b = depth-positive (field 0x23 x cs) in omega arith;
          }

  -- ---- The first pass

  call-result : (f g : Field) → Result f g → Called e (λ h. Result f h) g
  call-result f g r = (r, λ n l w. same-result f g (with_callee n g) r (with_callee-same e g n l w r.shaped))

  -- the usage of a member that is neither computed nor private
  on-ident : (t : ℕ) (x : List ℕ) (cs : Fields) (o q : Field) → on_ident (field t x cs) ≡ Some (o, q) →
      (qs : Fields) × (cs ≡ more o (more q qs)) × (t ≡ 0x63)
  unfolding on_ident
  on-ident t x none o q w = absurd (let z : ◌≡◌ {A = ℕ} 0 1 = cc in omega arith)
  on-ident t x (more a none) o q w = absurd (let z : ◌≡◌ {A = ℕ} 0 1 = cc in omega arith)
  on-ident t x (more a (more b qs)) o q w = go (eqb t 0x63) (has 0x60 a) refl w
    where
      go : (c d : Bool) → eqb t 0x63 ≡ c → cond {A = Option (Field × Field)} (c && d) (Some (a, b)) None ≡ Some (o, q) →
          (rs : Fields) × (more a (more b qs) ≡ more o (more q rs)) × (t ≡ 0x63)
      go true true v w =
          let pair : ◌≡◌ {A = Field × Field} (a, b) (o, q) = cc in
          let y = ap (λ (m : Field × Field). m.0) pair in
          let z = ap (λ (m : Field × Field). m.1) pair in
          (qs, rw (y, z), eqb-true t 0x63 v)
      go true false v w = absurd (let z : ◌≡◌ {A = ℕ} 0 1 = cc in omega arith)
      go false d v w = absurd (let z : ◌≡◌ {A = ℕ} 0 1 = cc in omega arith)

  expression-widths : (f : Field) → Shaped f → (object : Bool) (p : ℕ) (s : State) → Widths s → Keeps Widths (after_expression first e f object p s)
  expression-widths (field t x cs) h object p s w =
      expression-keeps e Widths (widths-common e) (λ s r b w. w) (field t x cs)
      (λ o q v a b s n k u w. (
        w.0,
        all-last (λ u. length u.property ≡ 6) s.usages _ w.1
            (id-width (fixed_of q) (export n)
            (let m = on-ident t x cs o q v in member-width o q m.0
            (subst (λ (k : ℕ). ShapedAll (more o (more q m.0)) (rule_of k)) m.2
            (subst (λ (z : Fields). ShapedAll z (rule_of t)) m.1 h.1)) a b)),
      ))
      object p s w

  first-within : (f g : Field) (object : Bool) (p : ℕ) (s : State) → Result f g → Widths s →
      After (after_expression first e g object p s) (λ h s'. Result f h × Widths s')
  first-within f g object p s r w =
      after-both (after_expression first e g object p s) (λ h s'. Result f h) (λ h s'. Widths s')
      (first-expression e (λ h. Result f h) first refl g object p s (call-result f g r)) (expression-widths g r.shaped object p s w)

  -- '10, not external', first pass
  note_id-widths : (m : Imported) (p : ℕ) (s : State) → length m.context ≡ 4 → Widths s → Keeps Widths (note_id m p s)
  note_id-widths m p s k w = note_id-keeps Widths m p s (all-note (λ m. length m.context ≡ 4) m s.imported k w.0, w.1)

  noted-width : (n : ℕ) (f : Field) → Shaped f → length (noted_context n f) ≡ 4
  noted-width n (field t x cs) h = go (eqb t 0x21) refl
    where
      go : (b : Bool) → eqb t 0x21 ≡ b → length (cond b (context_of x) (four (export n))) ≡ 4
      go true v = let a = plain-width 0x21 Id refl x (eqb-true t 0x21 v) h.0 in let b = length-drop 2 x in omega arith
      go false v = refl

  note_specifier-within : (n : ℕ) (f : Field) (p : ℕ) (s : State) → (holds_at Specifier (tag_of f) ≡ true) × Shaped f → Widths s →
      After (note_specifier n f p s) (λ g s'. ((holds_at Specifier (tag_of g) ≡ true) × Shaped g) × Widths s')
  unfolding note_specifier note_named
  note_specifier-within n f p s h w =
      after-if (has 0x20 f) (note_named n (fixed_of f) p) _ s Q
      (λ b. after-if (eqb (get_or (fixed_of f) 6 0) 2) (refuse 6 p) _ s Q (λ _. tt)
      (λ _. after-bind (note_id (record { id = id_at (fixed_of f) 0; context = four (export n) }) p s) _ (λ _ s'. Widths s') Q
      (note_id-widths _ p s refl w) λ _ s w. (
        named-specifier (id_at (fixed_of f) 0 ++ 1 ∷ id_from (outside_name (fixed_of f)) (export n))
            (named-exact (fixed_of f) n (named f h.1 (eqb-true (tag_of f) 0x20 b))),
        w,
      )))
      (λ _. after-bind (note_id (record { id = fixed_of f; context = noted_context n f }) p s) _ (λ _ s'. Widths s') Q
      (note_id-widths _ p s (noted-width n f h.1) w) λ _ s w. (h, w))
    where
      Q : Field → State → Type 0
      Q g s' = ((holds_at Specifier (tag_of g) ≡ true) × Shaped g) × Widths s'

      named : (f : Field) → Shaped f → tag_of f ≡ 0x20 → Exact 0x20 (fixed_of f)
      named (field t x cs) h e = subst (λ (k : ℕ). Exact k x) e h.0

  note_all-within : (n : ℕ) (fs : Fields) (p : ℕ) (s : State) → Specifiers fs → Widths s →
      After (note_all n fs p s) (λ gs s'. Specifiers gs × Widths s')
  unfolding note_all
  note_all-within n none p s h w = (tt, w)
  note_all-within n (more f fs) p s h w =
      after-bind (note_specifier n f p s) _ (λ g s'. ((holds_at Specifier (tag_of g) ≡ true) × Shaped g) × Widths s')
      (λ gs s'. Specifiers gs × Widths s') (note_specifier-within n f p s h.0 w) λ g s a.
      after-bind (note_all n fs (p + size f) s) _ (λ gs s'. Specifiers gs × Widths s') (λ gs s'. Specifiers gs × Widths s')
      (note_all-within n fs (p + size f) s h.1 a.1) λ gs s b.
      ((a.0, b.0), b.1)

  pub note_specifiers-within : (o : Option ℕ) (fs : Fields) (p : ℕ) (s : State) → Specifiers fs → Widths s →
      After (note_specifiers o fs p s) (λ gs s'. Specifiers gs × Widths s')
  note_specifiers-within None fs p s h w = (h, w)
  note_specifiers-within (Some n) fs p s h w = note_all-within n fs p s h w

  import_first-within : (x : List ℕ) (cs ds : Fields) (p : ℕ) (s : State) → Exact 0x10 x → ShapedAll ds (rule_of 0x10) → Widths s →
      After (import_first e x ds p s) (λ g s'. Result (field 0x10 x cs) g × Widths s')
  unfolding import_first
  import_first-within x cs ds p s h k w =
      after-if (external e x) (give (field 0x10 x ds)) _ s (λ g s'. Result (field 0x10 x cs) g × Widths s') (λ _. (import-result x cs ds h k, w))
      (λ _. after-bind (module_for e (value_of x) p s) _ (λ n s'. Widths s') (λ g s'. Result (field 0x10 x cs) g × Widths s')
      (module_for-keeps e Widths (widths-common e).requires (value_of x) p s w) λ n s w.
      after-bind (note_specifiers n (specifiers_in ds) (inside p x) s) _ (λ gs s'. Specifiers gs × Widths s')
      (λ g s'. Result (field 0x10 x cs) g × Widths s')
      (note_specifiers-within n (specifiers_in ds) (inside p x) s (import-parts ds k).0 w) λ gs s a.
      after-bind (collect (record { literal = x; specifiers = gs }) p s) _ (λ _ s'. Widths s') (λ g s'. Result (field 0x10 x cs) g × Widths s')
      (collect-keeps Widths (record { literal = x; specifiers = gs }) p s a.1) λ _ s w.
      (import-result x cs (append gs (with_context n ds)) h (import-from gs (with_context n ds) a.0 (context-shaped n ds k)), w))

  -- ---- The second pass

  take_apart-within : (us : List Usage) (x : List ℕ) (cs ds : Fields) (s : State) → All (λ u. length u.property ≡ 6) us → Exact 0x10 x →
      ShapedAll ds (rule_of 0x10) → Widths s →
      After (take_apart us x ds s) (λ g s'. Result (field 0x10 x cs) g × Widths s')
  unfolding take_apart
  take_apart-within [] x cs ds s u h k w = source-cases (value_of x) s (λ s'. Result (field 0x10 x cs) (field 0x10 x ds) × Widths s')
      (λ _. (import-result x cs ds h k, w)) (import-result x cs ds h k, w)
  take_apart-within (v ∷ us) x cs ds s u h k w = (
    import-result x cs (append (specifiers_from (v ∷ us)) (attributes_in ds)) h
        (import-from (specifiers_from (v ∷ us)) (attributes_in ds) (usages-specifiers (v ∷ us) u) (import-parts ds k).1),
    w,
  )

  pub used-width : (i : List ℕ) (s : State) → Widths s → All (λ u. length u.property ≡ 6) (usages_of i s.usages)
  unfolding usages_of
  used-width i s w = all-filter (λ u. length u.property ≡ 6) (λ u. length u.property ≡ 6) (λ u. same u.id i) s.usages (λ u v k. k) w.1

  on_sole-within : (o : Option Field) (x : List ℕ) (cs ds : Fields) (s : State) → Exact 0x10 x → ShapedAll ds (rule_of 0x10) → Widths s →
      After (on_sole o x ds s) (λ g s'. Result (field 0x10 x cs) g × Widths s')
  unfolding on_sole
  on_sole-within None x cs ds s h k w = (import-result x cs ds h k, w)
  on_sole-within (Some f) x cs ds s h k w =
      after-if (has 0x22 f) _ (give (field 0x10 x ds)) s (λ g s'. Result (field 0x10 x cs) g × Widths s')
      (λ _. take_apart-within (usages_of (fixed_of f) s.usages) x cs ds s (used-width (fixed_of f) s w) h k w) (λ _. (import-result x cs ds h k, w))

  import_second-within : (x : List ℕ) (cs ds : Fields) (s : State) → Exact 0x10 x → ShapedAll ds (rule_of 0x10) → Widths s →
      After (import_second e x ds s) (λ g s'. Result (field 0x10 x cs) g × Widths s')
  unfolding import_second
  import_second-within x cs ds s h k w =
      after-if (external e x || among (value_of x) s.forced) (give (field 0x10 x ds)) (on_sole (sole (specifiers_in ds)) x ds) s
      (λ g s'. Result (field 0x10 x cs) g × Widths s')
      (λ _. (import-result x cs ds h k, w)) (λ _. on_sole-within (sole (specifiers_in ds)) x cs ds s h k w)

  import-within : (j : Pass) (x : List ℕ) (cs ds : Fields) (p : ℕ) (s : State) → Exact 0x10 x → ShapedAll ds (rule_of 0x10) → Widths s →
      After (after_import j e x ds p s) (λ g s'. Result (field 0x10 x cs) g × Widths s')
  unfolding after_import
  import-within first x cs ds p s h k w = import_first-within x cs ds p s h k w
  import-within second x cs ds p s h k w = import_second-within x cs ds s h k w

  -- 'An expression 63 with 70 on a 60 with usages becomes a 60'
  property-result : (f : Field) (a c : List ℕ) → length a ≡ 2 → length c ≡ 4 →
      ((q : Rule) → in_rule takes_target q ≡ false → step_at q 0x63 ≡ step_at q (tag_of f)) → Result f (field 0x60 (a ++ c) none)
  property-result f a c l m k =
      record {
        shaped = (rewritten-exact a c l m, ident-done);
        steps = λ q w. sym (turned-step q w) ∙ k q w;
        deep = λ n i d. let x = depth-parts 0x60 (a ++ c) none in let z = depth-none in let b = depth-positive f in omega arith;
      }

  as-property : (us : List Usage) (o : Option (List ℕ)) (q f g : Field) → ((c : List ℕ) → o ≡ Some c → length c ≡ 4) → Shaped q →
      Result f g → tag_of g ≡ 0x63 → Result f (as_property us o q g)
  unfolding as_property
  as-property [] o q f g k h r t = r
  as-property (u ∷ us) None q f g k h r t = r
  as-property (u ∷ us) (Some c) q f g k h r t = go (has 0x70 q) refl
    where
      go : (b : Bool) → has 0x70 q ≡ b → Result f (cond b (field 0x60 (fixed_of q ++ c) none) g)
      go true v = property-result f (fixed_of q) c (name-width q h (eqb-true (tag_of q) 0x70 v)) (k c refl)
          (λ a w. ap (step_at a) (sym t) ∙ r.steps a w)
      go false v = r

  rewritten-result : (f : Field) (t : ℕ) (x : List ℕ) (ds : Fields) (o : Option (Field × Field)) (s : State) → on_ident (field t x ds) ≡ o →
      Result f (field t x ds) → Widths s → Result f (rewritten o (field t x ds) s)
  unfolding rewritten
  rewritten-result f t x ds None s v r w = r
  rewritten-result f t x ds (Some m) s v r w =
      let i = on-ident t x ds m.0 m.1 v in
      let h = subst (λ (z : Fields). ShapedAll z (rule_of t)) i.1 r.shaped.1 in
      as-property (usages_of (fixed_of m.0) s.usages) (imported_as (fixed_of m.0) s.imported) m.1 f (field t x ds)
      (λ c u. imported-width (fixed_of m.0) c s.imported w.0 u) h.3.2 r i.2

  expression-within : (j : Pass) (f : Field) (t : ℕ) (x : List ℕ) (ds : Fields) (object : Bool) (p : ℕ) (s : State) →
      Result f (field t x ds) → Widths s →
      After (after_expression j e (field t x ds) object p s) (λ g s'. Result f g × Widths s')
  unfolding after_expression
  expression-within first f t x ds object p s r w = first-within f (field t x ds) object p s r w
  expression-within second f t x ds object p s r w = (rewritten-result f t x ds (on_ident (field t x ds)) s refl r w, w)

  -- ---- The walk

  abbrev Walked : Field → Field → State → Type 0
  Walked f g s = Result f g × Widths s

  after-within : (r : Kind) (t : ℕ) (x : List ℕ) (cs ds : Fields) (object : Bool) (p : ℕ) (s : State) → rule_for t ≡ r → Exact t x →
      (t ≡ 0x01 → ⊥) → Results cs ds (rule_of t) → Widths s →
      After (after r e t x ds object p s) (Walked (field t x cs))
  unfolding after
  after-within import t x cs ds object p s v h n k w =
      let q = rule-tag t import v in
      subst (λ (u : ℕ). After (after_import e.pass e x ds p s) (Walked (field u x cs))) (sym q)
      (import-within e.pass x cs ds p s (subst (λ (u : ℕ). Exact u x) q h) (subst (λ (u : ℕ). ShapedAll ds (rule_of u)) q k.shaped) w)
  after-within exporting t x cs ds object p s v h n k w =
      let q = rule-tag t exporting v in
      subst (λ (u : ℕ). After (export_specifier e x p s) (Walked (field u x cs))) (sym q)
      (after-both (export_specifier e x p s) (λ g s'. Result (field 0x23 x cs) g) (λ g s'. Widths s')
      (exported-result x cs p s (subst (λ (u : ℕ). Exact u x) q h)) (export_specifier-keeps e Widths (widths-common e) x p s w))
  after-within declare t x cs ds object p s v h n k w =
      after-bind (declarator e ds p s) _ (λ gs s'. Result (field t x cs) (field t x gs) × Widths s') (Walked (field t x cs))
      (after-both (declarator e ds p s) (λ gs s'. Result (field t x cs) (field t x gs)) (λ gs s'. Widths s')
      (declared-result t x cs ds p s h n k) (declarator-keeps e Widths (widths-common e).requires ds p s w)) λ gs s a. a
  after-within express t x cs ds object p s v h n k w = expression-within e.pass (field t x cs) t x ds object p s (field-result t x cs ds h n k) w
  after-within plain t x cs ds object p s v h n k w = (field-result t x cs ds h n k, w)

  pub enter-widths : (t : ℕ) (s : State) → Widths s → Widths (enter t s)
  enter-widths t s w = enter-keeps Widths (λ s b w. w) t s w

  -- one field, then the rest of a row
  row-within : (m : Act Field) (n : Act Fields) (s : State) (f : Field) (fs : Fields) (q q' : Rule) → After (m s) (Walked f) →
      ((s : State) → Widths s → After (n s) (λ gs s'. Results fs gs q' × Widths s')) →
      ((g : Field) (gs : Fields) → Result f g → Results fs gs q' → Results (more f fs) (more g gs) q) →
      After (onto (m s) (λ r. onto (n r.1) (λ u. give (more r.0 u.0) u.1))) (λ gs s'. Results (more f fs) gs q × Widths s')
  row-within m n s f fs q q' h i join =
      after-bind (m s) _ (Walked f) (λ gs s'. Results (more f fs) gs q × Widths s') h λ g s₁ a.
      after-bind (n s₁) _ (λ gs s'. Results fs gs q' × Widths s') (λ gs s'. Results (more f fs) gs q × Widths s') (i s₁ a.1) λ gs s₂ b.
      (join g gs a.0 b.0, b.1)

  -- a walk of parts
  abbrev RowWithin : (ℕ → Act Fields) → Fields → Type 0
  RowWithin m cs = (q : Rule) → in_rule takes_target q ≡ false → ShapedAll cs q → (p : ℕ) (s : State) → Widths s → After (m p s)
      (λ gs s'. Results cs gs q × Widths s')

  pub parts-within : (v : Parts) (t : ℕ) (cs : Fields) (object : Bool) (p : ℕ) (s : State) → parts_for t ≡ v → ShapedAll cs (rule_of t) →
      ((b : Bool) → RowWithin (walk_all cs e b) cs) → RowWithin (walk_member cs e) cs →
      (ShapedAll cs (rule_of 0x66) → After (walk_assignment cs e object p s) (λ gs s'. Results cs gs (rule_of 0x66) × Widths s')) → Widths s →
      After (walk_parts v cs e object p s) (λ gs s'. Results cs gs (rule_of t) × Widths s')
  parts-within unwalked t cs object p s v h all mem asg w = (same-results cs (rule_of t) h, w)
  parts-within member t cs object p s v h all mem asg w =
      mem (rule_of t) (rule-targets t (parts-other t member v (λ q. let z : ◌≡◌ {A = ℕ} 0 1 = cc in omega arith))) h p s w
  parts-within super t cs object p s v h all mem asg w =
      all false (rule_of t) (rule-targets t (parts-other t super v (λ q. let z : ◌≡◌ {A = ℕ} 0 1 = cc in omega arith))) h p s w
  parts-within assignment t cs object p s v h all mem asg w =
      let q = parts-tag t assignment v in
      subst (λ (u : ℕ). After (walk_assignment cs e object p s) (λ gs s'. Results cs gs (rule_of u) × Widths s')) (sym q)
      (asg (subst (λ (u : ℕ). ShapedAll cs (rule_of u)) q h))
  parts-within children t cs object p s v h all mem asg w =
      all object (rule_of t) (rule-targets t (parts-other t children v (λ q. let z : ◌≡◌ {A = ℕ} 0 1 = cc in omega arith))) h p s w

  pub not-module : (q q' : Rule) (t : ℕ) → in_rule takes_target q ≡ false → step_at q t ≡ Some q' → t ≡ 0x01 → ⊥
  not-module q q' t w e v = no-module q q' w (subst (λ (u : ℕ). step_at q u ≡ Some q') v e)

  pub value-row : (q : Rule) → q ≡ parts1 (One Expression) → in_rule takes_target q ≡ false
  unfolding holds_at within
  value-row q e = ap (in_rule takes_target) e

  pub target-not : (t : ℕ) → (t ≡ 0x50) ⊎ (t ≡ 0x63) → (t ≡ 0x01 → ⊥) × (eqb t 0x66 ≡ false)
  target-not t (inl q) = (λ v. omega arith, ne_eqb t 0x66 (λ v. omega arith))
  target-not t (inr q) = (λ v. omega arith, ne_eqb t 0x66 (λ v. omega arith))

  mutual
    unfolding walk

    pub walk-within : (f : Field) (object : Bool) (p : ℕ) (s : State) → Shaped f → (tag_of f ≡ 0x01 → ⊥) → Widths s →
        After (walk f e object p s) (Walked f)
    walk-within (field t x cs) object p s h n w =
        after-bind (walk_parts (parts_for t) cs e object (inside p x) (enter t s)) _ (λ ds s'. Results cs ds (rule_of t) × Widths s')
        (Walked (field t x cs))
        (parts-within (parts_for t) t cs object (inside p x) (enter t s) refl h.1 (λ b q w h p s v. walk_all-within cs q b p s w h v)
        (λ q w h p s v. walk_member-within cs q p s w h v)
        (λ k. walk_assignment-within cs object (inside p x) (enter t s) k (enter-widths t s w)) (enter-widths t s w)) λ ds s a.
        after-within (rule_for t) t x cs ds object p s refl h.0 n a.0 a.1

    pub walk_all-within : (fs : Fields) (q : Rule) (object : Bool) (p : ℕ) (s : State) → in_rule takes_target q ≡ false → ShapedAll fs q →
        Widths s → After (walk_all fs e object p s) (λ gs s'. Results fs gs q × Widths s')
    walk_all-within none q object p s v h w = (none-results q h, w)
    walk_all-within (more f fs) q object p s v h w =
        row-within (walk f e object p) (walk_all fs e object (p + size f)) s f fs q h.0
        (walk-within f object p s h.2 (not-module q h.0 (tag_of f) v h.1) w)
        (λ s w. walk_all-within fs h.0 object (p + size f) s (step-without takes_target q h.0 (tag_of f) v h.1) h.3 w)
        (λ g gs a b. more-results f g fs gs q h.0 h.1 v a b)

    pub walk_member-within : (fs : Fields) (q : Rule) (p : ℕ) (s : State) → in_rule takes_target q ≡ false → ShapedAll fs q → Widths s →
        After (walk_member fs e p s) (λ gs s'. Results fs gs q × Widths s')
    walk_member-within none q p s v h w = (none-results q h, w)
    walk_member-within (more f fs) q p s v h w =
        row-within (walk f e true p) (walk_all fs e false (p + size f)) s f fs q h.0
        (walk-within f true p s h.2 (not-module q h.0 (tag_of f) v h.1) w)
        (λ s w. walk_all-within fs h.0 false (p + size f) s (step-without takes_target q h.0 (tag_of f) v h.1) h.3 w)
        (λ g gs a b. more-results f g fs gs q h.0 h.1 v a b)

    pub walk_assignment-within : (fs : Fields) (object : Bool) (p : ℕ) (s : State) → ShapedAll fs (rule_of 0x66) → Widths s →
        After (walk_assignment fs e object p s) (λ gs s'. Results fs gs (rule_of 0x66) × Widths s')
    walk_assignment-within none object p s h w = (none-results (rule_of 0x66) h, w)
    walk_assignment-within (more f fs) object p s h w =
        let i = target-step (tag_of f) h.0 h.1 in
        let n = target-not (tag_of f) i.0 in
        after-bind (walk_target f e p s) _ (λ g s'. (Result f g × (tag_of g ≡ tag_of f)) × Widths s')
        (λ gs s'. Results (more f fs) gs (rule_of 0x66) × Widths s') (walk_target-within f p s h.2 n.0 n.1 w) λ g s₁ a.
        after-bind (walk_all fs e object (p + size f) s₁) _ (λ gs s'. Results fs gs h.0 × Widths s')
        (λ gs s'. Results (more f fs) gs (rule_of 0x66) × Widths s')
        (walk_all-within fs h.0 object (p + size f) s₁ (value-row h.0 i.1) h.3 a.1) λ gs s₂ b.
        (target-results f g fs gs (rule_of 0x66) h.0 h.1 a.0.1 a.0.0 b.0, b.1)

    pub walk_target-within : (f : Field) (p : ℕ) (s : State) → Shaped f → (tag_of f ≡ 0x01 → ⊥) → eqb (tag_of f) 0x66 ≡ false → Widths s →
        After (walk_target f e p s) (λ g s'. (Result f g × (tag_of g ≡ tag_of f)) × Widths s')
    walk_target-within (field t x cs) p s h n m w =
        after-bind (walk_member cs e (inside p x) s) _ (λ ds s'. Results cs ds (rule_of t) × Widths s')
        (λ g s'. (Result (field t x cs) g × (tag_of g ≡ t)) × Widths s')
        (walk_member-within cs (rule_of t) (inside p x) s (rule-targets t m) h.1 w) λ ds s a.
        ((field-result t x cs ds h.0 n a.0, refl), a.1)
