-- The walk keeps the records whole: literals of six bytes, specifiers within the grammar, forced values of two bytes.
use Rattle.std.specs.Prelude.{Option, None, Some}
use Prim.Native.Nat.{ℕ, ◌+◌}
use mathlib.Core.Path.{◌≡◌, refl, sym, subst}
use mathlib.Core.Bool.{Bool, true, false, not, cond, ◌&&◌, ◌||◌}
use mathlib.Core.List.{List, [], ◌∷◌, ◌++◌}
use native.Mathlib.Omega.{arith}
use lib.Dec.{eqb}
use lib.ListN.{length, get_or}
use Rattle.tree.specs.declared.grammar.Rule.{Rule}
use Rattle.tree.specs.Layout.{id_at, value_of}
use Rattle.tree.specs.Tree.{Field, field, Fields, none, more, tag_of, fixed_of, size}
use Rattle.tree.specs.Grammar.{rule_of}
use Rattle.tree.specs.Within.{Exact}
use Rattle.tree.proofs.WidthLaws.{plain-width}
use Rattle.tree.specs.declared.grammar.Value.TheVariants.{Literal}
use Rattle.inputs.specs.Outcome.{onto}
use Rattle.inputs.specs.Lists.{among}
use Rattle.inputs.specs.Fields.{has, sole, inside}
use Rattle.extraction_rules.specs.State.{Record, Usage, State, Pass, first, second, Setting, Act, give, change, refuse, set_lazy, set_modules}
use Rattle.extraction_rules.specs.First.{external, module_for, force_id, on_ident, imported_as, used_record, use_property, use_from, use_imported}
use Rattle.extraction_rules.specs.First.{usage, required, mark_cjs, mark_required, collect, add_lazy, require, note_specifiers, specifiers_in}
use Rattle.extraction_rules.specs.First.{import_first, export_specifier, bindings, require_lazily, declarator}
use Rattle.extraction_rules.specs.Second.{usages_of, specifiers_from, extend, take_apart, on_sole, import_second, wrap_module, wrap_all, lose_namespaces, finish}
use Rattle.extraction_rules.specs.Walk.{Rule as Kind, import, export as exporting, declare, express, nothing as plain, rule_for}
use Rattle.extraction_rules.specs.Walk.{after_expression, after_import, after, Parts, unwalked, member, super, assignment, children, parts_for}
use Rattle.extraction_rules.specs.Walk.{enter, walk, walk_all, walk_member, walk_assignment, walk_target}
use Rattle.extraction_rules.proofs.OutcomeLaws.{After, after-bind, after-both, after-if, after-weaken}
use Rattle.extraction_rules.proofs.ListLaws.{All, all-last, all-map}
use Rattle.extraction_rules.proofs.FirstLaws.{source-cases}
use Rattle.extraction_rules.proofs.StepLaws.{Keeps, module_for-keeps, enter-keeps, then-keeps, room-keeps, add_usage-keeps, collect-keeps, note_specifiers-keeps, module_for-stays}
use Rattle.extraction_rules.proofs.WalkLaws.{rule-tag, parts-tag, parts-other, walk_parts}
use Rattle.extraction_rules.proofs.RuleLaws.{in_rule, takes_target, step-without, rule-targets}
use Rattle.extraction_rules.proofs.ShapeLaws.{Shaped, ShapedAll, Specifiers, target-step, import-parts, usages-specifiers}
use Rattle.extraction_rules.proofs.WithinLaws.{note_specifiers-within, used-width, parts-within, enter-widths, not-module, value-row}
use Rattle.extraction_rules.proofs.WithinLaws.{target-not, walk-within, walk_all-within, walk_member-within, walk_assignment-within}
use Rattle.extraction_rules.proofs.WithinLaws.{walk_target-within}
use Rattle.extraction_rules.proofs.RecordedLaws.{WholeRecord, Whole, value-width, bindings-whole, required-width, collect_in-whole, extend-whole, lose-whole, source-whole, force-whole}
use Rattle.extraction_rules.proofs.ResultLaws.{Result, Results, Widths, widths-common}

-- ---- The rules

module _ (e : Setting) where
  module_for-whole : (a : List ℕ) (p : ℕ) (s : State) → Whole s → Keeps Whole (module_for e a p s)
  module_for-whole a p s h = after-weaken (module_for e a p s) (λ n t. t ≡ set_modules t.modules s) (λ r s. Whole s) (λ n t k. subst Whole (sym k) h) (module_for-stays e a p s)

  use_property-whole : (o : Option ℕ) (i : List ℕ) (q : Field) (at p : ℕ) (s : State) → Whole s → Keeps Whole (use_property o i q at p s)
  unfolding use_property
  use_property-whole None i q at p s h = h
  use_property-whole (Some n) i q at p s h = after-if (has 0x72 q) (refuse 7 at) _ s (λ r s. Whole s) (λ _. tt) (λ _. add_usage-keeps Whole _ p s h)

  use_from-whole : (o : Option Record) (i : List ℕ) (q : Field) (at p : ℕ) (s : State) → Whole s → Keeps Whole (use_from o e i q at p s)
  unfolding use_from
  use_from-whole None i q at p s h = h
  use_from-whole (Some r) i q at p s h =
      then-keeps Whole (module_for e (value_of r.literal) p s) _ (module_for-whole (value_of r.literal) p s h) λ n s h. use_property-whole n i q at p s h

  use_imported-whole : (o : Option (List ℕ)) (i : List ℕ) (q : Field) (at p : ℕ) (s : State) → Whole s → Keeps Whole (use_imported o e i q at p s)
  unfolding use_imported
  use_imported-whole None i q at p s h = h
  use_imported-whole (Some k) i q at p s h =
      after-if (has 0x71 q) (change (force_id i)) _ s (λ r s. Whole s) (λ _. force-whole i s h)
      (λ _. use_from-whole (used_record e.own i s.collected) i q at p s h)

  usage-whole : (m : Option (Field × Field)) (p : ℕ) (s : State) → Whole s → Keeps Whole (usage m e p s)
  unfolding usage
  usage-whole None p s h = h
  usage-whole (Some m) p s h =
      use_imported-whole (imported_as (fixed_of m.0) s.imported) (fixed_of m.0) m.1 (p + 3 + size m.0) p s h

  mark_cjs-whole : (o : Option ℕ) (f : Field) (s : State) → Whole s → Keeps Whole (mark_cjs o f s)
  unfolding mark_cjs
  mark_cjs-whole None f s h = h
  mark_cjs-whole (Some n) f s h = h

  mark_required-whole : (l : List ℕ) (f : Field) (p : ℕ) (s : State) → Whole s → Keeps Whole (mark_required e l f p s)
  unfolding mark_required
  mark_required-whole l f p s h = then-keeps Whole (module_for e (value_of l) p s) _ (module_for-whole (value_of l) p s h) λ n s h. mark_cjs-whole n f s h

  add_lazy-whole : (r : Record) (p : ℕ) (s : State) → WholeRecord r → Whole s → Keeps Whole (add_lazy r p s)
  unfolding add_lazy
  add_lazy-whole r p s k h =
      room-keeps Whole (length (s.lazy ++ (r ∷ []))) 1024 p (set_lazy (s.lazy ++ (r ∷ []))) s (h.0, all-last WholeRecord s.lazy r h.1 k, h.2)

  collect-whole : (r : Record) (p : ℕ) (s : State) → WholeRecord r → Whole s → Keeps Whole (collect r p s)
  collect-whole r p s k h = collect-keeps Whole r p s (collect_in-whole r s.collected k h.0, h.1, h.2)

  require-whole : (o : Option (List ℕ)) (f : Field) (p : ℕ) (s : State) → ((l : List ℕ) → o ≡ Some l → length l ≡ 6) → Whole s →
      Keeps Whole (require o e f p s)
  unfolding require
  require-whole None f p s k h = h
  require-whole (Some l) f p s k h =
      let r : Record = record { literal = l; specifiers = none } in
      then-keeps Whole (mark_required e l f p s) _ (mark_required-whole l f p s h) λ g s h.
      then-keeps Whole (cond s.top (collect r p) (add_lazy r p) s) _
      (after-if s.top (collect r p) (add_lazy r p) s (λ r s. Whole s) (λ _. collect-whole r p s (k l refl, tt) h)
      (λ _. add_lazy-whole r p s (k l refl, tt) h)) λ _ s h. h

  export_specifier-whole : (x : List ℕ) (p : ℕ) (s : State) → Whole s → Keeps Whole (export_specifier e x p s)
  unfolding export_specifier
  export_specifier-whole x p s h =
      after-if (eqb (get_or x 0 0) 2 || eqb (get_or x 7 0) 2) (refuse 6 p) _ s (λ r s. Whole s) (λ _. tt) (λ _. force-whole (id_at x 1) s h)

  require_lazily-whole : (o : Option (List ℕ)) (q i : Field) (p : ℕ) (s : State) → ((l : List ℕ) → o ≡ Some l → length l ≡ 6) → Shaped q →
      Whole s → Keeps Whole (require_lazily o e q i p s)
  unfolding require_lazily
  require_lazily-whole None q i p s k m h = h
  require_lazily-whole (Some l) q i p s k m h =
      then-keeps Whole (mark_required e l i p s) _ (mark_required-whole l i p s h) λ j s h.
      then-keeps Whole (add_lazy (record { literal = l; specifiers = bindings q }) p s) _ (add_lazy-whole _ p s (k l refl, bindings-whole q m) h) λ _ s h. h

  declarator-whole : (cs : Fields) (r : Rule) (p : ℕ) (s : State) → ShapedAll cs r → Whole s → Keeps Whole (declarator e cs p s)
  unfolding declarator
  declarator-whole none r p s k h = h
  declarator-whole (more q none) r p s k h = h
  declarator-whole (more q (more i rest)) r p s k h =
      then-keeps Whole (require_lazily (required e i) e q i p s) _
      (require_lazily-whole (required e i) q i p s (λ l w. required-width e i l k.3.2 w) k.2 h) λ j s h. h

  expression-whole : (j : Pass) (f : Field) (object : Bool) (p : ℕ) (s : State) → Shaped f → Whole s →
      Keeps Whole (after_expression j e f object p s)
  unfolding after_expression
  expression-whole first f object p s k h =
      after-if (has 0x60 f && not object) _ _ s (λ r s. Whole s) (λ _. force-whole (fixed_of f) s h)
      (λ _. then-keeps Whole (usage (on_ident f) e p s) _ (usage-whole (on_ident f) p s h) λ _ s h.
      require-whole (required e f) f p s (λ l w. required-width e f l k w) h)
  expression-whole second f object p s k h = h

  -- ---- '10, not external'

  import_first-whole : (x : List ℕ) (ds : Fields) (p : ℕ) (s : State) → Exact 0x10 x → ShapedAll ds (rule_of 0x10) → Widths s → Whole s →
      Keeps Whole (import_first e x ds p s)
  unfolding import_first
  import_first-whole x ds p s k m w h =
      after-if (external e x) (give (field 0x10 x ds)) _ s (λ r s. Whole s) (λ _. h)
      (λ _. after-bind (module_for e (value_of x) p s) _ (λ n s. Widths s × Whole s) (λ r s. Whole s)
      (after-both (module_for e (value_of x) p s) (λ n s. Widths s) (λ n s. Whole s) (module_for-keeps e Widths (widths-common e).requires (value_of x) p s w)
      (module_for-whole (value_of x) p s h)) λ n s a.
      after-bind (note_specifiers n (specifiers_in ds) (inside p x) s) _ (λ gs s. (Specifiers gs × Widths s) × Whole s) (λ r s. Whole s)
      (after-both (note_specifiers n (specifiers_in ds) (inside p x) s) (λ gs s. Specifiers gs × Widths s) (λ gs s. Whole s)
      (note_specifiers-within e n (specifiers_in ds) (inside p x) s (import-parts ds m).0 a.0)
      (note_specifiers-keeps Whole (λ s m h. h) n (specifiers_in ds) (inside p x) s a.1)) λ gs s b.
      then-keeps Whole (collect (record { literal = x; specifiers = gs }) p s) _ (collect-whole _ p s (plain-width 0x10 Literal refl x refl k, b.0.0) b.1) λ _ s h. h)

  -- ---- The second pass

  take_apart-whole : (us : List Usage) (x : List ℕ) (cs : Fields) (s : State) → All (λ u. length u.property ≡ 6) us → Exact 0x10 x →
      Whole s → Keeps Whole (take_apart us x cs s)
  unfolding take_apart
  take_apart-whole [] x cs s u k h =
      source-cases (value_of x) s Whole (λ _. h) (source-whole (value_of x) s (value-width x (plain-width 0x10 Literal refl x refl k)) h)
  take_apart-whole (v ∷ us) x cs s u k h = (
    all-map WholeRecord WholeRecord (extend x (specifiers_from (v ∷ us))) s.collected
        (λ r w. extend-whole x (specifiers_from (v ∷ us)) r (usages-specifiers (v ∷ us) u) w) h.0,
    h.1,
    h.2,
  )

  on_sole-whole : (o : Option Field) (x : List ℕ) (cs : Fields) (s : State) → Exact 0x10 x → Widths s → Whole s → Keeps Whole (on_sole o x cs s)
  unfolding on_sole
  on_sole-whole None x cs s k w h = h
  on_sole-whole (Some f) x cs s k w h =
      after-if (has 0x22 f) _ (give (field 0x10 x cs)) s (λ r s. Whole s)
      (λ _. take_apart-whole (usages_of (fixed_of f) s.usages) x cs s (used-width e (fixed_of f) s w) k h) (λ _. h)

  import_second-whole : (x : List ℕ) (cs : Fields) (s : State) → Exact 0x10 x → Widths s → Whole s → Keeps Whole (import_second e x cs s)
  unfolding import_second
  import_second-whole x cs s k w h =
      after-if (external e x || among (value_of x) s.forced) (give (field 0x10 x cs)) (on_sole (sole (specifiers_in cs)) x cs) s (λ r s. Whole s)
      (λ _. h) (λ _. on_sole-whole (sole (specifiers_in cs)) x cs s k w h)

  import-whole : (j : Pass) (x : List ℕ) (ds : Fields) (p : ℕ) (s : State) → Exact 0x10 x → ShapedAll ds (rule_of 0x10) → Widths s → Whole s →
      Keeps Whole (after_import j e x ds p s)
  unfolding after_import
  import-whole first x ds p s k m w h = import_first-whole x ds p s k m w h
  import-whole second x ds p s k m w h = import_second-whole x ds s k w h

  wrap_all-whole : (l : List (List ℕ)) (s : State) → Whole s → Keeps Whole (wrap_all e l s)
  unfolding wrap_all wrap_module
  wrap_all-whole [] s h = h
  wrap_all-whole (a ∷ l) s h =
      then-keeps Whole (module_for e a 0 s) _ (module_for-whole a 0 s h) λ n s h. then-keeps Whole (wrap_module n s) _ (wrap n s h) λ _ s h. wrap_all-whole l s h
    where
      wrap : (o : Option ℕ) (s : State) → Whole s → Keeps Whole (wrap_module o s)
      wrap None s h = h
      wrap (Some n) s h = h

  pub finish-whole : (s : State) → Whole s → Keeps Whole (finish e s)
  unfolding finish
  finish-whole s h =
      then-keeps Whole (wrap_all e s.forced s) _ (wrap_all-whole s.forced s h) λ _ s h.
      (all-map WholeRecord WholeRecord (lose_namespaces s.forced) s.collected (λ r w. lose-whole s.forced r w) h.0, h.1, h.2)

  -- ---- The walk

  after-whole : (r : Kind) (t : ℕ) (x : List ℕ) (ds : Fields) (object : Bool) (p : ℕ) (s : State) → rule_for t ≡ r → Exact t x →
      ShapedAll ds (rule_of t) → Widths s → Whole s → Keeps Whole (after r e t x ds object p s)
  unfolding after
  after-whole import t x ds object p s v k m w h =
      let q = rule-tag t import v in
      import-whole e.pass x ds p s (subst (λ (u : ℕ). Exact u x) q k) (subst (λ (u : ℕ). ShapedAll ds (rule_of u)) q m) w h
  after-whole exporting t x ds object p s v k m w h = export_specifier-whole x p s h
  after-whole declare t x ds object p s v k m w h = then-keeps Whole (declarator e ds p s) _ (declarator-whole ds (rule_of t) p s m h) λ gs s h. h
  after-whole express t x ds object p s v k m w h = expression-whole e.pass (field t x ds) object p s (k, m) h
  after-whole plain t x ds object p s v k m w h = h

  enter-whole : (t : ℕ) (s : State) → Whole s → Whole (enter t s)
  enter-whole t s h = enter-keeps Whole (λ s b h. h) t s h

  -- one field, then the rest of a row
  row-whole : (m : Act Field) (n : Act Fields) (s : State) (f : Field) → After (m s) (λ g s'. Result f g × Widths s') → Keeps Whole (m s) →
      ((s : State) → Widths s → Whole s → Keeps Whole (n s)) →
      Keeps Whole (onto (m s) (λ r. onto (n r.1) (λ u. give (more r.0 u.0) u.1)))
  row-whole m n s f a b k =
      after-bind (m s) _ (λ g s'. (Result f g × Widths s') × Whole s') (λ r s. Whole s)
      (after-both (m s) (λ g s'. Result f g × Widths s') (λ g s'. Whole s') a b) λ g s c. then-keeps Whole (n s) _ (k s c.0.1 c.1) λ gs s h. h

  abbrev RowWhole : (ℕ → Act Fields) → Fields → Type 0
  RowWhole m cs = (q : Rule) → in_rule takes_target q ≡ false → ShapedAll cs q → (p : ℕ) (s : State) → Widths s → Whole s → Keeps Whole (m p s)

  parts-whole : (v : Parts) (t : ℕ) (cs : Fields) (object : Bool) (p : ℕ) (s : State) → parts_for t ≡ v → ShapedAll cs (rule_of t) →
      ((b : Bool) → RowWhole (walk_all cs e b) cs) → RowWhole (walk_member cs e) cs →
      (ShapedAll cs (rule_of 0x66) → Keeps Whole (walk_assignment cs e object p s)) → Widths s → Whole s →
      Keeps Whole (walk_parts v cs e object p s)
  parts-whole unwalked t cs object p s v k all mem asg w h = h
  parts-whole member t cs object p s v k all mem asg w h =
      mem (rule_of t) (rule-targets t (parts-other t member v (λ q. let z : ◌≡◌ {A = ℕ} 0 1 = cc in omega arith))) k p s w h
  parts-whole super t cs object p s v k all mem asg w h =
      all false (rule_of t) (rule-targets t (parts-other t super v (λ q. let z : ◌≡◌ {A = ℕ} 0 1 = cc in omega arith))) k p s w h
  parts-whole assignment t cs object p s v k all mem asg w h =
      asg (subst (λ (u : ℕ). ShapedAll cs (rule_of u)) (parts-tag t assignment v) k)
  parts-whole children t cs object p s v k all mem asg w h =
      all object (rule_of t) (rule-targets t (parts-other t children v (λ q. let z : ◌≡◌ {A = ℕ} 0 1 = cc in omega arith))) k p s w h

  mutual
    unfolding walk

    pub walk-whole : (f : Field) (object : Bool) (p : ℕ) (s : State) → Shaped f → (tag_of f ≡ 0x01 → ⊥) → Widths s → Whole s →
        Keeps Whole (walk f e object p s)
    walk-whole (field t x cs) object p s k n w h =
        let m = walk_parts (parts_for t) cs e object (inside p x) (enter t s) in
        after-bind m _ (λ ds s'. (Results cs ds (rule_of t) × Widths s') × Whole s') (λ r s. Whole s)
        (after-both m (λ ds s'. Results cs ds (rule_of t) × Widths s') (λ ds s'. Whole s')
        (parts-within e (parts_for t) t cs object (inside p x) (enter t s) refl k.1 (λ b q w h p s v. walk_all-within e cs q b p s w h v)
        (λ q w h p s v. walk_member-within e cs q p s w h v)
        (λ k. walk_assignment-within e cs object (inside p x) (enter t s) k (enter-widths e t s w)) (enter-widths e t s w))
        (parts-whole (parts_for t) t cs object (inside p x) (enter t s) refl k.1 (λ b q v k p s w h. walk_all-whole cs q b p s v k w h)
        (λ q v k p s w h. walk_member-whole cs q p s v k w h)
        (λ k. walk_assignment-whole cs object (inside p x) (enter t s) k (enter-widths e t s w) (enter-whole t s h)) (enter-widths e t s w)
        (enter-whole t s h))) λ ds s a.
        after-whole (rule_for t) t x ds object p s refl k.0 a.0.0.shaped a.0.1 a.1

    pub walk_all-whole : (fs : Fields) (q : Rule) (object : Bool) (p : ℕ) (s : State) → in_rule takes_target q ≡ false → ShapedAll fs q →
        Widths s → Whole s → Keeps Whole (walk_all fs e object p s)
    walk_all-whole none q object p s v k w h = h
    walk_all-whole (more f fs) q object p s v k w h =
        row-whole (walk f e object p) (walk_all fs e object (p + size f)) s f
        (walk-within e f object p s k.2 (not-module e q k.0 (tag_of f) v k.1) w)
        (walk-whole f object p s k.2 (not-module e q k.0 (tag_of f) v k.1) w h)
        (λ s w h. walk_all-whole fs k.0 object (p + size f) s (step-without takes_target q k.0 (tag_of f) v k.1) k.3 w h)

    walk_member-whole : (fs : Fields) (q : Rule) (p : ℕ) (s : State) → in_rule takes_target q ≡ false → ShapedAll fs q → Widths s → Whole s →
        Keeps Whole (walk_member fs e p s)
    walk_member-whole none q p s v k w h = h
    walk_member-whole (more f fs) q p s v k w h =
        row-whole (walk f e true p) (walk_all fs e false (p + size f)) s f
        (walk-within e f true p s k.2 (not-module e q k.0 (tag_of f) v k.1) w)
        (walk-whole f true p s k.2 (not-module e q k.0 (tag_of f) v k.1) w h)
        (λ s w h. walk_all-whole fs k.0 false (p + size f) s (step-without takes_target q k.0 (tag_of f) v k.1) k.3 w h)

    walk_assignment-whole : (fs : Fields) (object : Bool) (p : ℕ) (s : State) → ShapedAll fs (rule_of 0x66) → Widths s → Whole s →
        Keeps Whole (walk_assignment fs e object p s)
    walk_assignment-whole none object p s k w h = h
    walk_assignment-whole (more f fs) object p s k w h =
        let i = target-step (tag_of f) k.0 k.1 in
        let n = target-not e (tag_of f) i.0 in
        after-bind (walk_target f e p s) _ (λ g s'. ((Result f g × (tag_of g ≡ tag_of f)) × Widths s') × Whole s') (λ r s. Whole s)
        (after-both (walk_target f e p s) (λ g s'. (Result f g × (tag_of g ≡ tag_of f)) × Widths s') (λ g s'. Whole s')
        (walk_target-within e f p s k.2 n.0 n.1 w) (walk_target-whole f p s k.2 n.1 w h)) λ g s₁ a.
        then-keeps Whole (walk_all fs e object (p + size f) s₁) _
        (walk_all-whole fs k.0 object (p + size f) s₁ (value-row e k.0 i.1) k.3 a.0.1 a.1) λ gs s h. h

    walk_target-whole : (f : Field) (p : ℕ) (s : State) → Shaped f → eqb (tag_of f) 0x66 ≡ false → Widths s → Whole s →
        Keeps Whole (walk_target f e p s)
    walk_target-whole (field t x cs) p s k m w h =
        then-keeps Whole (walk_member cs e (inside p x) s) _ (walk_member-whole cs (rule_of t) (inside p x) s (rule-targets t m) k.1 w h) λ ds s h. h
