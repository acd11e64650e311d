-- After the first pass each collected record has the specifiers that the imports of its source have in the walked tree.
use Rattle.std.specs.Prelude.{Option, None, Some}
use Prim.Native.Nat.{ℕ, ◌+◌}
use mathlib.Core.Path.{◌≡◌, refl, sym, ap, subst, ◌∙◌}
use mathlib.Core.Bool.{Bool, true, false, cond, ◌&&◌, true≢false}
use mathlib.Core.List.{List, [], ◌∷◌}
use lib.Dec.{eqb}
use lib.ListN.{get_or}
use borrow.Author.Tests.{eqb-true, eqb-false, ne_eqb}
use Rattle.scope.specs.Id.{export}
use Rattle.scope.specs.Modules.{Modules}
use Rattle.tree.specs.Layout.{same, four, id_at, value_of}
use Rattle.tree.specs.Tree.{Field, field, Fields, none, more, tag_of, fixed_of, parts_of, size}
use Rattle.tree.specs.Grammar.{rule_of}
use Rattle.tree.proofs.LayoutLaws.{same-refl, same-equal}
use Rattle.metadata.specs.Metadata.{append}
use Rattle.metadata.proofs.EncodeLaws.{append-none, append-rows}
use Rattle.inputs.specs.Outcome.{Outcome, done, refused}
use Rattle.inputs.specs.Lists.{among}
use Rattle.inputs.specs.Fields.{has, keep, inside}
use Rattle.extraction_rules.specs.State.{Record, State, first, Setting, start, give, refuse, set_top, set_modules}
use Rattle.extraction_rules.specs.First.{external, module_for, forget, note_id, note_named, note_specifier, noted_context, note_all, note_specifiers}
use Rattle.extraction_rules.specs.First.{specifiers_in, with_context, collect_in, collect, import_first, stays}
use Rattle.extraction_rules.specs.Walk.{walk, walk_all, walk_module}
use Rattle.extraction_rules.proofs.OutcomeLaws.{After, after-bind, after-weaken, after-both, after-if}
use Rattle.extraction_rules.proofs.TestLaws.{or-neither, cond-same}
use Rattle.extraction_rules.proofs.ListLaws.{All, same-not, not-same, Distinct}
use Rattle.extraction_rules.proofs.FirstLaws.{force-cases, sources_of}
use Rattle.extraction_rules.proofs.StepLaws.{module_for-stays, note_specifiers-keeps, collect-keeps}
use Rattle.extraction_rules.proofs.ValueLaws.{after-any, walk-first}
use Rattle.extraction_rules.proofs.SanityLaws.{OwnRecords}
use Rattle.extraction_rules.proofs.ShapeLaws.{ShapedAll}
use Rattle.extraction_rules.proofs.AlikeLaws.{Regular, walk-alike, alike-tag}
use Rattle.extraction_rules.proofs.RegularLaws.{regular, item-outer}
use Rattle.extraction_rules.proofs.ReadableLaws.{item-step}
use Rattle.extraction_rules.proofs.ItemsLaws.{ItemSteps, item-keeps}
use Rattle.extraction_rules.proofs.StayLaws.{import-stays}
use Rattle.extraction_rules.proofs.KeepLaws.{Meets, keep-meets, not_attributes}
use Rattle.records.specs.Model.{gathered_of, gathered}
use Rattle.records.proofs.PartLaws.{specifiers-context}

-- ---- The record of a source

-- the specifiers of the first record of a source
unfoldable pub specifiers_for : List ℕ → List Record → Fields
specifiers_for v [] = none
specifiers_for v (q ∷ l) = cond (same (value_of q.literal) v) q.specifiers (specifiers_for v l)

-- a record is collected: its source's gets its specifiers, the others stay
collect-for : (v : List ℕ) (r : Record) (l : List Record) →
    specifiers_for v (collect_in r l) ≡ append (specifiers_for v l) (cond (same (value_of r.literal) v) r.specifiers none)
unfolding specifiers_for collect_in append
collect-for v r [] = refl
collect-for v r (q ∷ l) = by (same (value_of q.literal) (value_of r.literal)) refl (collect-for v r l)
  where
    both : (c d : Bool) → c ≡ d → cond c (append q.specifiers r.specifiers) (specifiers_for v l) ≡ append (cond c q.specifiers (specifiers_for v l)) (cond d r.specifiers none)
    both true true e = refl
    both true false e = absurd (true≢false e)
    both false true e = absurd (true≢false (sym e))
    both false false e = sym (append-none (specifiers_for v l))

    other : (c : Bool) → same (value_of q.literal) v ≡ c → same (value_of q.literal) (value_of r.literal) ≡ false →
        specifiers_for v (collect_in r l) ≡ append (specifiers_for v l) (cond (same (value_of r.literal) v) r.specifiers none) →
        cond c q.specifiers (specifiers_for v (collect_in r l)) ≡ append (cond c q.specifiers (specifiers_for v l)) (cond (same (value_of r.literal) v) r.specifiers none)
    other true k e ih =
        let n = same-not (value_of r.literal) v (λ z. not-same (value_of q.literal) (value_of r.literal) e (same-equal (value_of q.literal) v k ∙ sym z)) in
        sym (append-none q.specifiers) ∙ ap (λ (b : Bool). append q.specifiers (cond b r.specifiers none)) (sym n)
    other false k e ih = ih

    by : (b : Bool) → same (value_of q.literal) (value_of r.literal) ≡ b →
        specifiers_for v (collect_in r l) ≡ append (specifiers_for v l) (cond (same (value_of r.literal) v) r.specifiers none) →
        specifiers_for v (cond b (record { literal = q.literal; specifiers = append q.specifiers r.specifiers } ∷ l) (q ∷ collect_in r l)) ≡
        append (cond (same (value_of q.literal) v) q.specifiers (specifiers_for v l)) (cond (same (value_of r.literal) v) r.specifiers none)
    by true e ih =
        both (same (value_of q.literal) v) (same (value_of r.literal) v) (ap (λ (x : List ℕ). same x v) (same-equal (value_of q.literal) (value_of r.literal) e))
    by false e ih = other (same (value_of q.literal) v) refl e ih

-- one without specifiers changes none
collect-empty : (v x : List ℕ) (l : List Record) → specifiers_for v (collect_in (record { literal = x; specifiers = none }) l) ≡ specifiers_for v l
collect-empty v x l =
    collect-for v (record { literal = x; specifiers = none }) l ∙ ap (append (specifiers_for v l)) (cond-same (same (value_of x) v) none) ∙ append-none (specifiers_for v l)

-- where sources differ, each record is the first of its source
each-first : (l : List Record) → Distinct (sources_of l) → All (λ r. specifiers_for (value_of r.literal) l ≡ r.specifiers) l
unfolding specifiers_for among
each-first [] h = tt
each-first (q ∷ l) h =
    (ap (λ (b : Bool). cond b q.specifiers (specifiers_for (value_of q.literal) l)) (same-refl (value_of q.literal)), later l h.0 (each-first l h.1))
  where
    later : (k : List Record) → among (value_of q.literal) (sources_of k) ≡ false → All (λ r. specifiers_for (value_of r.literal) l ≡ r.specifiers) k →
        All (λ r. specifiers_for (value_of r.literal) (q ∷ l) ≡ r.specifiers) k
    later [] n w = tt
    later (r ∷ k) n w =
        let m = or-neither (same (value_of q.literal) (value_of r.literal)) (among (value_of q.literal) (sources_of k)) n in
        (ap (λ (b : Bool). cond b q.specifiers (specifiers_for (value_of r.literal) l)) m.0 ∙ w.0, later k m.1 w.1)

-- the specifiers of each record are those that its literal gives
abbrev pub Written : (List ℕ → Fields) → List Record → Type 0
Written F l = All (λ r. r.specifiers ≡ F r.literal) l

each-written : (externals : List (List ℕ)) (F : List ℕ → Fields) (l : List Record) → Distinct (sources_of l) → OwnRecords externals l →
    ((v : List ℕ) → among v externals ≡ false → specifiers_for v l ≡ F v) → Written (λ x. F (value_of x)) l
each-written externals F l d o h = go l (each-first l d) o
  where
    go : (k : List Record) → All (λ r. specifiers_for (value_of r.literal) l ≡ r.specifiers) k → OwnRecords externals k → Written (λ x. F (value_of x)) k
    go [] w o = tt
    go (r ∷ k) w o = (sym w.0 ∙ h (value_of r.literal) o.0, go k w.1 o.1)

-- ---- What items gather

gathered-import : (v x : List ℕ) (ds : Fields) → gathered_of v (field 0x10 x ds) ≡ cond (same (value_of x) v) (specifiers_in ds) none
unfolding gathered_of
gathered-import v x ds = refl

gathered-other : (v : List ℕ) (g : Field) → (tag_of g ≡ 0x10 → ⊥) → gathered_of v g ≡ none
unfolding gathered_of
gathered-other v g h = ap (λ (b : Bool). cond (b && same (value_of (fixed_of g)) v) (specifiers_in (parts_of g)) none) (ne_eqb (tag_of g) 0x10 h)

keep-gathered : (v : List ℕ) (fs : Fields) → gathered v (keep stays fs) ≡ gathered v fs
unfolding gathered keep append
keep-gathered v none = refl
keep-gathered v (more f fs) = by (stays f) refl (keep-gathered v fs)
  where
    by : (b : Bool) → stays f ≡ b → gathered v (keep stays fs) ≡ gathered v fs → gathered v (cond b (more f (keep stays fs)) (keep stays fs)) ≡ append (gathered_of v f) (gathered v fs)
    by true q h = ap (append (gathered_of v f)) h
    by false q h = h ∙ ap (λ (gs : Fields). append gs (gathered v fs)) (sym (gathered-other v f (λ z. true≢false (sym (import-stays f z) ∙ q))))

-- ---- The first pass

module _ (e : Setting) where
  specifier-meets : (n : ℕ) (f : Field) (p : ℕ) (s : State) → not_attributes f ≡ true → After (note_specifier n f p s) (λ g s'. not_attributes g ≡ true)
  unfolding note_specifier note_named
  specifier-meets n f p s h =
      after-if (has 0x20 f) (note_named n (fixed_of f) p) _ s (λ g s'. not_attributes g ≡ true)
      (λ _. after-if (eqb (get_or (fixed_of f) 6 0) 2) (refuse 6 p) _ s (λ g s'. not_attributes g ≡ true) (λ _. tt)
      (λ _. after-bind (note_id (record { id = id_at (fixed_of f) 0; context = four (export n) }) p s) _ (λ _ _. Unit {0}) (λ g s'. not_attributes g ≡ true)
      (after-any (note_id (record { id = id_at (fixed_of f) 0; context = four (export n) }) p s)) λ _ s _. refl))
      (λ _. after-bind (note_id (record { id = fixed_of f; context = noted_context n f }) p s) _ (λ _ _. Unit {0}) (λ g s'. not_attributes g ≡ true)
      (after-any (note_id (record { id = fixed_of f; context = noted_context n f }) p s)) λ _ s _. h)

  all-meet : (n : ℕ) (fs : Fields) (p : ℕ) (s : State) → Meets not_attributes fs → After (note_all n fs p s) (λ gs s'. Meets not_attributes gs)
  unfolding note_all
  all-meet n none p s h = tt
  all-meet n (more f fs) p s h =
      after-bind (note_specifier n f p s) _ (λ g s'. not_attributes g ≡ true) (λ gs s'. Meets not_attributes gs) (specifier-meets n f p s h.0) λ g s k.
      after-bind (note_all n fs (p + size f) s) _ (λ gs s'. Meets not_attributes gs) (λ gs s'. Meets not_attributes gs) (all-meet n fs (p + size f) s h.1) λ gs s w. (k, w)

  noted-meet : (o : Option ℕ) (fs : Fields) (p : ℕ) (s : State) → Meets not_attributes fs → After (note_specifiers o fs p s) (λ gs s'. Meets not_attributes gs)
  noted-meet None fs p s h = h
  noted-meet (Some n) fs p s h = all-meet n fs p s h

  module _ (v : List ℕ) (own : among v e.externals ≡ false) where
    -- the record of the source gets what the item g gathers
    abbrev Gathers : State → Field → State → Type 0
    Gathers s g s' = specifiers_for v s'.collected ≡ append (specifiers_for v s.collected) (gathered_of v g)

    import-gathers : (x : List ℕ) (cs : Fields) (p : ℕ) (s : State) → After (import_first e x cs p s) (Gathers s)
    unfolding import_first external
    import-gathers x cs p s =
        after-if (external e x) (give (field 0x10 x cs)) _ s (Gathers s)
        (λ b. let n = same-not (value_of x) v (λ z. true≢false (sym b ∙ ap (λ (a : List ℕ). among a e.externals) z ∙ own)) in
        sym (append-none (specifiers_for v s.collected))
        ∙ ap (append (specifiers_for v s.collected)) (ap (λ (c : Bool). cond c (specifiers_in cs) none) (sym n) ∙ sym (gathered-import v x cs)))
        (λ _. after-bind (module_for e (value_of x) p s) _ (λ n t. t ≡ set_modules t.modules s) (Gathers s) (module_for-stays e (value_of x) p s) λ n s1 a.
        after-bind (note_specifiers n (specifiers_in cs) (inside p x) s1) _ (λ fs t. Meets not_attributes fs × (t.collected ≡ s1.collected)) (Gathers s)
        (after-both (note_specifiers n (specifiers_in cs) (inside p x) s1) (λ fs t. Meets not_attributes fs) (λ fs t. t.collected ≡ s1.collected)
        (noted-meet n (specifiers_in cs) (inside p x) s1 (keep-meets not_attributes cs))
        (note_specifiers-keeps (λ t. t.collected ≡ s1.collected) (λ t m h. h) n (specifiers_in cs) (inside p x) s1 refl)) λ fs s2 b.
        after-bind (collect (record { literal = x; specifiers = fs }) p s2) _ (λ _ t. t.collected ≡ collect_in (record { literal = x; specifiers = fs }) s2.collected) (Gathers s)
        (collect-keeps (λ t. t.collected ≡ collect_in (record { literal = x; specifiers = fs }) s2.collected) (record { literal = x; specifiers = fs }) p s2 refl) λ _ s3 c.
        ap (specifiers_for v) c ∙ collect-for v (record { literal = x; specifiers = fs }) s2.collected
        ∙ ap (λ (l : List Record). append (specifiers_for v l) (cond (same (value_of x) v) fs none)) (b.1 ∙ ap (λ (t : State). t.collected) a)
        ∙ ap (append (specifiers_for v s.collected))
        (ap (λ (gs : Fields). cond (same (value_of x) v) gs none) (sym (specifiers-context fs n cs b.0))
        ∙ sym (gathered-import v x (append fs (with_context n cs)))))

    -- behind the imports only records without specifiers are collected
    stays-steps : (w : Fields) → ItemSteps e (λ s. specifiers_for v s.collected ≡ w)
    unfolding forget
    stays-steps w =
        record {
          common =
              record {
                requires = record { on_request = λ s g m ms q h. h; on_cjs = λ s m h. h; on_lazy = λ s r b h. h };
                on_force = λ s i h. force-cases i s (λ s. specifiers_for v s.collected ≡ w) h (λ r w. h);
                on_top = λ s b h. h;
              };
          on_empty = λ s l b h. collect-empty v l s.collected ∙ h;
          on_usage = λ s j p n r q k h. h;
        }

    module _ (one : e.pass ≡ first) where
      item-gathers : (f : Field) (p : ℕ) (s : State) → ((tag_of f ≡ 0x10 → ⊥) → Regular f) → After (walk f e false p s) (Gathers s)
      item-gathers f p s w = go (has 0x10 f) refl
        where
          go : (b : Bool) → has 0x10 f ≡ b → After (walk f e false p s) (Gathers s)
          go true q = subst (λ (m : Outcome (Field × State)). After m (Gathers s)) (sym (walk-first e one f p s (eqb-true (tag_of f) 0x10 q))) (import-gathers (fixed_of f) (parts_of f) p s)
          go false q =
              let n = eqb-false (tag_of f) 0x10 q in
              after-weaken (walk f e false p s) (λ g s'. (specifiers_for v s'.collected ≡ specifiers_for v s.collected) × (tag_of g ≡ tag_of f)) (Gathers s)
              (λ g s' k. k.0 ∙ sym (append-none (specifiers_for v s.collected)) ∙ ap (append (specifiers_for v s.collected)) (sym (gathered-other v g (λ z. n (sym k.1 ∙ z)))))
              (after-both (walk f e false p s) (λ g s'. specifiers_for v s'.collected ≡ specifiers_for v s.collected) (λ g s'. tag_of g ≡ tag_of f)
              (item-keeps e (λ s'. specifiers_for v s'.collected ≡ specifiers_for v s.collected) (stays-steps (specifiers_for v s.collected)) one f false p s (w n) refl)
              (after-weaken (walk f e false p s) (λ g s'. _) (λ g s'. tag_of g ≡ tag_of f) (λ g s'. alike-tag f g) (walk-alike e one f false p s (w n))))

      items-gather : (fs : Fields) (p : ℕ) (s : State) → ShapedAll fs (rule_of 0x01) →
          After (walk_all fs e false p s) (λ gs s'. specifiers_for v s'.collected ≡ append (specifiers_for v s.collected) (gathered v gs))
      unfolding walk_all gathered
      items-gather none p s h = sym (append-none (specifiers_for v s.collected))
      items-gather (more f fs) p s h =
          let i = item-step (tag_of f) h.0 h.1 in
          after-bind (walk f e false p s) _ (Gathers s) _ (item-gathers f p s (λ n. regular f (item-outer (tag_of f) i.0 (ne_eqb (tag_of f) 0x10 n)) h.2)) λ g s1 a.
          after-bind (walk_all fs e false (p + size f) s1) _ (λ gs s'. specifiers_for v s'.collected ≡ append (specifiers_for v s1.collected) (gathered v gs)) _
          (items-gather fs (p + size f) s1 (subst (ShapedAll fs) i.1 h.3)) λ gs s2 b.
          b ∙ ap (λ (k : Fields). append k (gathered v gs)) a ∙ append-rows (specifiers_for v s.collected) (gathered_of v g) (gathered v gs)

      module-gathers : (items : Fields) (ms : Modules) → ShapedAll items (rule_of 0x01) →
          After (walk_module e items (start ms)) (λ works s. specifiers_for v s.collected ≡ gathered v works)
      unfolding walk_module specifiers_for append
      module-gathers items ms h =
          after-bind (walk_all items e false 3 (set_top true (start ms))) _ (λ gs s'. specifiers_for v s'.collected ≡ append none (gathered v gs)) _
          (items-gather items 3 (set_top true (start ms)) h) λ gs s a. a ∙ sym (keep-gathered v gs)

-- for all sources at once
after-own : {A : Type 0} (externals : List (List ℕ)) (m : Outcome (A × State)) (P : List ℕ → A → State → Type 0) →
    ((v : List ℕ) → among v externals ≡ false → After m (P v)) → After m (λ a s. (v : List ℕ) → among v externals ≡ false → P v a s)
after-own externals (done r) P h = h
after-own externals (refused n p) P h = tt

-- so each record has what the imports of its source have
pub first-written : (e : Setting) → e.pass ≡ first → (items : Fields) (ms : Modules) → ShapedAll items (rule_of 0x01) →
    After (walk_module e items (start ms)) (λ works s. Distinct (sources_of s.collected) → OwnRecords e.externals s.collected →
    Written (λ x. gathered (value_of x) works) s.collected)
first-written e one items ms h =
    after-weaken (walk_module e items (start ms)) (λ works s. (v : List ℕ) → among v e.externals ≡ false → specifiers_for v s.collected ≡ gathered v works) _
    (λ works s k d o. each-written e.externals (λ v. gathered v works) s.collected d o k)
    (after-own e.externals (walk_module e items (start ms)) (λ v works s. specifiers_for v s.collected ≡ gathered v works)
    (λ v own. module-gathers e v own one items ms h))

-- and what the first pass leaves stays in the second
pub first-stays : (e : Setting) (items : Fields) (s : State) → After (walk_module e items s) (λ works s'. Meets stays works)
unfolding walk_module
first-stays e items s = after-bind (walk_all items e false 3 (set_top true s)) _ (λ _ _. Unit {0}) _ (after-any (walk_all items e false 3 (set_top true s))) λ gs s _. keep-meets stays gs
