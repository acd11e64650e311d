-- The collected records of a run are those that the trees after both passes tell.
use Rattle.std.specs.Prelude.{Option, None, Some}
use Prim.Native.Nat.{ℕ}
use mathlib.Core.Path.{◌≡◌, refl, sym, ap, ap₂, ◌∙◌}
use mathlib.Core.List.{List, [], ◌∷◌, map}
use Rattle.scope.specs.Modules.{Modules}
use Rattle.tree.specs.Layout.{value_of}
use Rattle.tree.specs.Tree.{Fields}
use Rattle.tree.specs.Grammar.{rule_of}
use Rattle.inputs.specs.Table.{Row}
use Rattle.metadata.specs.Metadata.{append}
use Rattle.extraction_rules.specs.State.{Record, State, first, second, Setting, start, set_modules}
use Rattle.extraction_rules.specs.First.{module_for, stays}
use Rattle.extraction_rules.specs.Second.{wrap_module, wrap_all, lose_namespaces, finish}
use Rattle.extraction_rules.specs.Walk.{walk_module, walk_again}
use Rattle.extraction_rules.specs.Call.{Lent, setting}
use Rattle.extraction_rules.proofs.OutcomeLaws.{After, after-bind, after-weaken, after-both}
use Rattle.extraction_rules.proofs.FirstLaws.{lose-literal}
use Rattle.extraction_rules.proofs.StepLaws.{module_for-stays}
use Rattle.extraction_rules.proofs.ShapeLaws.{ShapedAll}
use Rattle.extraction_rules.proofs.ReadableLaws.{Items, run-within}
use Rattle.extraction_rules.proofs.RunLaws.{Sane, start-sane, first-sane}
use Rattle.extraction_rules.proofs.KeepLaws.{Meets}
use Rattle.records.specs.Model.{gathered, taken, specifiers_of, rebuilt}
use Rattle.records.proofs.GatheredLaws.{Written, first-written, first-stays}
use Rattle.records.proofs.TakenLaws.{second-written}

-- ---- The end of the second pass

-- records and forced sources are as they were
abbrev AsBefore : State → State → Type 0
AsBefore s s' = (s'.collected ≡ s.collected) × (s'.forced ≡ s.forced)

wrap-stays : (o : Option ℕ) (s : State) → After (wrap_module o s) (λ _ s'. AsBefore s s')
unfolding wrap_module
wrap-stays None s = (refl, refl)
wrap-stays (Some n) s = (refl, refl)

wraps-stay : (e : Setting) (l : List (List ℕ)) (s : State) → After (wrap_all e l s) (λ _ s'. AsBefore s s')
unfolding wrap_all
wraps-stay e [] s = (refl, refl)
wraps-stay e (a ∷ l) s =
    after-bind (module_for e a 0 s) _ (λ n t. t ≡ set_modules t.modules s) (λ _ s'. AsBefore s s') (module_for-stays e a 0 s) λ n s1 q.
    after-bind (wrap_module n s1) _ (λ _ s'. AsBefore s1 s') (λ _ s'. AsBefore s s') (wrap-stays n s1) λ _ s2 b.
    after-weaken (wrap_all e l s2) (λ _ s'. AsBefore s2 s') (λ _ s'. AsBefore s s')
    (λ _ s' c. (c.0 ∙ b.0 ∙ ap (λ (t : State). t.collected) q, c.1 ∙ b.1 ∙ ap (λ (t : State). t.forced) q)) (wraps-stay e l s2)

finish-loses : (e : Setting) (s : State) → After (finish e s) (λ _ s'. (s'.collected ≡ map (lose_namespaces s.forced) s.collected) × (s'.forced ≡ s.forced))
unfolding finish
finish-loses e s =
    after-bind (wrap_all e s.forced s) _ (λ _ s'. AsBefore s s') _ (wraps-stay e s.forced s) λ _ s1 b.
    (ap₂ (λ (f : List (List ℕ)) (l : List Record). map (lose_namespaces f) l) b.1 b.0, b.1)

-- ---- Records that lost their namespaces

-- records are equal if their parts are
record-is : (r : Record) (fs : Fields) → r.specifiers ≡ fs → record { literal = r.literal; specifiers = fs } ≡ r
record-is r fs h = ap (λ (gs : Fields). record { literal = r.literal; specifiers = gs }) (sym h)

rebuilt-each : (works outs : Fields) (forced : List (List ℕ)) (l : List Record) → Written (specifiers_of works outs) l →
    map (lose_namespaces forced) l ≡ map (rebuilt works outs forced) (map (lose_namespaces forced) l)
unfolding rebuilt
rebuilt-each works outs forced [] h = refl
rebuilt-each works outs forced (r ∷ l) h =
    ap₂ (λ (q : Record) (k : List Record). q ∷ k)
    (ap (lose_namespaces forced) (sym (record-is r (specifiers_of works outs r.literal) h.0))
    ∙ ap (λ (x : List ℕ). lose_namespaces forced (record { literal = x; specifiers = specifiers_of works outs x })) (sym (lose-literal forced r)))
    (rebuilt-each works outs forced l h.1)

-- ---- A run

written-of : (works outs : Fields) (l : List Record) → Written (λ x. append (gathered (value_of x) works) (taken x works outs)) l → Written (specifiers_of works outs) l
unfolding specifiers_of
written-of works outs l h = h

abbrev Rebuilt : Fields → Fields → State → Type 0
Rebuilt works outs s = s.collected ≡ map (rebuilt works outs s.forced) s.collected

again-rebuilt : (e : Setting) → e.pass ≡ second → (works : Fields) (s : State) → ShapedAll works (rule_of 0x01) → Meets stays works →
    Written (λ x. gathered (value_of x) works) s.collected → After (walk_again e works s) (λ outs s'. Rebuilt works outs s')
unfolding walk_again
again-rebuilt e two works s h v w =
    after-bind (walk_module e works s) _ (λ outs s1. Written (λ x. append (gathered (value_of x) works) (taken x works outs)) s1.collected) _
    (second-written e two (λ x. gathered (value_of x) works) works s h v w) λ outs s1 a.
    after-bind (finish e s1) _ (λ _ s'. (s'.collected ≡ map (lose_namespaces s1.forced) s1.collected) × (s'.forced ≡ s1.forced)) _ (finish-loses e s1) λ _ s2 b.
    b.0 ∙ rebuilt-each works outs s1.forced s1.collected (written-of works outs s1.collected a)
    ∙ ap₂ (λ (f : List (List ℕ)) (l : List Record). map (rebuilt works outs f) l) (sym b.1) (sym b.0)

pub run-rebuilt : (l : Lent) (rows : List Row) (own : ℕ) (ms : Modules) (items : Fields) → Items items →
    After (walk_module (setting first own l rows) items (start ms))
    (λ works s. After (walk_again (setting second own l rows) works s) (λ outs s'. s'.collected ≡ map (rebuilt works outs s'.forced) s'.collected))
run-rebuilt l rows own ms items h =
    let one = setting first own l rows in
    let m = walk_module one items (start ms) in
    after-weaken m (λ works s. (Sane one.externals s × Meets stays works) × (_ × _)) _
    (λ works s a. again-rebuilt (setting second own l rows) refl works s a.1.1.0.shaped a.0.1 (a.1.0 a.0.0.distinct a.0.0.own.0))
    (after-both m _ _
    (after-both m (λ works s. Sane one.externals s) (λ works s. Meets stays works) (first-sane one refl items (start ms) (start-sane one.externals ms)) (first-stays one items (start ms)))
    (after-both m _ _ (first-written one refl items ms h.shaped) (run-within l rows own ms items h)))
