-- Calls: one that does not meet the require conditions is its walked parts; one that does is then amended.
use Rattle.std.specs.Prelude.{Option, None, Some, Ok, Err}
use Prim.Native.Nat.{ℕ, ◌+◌, ◌≤◌}
use mathlib.Core.Path.{◌≡◌, refl, sym, ap, subst, ◌∙◌}
use mathlib.Core.Bool.{Bool}
use mathlib.Core.List.{List, [], append-nil}
use lib.ListN.{get_or}
use Rattle.tree.specs.Layout.{Bytes}
use Rattle.tree.specs.Tree.{Field, field, Fields, encode}
use Rattle.tree.specs.Standing.{tree_at, row_at}
use Rattle.tree.proofs.SoundLaws.{row-sound}
use Rattle.tree.proofs.WidthLaws.{tree-bare, bare-upto}
use Rattle.writer.proofs.Wrote.{wrote-as}
use Rattle.inputs.specs.Outcome.{Outcome, done, refused, onto}
use Rattle.inputs.specs.Fields.{inside}
use Rattle.extraction_rules.specs.State.{State, Pass, first, second, Setting, Act}
use Rattle.extraction_rules.specs.First.{required, require}
use Rattle.extraction_rules.specs.Walk.{after_expression, walk, walk_all}
use Rattle.extraction_rules.proofs.OutcomeLaws.{After, after-done, after-both, after-weaken}
use Rattle.extraction_rules.proofs.ShapeLaws.{ShapedAll, formed-shaped-all}
use Rattle.state.specs.Cells.{Env, literal_by, Valued, Shows}
use Rattle.state.specs.declared.Literal.{Literal}
use Rattle.expressions.specs.After.{required_after}
use Rattle.expressions.specs.Require.{SourceIs, RequiredIs}
use Rattle.expressions.proofs.RequiredLaws.{parts-required}
use Rattle.steps.specs.Refusal.{Refusal}
use Rattle.steps.specs.Step.{Reads, Sound, SoundAll, Step}
use Rattle.steps.proofs.SoundLaws.{sound-parts}
use Rattle.steps.proofs.StepsLaws.{done-refused, steps-by}
use Rattle.walking.specs.declared.Way.TheVariants.{Children}
use Rattle.walking.specs.Walking.{FieldSteps, row_by, node_by, InPass, Called, Amends}
use Rattle.walking.proofs.TagLaws.{around, walk-65, first-65, second-65}
use Rattle.walking.proofs.CalledLaws.{FourBytes, four-shown, walked-called}
use Rattle.walking.proofs.AmendLaws.{Bare}

-- rows that were read are by the grammar
pub sound-shaped : {s : List ℕ} {at end : ℕ} → Bytes s → at ≤ end → (w : SoundAll s at end) → ShapedAll (row_at s at end) w.rule
sound-shaped {s} {at} {end} b le w = formed-shaped-all (row_at s at end) w.rule (row-sound s at end w.rule b le w.fits w.row).1

-- what was asked for, by the answer
module _ {f : Setting → State → Option (List ℕ)} {s t : List ℕ} {r : Option Literal} (m : RequiredIs f s t r) where
  pub source-other : r ≡ None → (x : Env) (u : State) → Shows x t u → Reads x s → f x.setting u ≡ None
  source-other e x u w k = subst (SourceIs x (f x.setting u)) e (m.is u w k)

  pub source-is : {n : Literal} → r ≡ Some n → (x : Env) (u : State) → Shows x t u → Reads x s → (f x.setting u ≡ Some (literal_by x n)) × Valued x n
  source-is e x u w k = subst (SourceIs x (f x.setting u)) e (m.is u w k)

module _ (object : Bool) (s : List ℕ) (bytes : Bytes s) (at stop : ℕ) (h : at + 3 ≤ stop) (q : get_or s at 0 ≡ 0x65) where
  abbrev Row65 : Fields
  Row65 = row_at s (at + 3) stop

  -- the call with its parts walked
  abbrev pub call_parts : Env → Act Field
  call_parts = λ y. node_by (Children object) (tree_at s at stop) y.setting at

  parts-65 : (y : Env) (u : State) → call_parts y u ≡ around 0x65 [] (walk_all Row65 y.setting object (inside at [])) u
  unfolding node_by row_by
  parts-65 y u = ap (λ (f : Field). node_by (Children object) f y.setting at u) (tree-bare 0x65 refl s at stop h q)

  -- ---- In the second pass

  pub call-second : {t out t' out' : List ℕ} {o : ℕ} {k : Step} → InPass second t → FieldSteps s at stop call_parts t out o t' out' k →
      FieldSteps s at stop (λ y. walk (tree_at s at stop) y.setting object at) t out o t' out' k
  call-second two m =
      steps-by _ m (λ y u w k. (
        k,
        ap (λ (f : Field). walk f y.setting object at u) (tree-bare 0x65 refl s at stop h q) ∙ walk-65 y.setting [] Row65 object at u
            ∙ go y.setting (two y u w) (walk_all Row65 y.setting object (inside at []) u) ∙ sym (parts-65 y u),
      ))
    where
      go : (e : Setting) → e.pass ≡ second → (m : Outcome (Fields × State)) →
          onto m (λ r. after_expression e.pass e (field 0x65 [] r.0) object at r.1) ≡ onto m (λ r. done (field 0x65 [] r.0, r.1))
      go e z (done r) = ap (λ (b : Pass). after_expression b e (field 0x65 [] r.0) object at r.1) z ∙ second-65 e [] r.0 object at r.1
      go e z (refused n p) = refl

  -- ---- In the first pass

  abbrev requiring : Setting → Field × State → Outcome (Field × State)
  requiring e a = require (required e a.0) e a.0 at a.1

  walk-call : (y : Env) → y.setting.pass ≡ first → (u : State) → walk (tree_at s at stop) y.setting object at u ≡ onto (call_parts y u) (requiring y.setting)
  walk-call y one u =
      ap (λ (f : Field). walk f y.setting object at u) (tree-bare 0x65 refl s at stop h q) ∙ walk-65 y.setting [] Row65 object at u
      ∙ go (walk_all Row65 y.setting object (inside at []) u) ∙ sym (ap (λ (m : Outcome (Field × State)). onto m (requiring y.setting)) (parts-65 y u))
    where
      go : (m : Outcome (Fields × State)) →
          onto m (λ r. after_expression y.setting.pass y.setting (field 0x65 [] r.0) object at r.1) ≡ onto (onto m (λ r. done (field 0x65 [] r.0, r.1)))
          (requiring y.setting)
      go (done r) =
          ap (λ (b : Pass). after_expression b y.setting (field 0x65 [] r.0) object at r.1) one ∙ first-65 y.setting [] r.0 object at r.1
      go (refused n p) = refl

  -- what is known of its walked parts: whether they meet the require conditions was told before
  abbrev Told : Setting → State → Field → Type 0
  Told e u f = (required e f ≡ required_after e (tree_at s at stop) u) × ((l : List ℕ) → required e f ≡ Some l → Called f)

  facts : (y : Env) (u : State) → FourBytes u → Sound s at stop → After (call_parts y u) (λ f v. Told y.setting u f)
  facts y u f w =
      let r = sound-parts w (bare-upto 0x65 refl s (get_or s at 0) (at + 3) stop q h) in
      subst (λ (m : Outcome (Field × State)). After m (λ g v. Told y.setting u g)) (sym (parts-65 y u))
      (go y.setting (walk_all Row65 y.setting object (inside at []) u)
      (after-both (walk_all Row65 y.setting object (inside at []) u) _ _ (parts-required y.setting [] Row65 object (inside at []) u r.regular)
      (walked-called y.setting Row65 r.rule object (inside at []) u f r.regular (sound-shaped bytes h r))))
    where
      go : (e : Setting) (m : Outcome (Fields × State)) →
          After m
          (λ ds v. (required e (field 0x65 [] ds) ≡ required_after e (field 0x65 [] Row65) u)
          × ((l : List ℕ) → required e (field 0x65 [] ds) ≡ Some l → Called (field 0x65 [] ds))) →
          After (onto m (λ r. done (field 0x65 [] r.0, r.1))) (λ g v. Told e u g)
      go e (done r) k = (k.0 ∙ ap (λ (f : Field). required_after e f u) (sym (tree-bare 0x65 refl s at stop h q)), k.1)
      go e (refused n p) k = tt

  unrequired : (e : Setting) (m : Outcome (Field × State)) → After m (λ f v. required e f ≡ None) → onto m (requiring e) ≡ m
  unfolding require
  unrequired e (done r) k = ap (λ (l : Option (List ℕ)). require l e r.0 at r.1) k
  unrequired e (refused n p) k = refl

  module _ {t : List ℕ} (one : InPass first t) where
    pub call-plain : {out t' out' : List ℕ} {o : ℕ} {k : Step} {r : Option Literal} → RequiredIs (λ e. required_after e (tree_at s at stop)) s t r → r ≡ None →
        FieldSteps s at stop call_parts t out o t' out' k → FieldSteps s at stop (λ y. walk (tree_at s at stop) y.setting object at) t out o t' out' k
    call-plain n z m =
        steps-by _ m (λ y u w k. (
          k,
          walk-call y (one y u w) u
              ∙ unrequired y.setting (call_parts y u)
              (after-weaken (call_parts y u) _ (λ f v. required y.setting f ≡ None) (λ f v i. i.0 ∙ source-other n z y u w k.1) (facts y u (four-shown w) k.0)),
        ))

    -- its parts are refused
    pub call-turned : {out t' out' : List ℕ} {o : ℕ} {v : Refusal} → FieldSteps s at stop call_parts t out o t' out' (Err v) →
        FieldSteps s at stop (λ y. walk (tree_at s at stop) y.setting object at) t out o t' out' (Err v)
    call-turned m =
        record {
          size = m.size;
          made = λ p z u w k. done-refused z refl;
          turned = λ j z {x = y} u w k.
              walk-call y (one y u w) u ∙ ap (λ (i : Outcome (Field × State)). onto i (requiring y.setting)) (m.turned j z u w k);
        }

    -- they are walked, and the call is amended
    pub call-required : (n : Literal) {out t1 out1 t2 out2 : List ℕ} {o p : ℕ} {k : Step} {r : Option Literal} → RequiredIs (λ e. required_after e (tree_at s at stop)) s t r → r ≡ Some n →
        FieldSteps s at stop call_parts t out o t1 out1 (Ok p) →
        Amends (Bare n) (λ y f. require (Some (literal_by y n)) y.setting f at) o p t1 out1 t2 out2 k →
        FieldSteps s at stop (λ y. walk (tree_at s at stop) y.setting object at) t out o t2 out2 k
    call-required n {out} {t1} {out1} {o = o} {p} told e m a =
        record {
          size = a.size ∙ m.size;
          made = λ i z {x = y} u w k.
              let d = m.made p refl u w k in
              let f = after-done (call_parts y u) _ (d.value, d.state) d.is (facts y u (four-shown w) k.0) in
              let v = source-is told e y u w k.1 in
              let l : required y.setting d.value ≡ Some (literal_by y n) = f.0 ∙ v.0 in
              let g = a.made i z d.state d.shows (k.1.nothing_bound, v.1) out d.value [] (f.1 (literal_by y n) l)
              (wrote-as d.wrote (sym (append-nil (encode d.value)))) in
              record {
                value = g.value;
                state = g.state;
                is = joined y (one y u w) u d.value d.state d.is l ∙ g.is;
                wrote = wrote-as g.wrote (append-nil (encode g.value));
                shows = g.shows;
              };
          turned = λ j z {x = y} u w k.
              let d = m.made p refl u w k in
              let f = after-done (call_parts y u) _ (d.value, d.state) d.is (facts y u (four-shown w) k.0) in
              let v = source-is told e y u w k.1 in
              joined y (one y u w) u d.value d.state d.is (f.0 ∙ v.0) ∙ a.turned j z d.state d.shows (k.1.nothing_bound, v.1) d.value;
        }
      where
        joined : (y : Env) → y.setting.pass ≡ first → (u : State) (f : Field) (v : State) → call_parts y u ≡ done (f, v) → required y.setting f ≡ Some (literal_by y n) →
            walk (tree_at s at stop) y.setting object at u ≡ require (Some (literal_by y n)) y.setting f at v
        joined y b u f v i l =
            walk-call y b u ∙ ap (λ (m : Outcome (Field × State)). onto m (requiring y.setting)) i
            ∙ ap (λ (o : Option (List ℕ)). require o y.setting f at v) l
