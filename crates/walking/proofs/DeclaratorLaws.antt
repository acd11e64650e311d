-- Declarators: the pattern, then what stands behind it; an initialiser that meets the require conditions is amended.
use Rattle.std.specs.Prelude.{Option, None, Some, Ok, Err}
use Prim.Native.Nat.{ℕ, ◌+◌, ◌≤◌, ◌<◌}
use native.Mathlib.Omega.{arith}
use mathlib.Core.Path.{◌≡◌, refl, sym, ap, subst, ◌∙◌}
use mathlib.Core.Bool.{Bool, true, false}
use mathlib.Core.List.{List, [], ◌++◌, append-nil}
use lib.Dec.{eqb}
use lib.ListN.{get_or}
use lib.Seq.{length-take-le}
use borrow.Author.Tests.{eqb-true, eqb-false}
use Rattle.scope.specs.Id.{export}
use Rattle.scope.proofs.Laws.{none-some}
use Rattle.tree.specs.Layout.{Bytes, name_of}
use Rattle.tree.specs.Tree.{Field, field, Fields, none, more, tag_of, fixed_of, encode, encodes, size}
use Rattle.tree.specs.Access.{fixed_at, extent_at}
use Rattle.tree.specs.Standing.{tree_at, row_at}
use Rattle.tree.proofs.AccessLaws.{extent-upto}
use Rattle.tree.proofs.StandingLaws.{row-more, row-none, tree-upto, tree-short}
use Rattle.tree.proofs.WidthLaws.{tree-bare}
use Rattle.tree.proofs.TreeLaws.{encodes-none, encodes-more}
use Rattle.writer.proofs.Wrote.{wrote-as}
use Rattle.inputs.specs.Outcome.{Outcome, done, refused, onto}
use Rattle.inputs.specs.Fields.{inside}
use Rattle.extraction_rules.specs.State.{State, Pass, first, second, Setting}
use Rattle.extraction_rules.specs.First.{id_from, required, with_callee, require_lazily, declarator}
use Rattle.extraction_rules.specs.Walk.{after_expression, walk, walk_all}
use Rattle.extraction_rules.proofs.OutcomeLaws.{After, after-bind, after-done, after-both, after-weaken}
use Rattle.extraction_rules.proofs.ValueLaws.{after-any, first-expression}
use Rattle.extraction_rules.proofs.ExactLaws.{id-width}
use Rattle.extraction_rules.proofs.AlikeLaws.{Regular}
use Rattle.extraction_rules.proofs.ShapeLaws.{Shaped, ShapedAll}
use Rattle.state.specs.Cells.{Env, literal_by}
use Rattle.state.specs.declared.Literal.{Literal}
use Rattle.expressions.specs.After.{required_after}
use Rattle.expressions.specs.Require.{RequiredIs}
use Rattle.expressions.proofs.RequiredLaws.{none-after, walk-required}
use Rattle.expressions.proofs.BindingLaws.{walk-binds}
use Rattle.steps.specs.Refusal.{Refusal}
use Rattle.steps.specs.Step.{Reads, SoundAll, Step, Steps}
use Rattle.steps.proofs.SoundLaws.{read-size, read-inside, sound_all-first, sound_all-rest}
use Rattle.steps.proofs.StepsLaws.{done-refused, steps-by, steps-as, steps-give, steps-map, pair_of, steps-pair, steps-turned}
use Rattle.walking.specs.Walking.{FieldSteps, initialised, behind, declared, Sole, Declares, Behind, Called, Amends}
use Rattle.walking.proofs.TagLaws.{walk-65, second-65}
use Rattle.walking.proofs.RowLaws.{all-more, all-none}
use Rattle.walking.proofs.CalledLaws.{FourBytes, four-shown, walked-called}
use Rattle.walking.proofs.CallWalkLaws.{sound-shaped, source-other, source-is}
use Rattle.walking.proofs.AmendLaws.{Bound}

-- ---- A walked initialiser that meets the require conditions is a call with a callee of six bytes

callee-called : (n : ℕ) (f : Field) → Called f → Called (with_callee n f)
unfolding with_callee
callee-called n f (y, ds, gs, z, w) =
    (id_from (name_of y) (export n), ds, gs, ap (with_callee n) z, id-width (name_of y) (export n) (length-take-le 2 y (omega arith)))

module _ (e : Setting) where
  -- it is a call if it meets the conditions
  abbrev IfCalled : Field → Type 0
  IfCalled f = (l : List ℕ) → required e f ≡ Some l → Called f

  expression-called : (k : Pass) (ds : Fields) (object : Bool) (p : ℕ) (u : State) → IfCalled (field 0x65 [] ds) → After (after_expression k e (field 0x65 [] ds) object p u) (λ g v. IfCalled g)
  expression-called first ds object p u h =
      first-expression e IfCalled first refl (field 0x65 [] ds) object p u (h, λ n l w. λ m z. callee-called n (field 0x65 [] ds) (h l w))
  expression-called second ds object p u h = subst (λ (m : Outcome (Field × State)). After m (λ g v. IfCalled g)) (sym (second-65 e [] ds object p u)) h

  walk-called-65 : (cs : Fields) (object : Bool) (p : ℕ) (u : State) → FourBytes u → Regular (field 0x65 [] cs) → Shaped (field 0x65 [] cs) →
      After (walk (field 0x65 [] cs) e object p u) (λ g v. IfCalled g)
  walk-called-65 cs object p u f w g =
      subst (λ (m : Outcome (Field × State)). After m (λ g v. IfCalled g)) (sym (walk-65 e [] cs object p u))
      (after-bind (walk_all cs e object (inside p []) u) _ (λ ds v. IfCalled (field 0x65 [] ds)) _ (walked-called e cs _ object (inside p []) u f w.1 g.1) λ ds v k.
      expression-called e.pass ds object p v k)

  walk-called : (i : Field) (object : Bool) (p : ℕ) (u : State) → FourBytes u → Regular i → Shaped i → (tag_of i ≡ 0x65 → fixed_of i ≡ []) →
      After (walk i e object p u) (λ g v. IfCalled g)
  walk-called (field t x cs) object p u f w g b = go (eqb t 0x65) refl
    where
      go : (a : Bool) → eqb t 0x65 ≡ a → After (walk (field t x cs) e object p u) (λ g v. IfCalled g)
      go true q =
          let z : field 0x65 [] cs ≡ field t x cs = cc (eqb-true t 0x65 q, b (eqb-true t 0x65 q)) in
          subst (λ (i : Field). After (walk i e object p u) (λ g v. IfCalled g)) z (walk-called-65 cs object p u f (subst Regular (sym z) w) (subst Shaped (sym z) g))
      go false q =
          after-weaken (walk (field t x cs) e object p u) _ (λ g v. IfCalled g) (λ h v k l z. none-some (sym (k ∙ none-after e (field t x cs) u (eqb-false t 0x65 q)) ∙ z))
          (walk-required e (field t x cs) object p u w)

-- ---- What stands behind the pattern

all-one : (b : Bool) (e : Setting) (f : Field) (p : ℕ) (s : State) → walk_all (more f none) e b p s ≡ onto (walk f e b p s) (λ r. done (more r.0 none, r.1))
unfolding walk
all-one b e f p s = refl

encodes-one : (f : Field) → encodes (more f none) ≡ encode f
encodes-one f = encodes-more f none ∙ ap (λ (l : List ℕ). encode f ++ l) encodes-none ∙ append-nil (encode f)

initialised-more : (e : Setting) (q i : Field) (rest : Fields) (p : ℕ) (u : State) →
    initialised e q (more i rest) p u ≡ onto (require_lazily (required e i) e q i p u) (λ j. done (more j.0 rest, j.1))
unfolding initialised
initialised-more e q i rest p u = refl

-- a 65 has no fixed bytes
call-bare : (s : List ℕ) (at stop : ℕ) → at + 3 ≤ stop → tag_of (tree_at s at stop) ≡ 0x65 → fixed_of (tree_at s at stop) ≡ []
call-bare s at stop h k = go (fixed_at s (get_or s at 0) (at + 3) stop) refl
  where
    go : (r : Option ℕ) → fixed_at s (get_or s at 0) (at + 3) stop ≡ r → fixed_of (tree_at s at stop) ≡ []
    go None z = ap fixed_of (tree-short s at stop z)
    go (Some b) z = ap fixed_of (tree-bare 0x65 refl s at stop h (ap tag_of (sym (tree-upto s at stop b z)) ∙ k))

module _ (object : Bool) (s : List ℕ) (bytes : Bytes s) (at end p pattern : ℕ) (le : at ≤ end) (q : Field) where
  pub behind-over : {t out : List ℕ} {o : ℕ} → extent_at s at end ≡ None →
      Steps encodes (Behind s at end pattern q) (λ y. behind y.setting object s at end p q) t out o t out (Ok o)
  unfolding initialised encode
  behind-over x =
      steps-give encodes _ (λ y. behind y.setting object s at end p q) none refl
      (λ y u w. ap (λ (fs : Fields). onto (walk_all fs y.setting object at u) (λ b. initialised y.setting q b.0 p b.1)) (row-none s at end le x)
      ∙ ap (λ (m : Outcome (Fields × State)). onto m (λ b. initialised y.setting q b.0 p b.1)) (all-none object y.setting at u))

  module _ (stop : ℕ) (x : extent_at s at end ≡ Some stop) where
    -- what is known of the walked initialiser
    abbrev Known : Setting → State → Fields → Type 0
    Known e u ds = (i : Field) × (rest : Fields) × (ds ≡ more i rest) × (required e i ≡ required_after e (tree_at s at stop) u) × IfCalled e i

    known-more : (e : Setting) (f : Field) (fs : Fields) (u : State) → After (walk f e object at u) (λ g v. (required e g ≡ required_after e f u) × IfCalled e g) →
        After (walk_all (more f fs) e object at u) (λ ds v. (i : Field) × (rest : Fields) × (ds ≡ more i rest) × (required e i ≡ required_after e f u) × IfCalled e i)
    unfolding walk
    known-more e f fs u h =
        after-bind (walk f e object at u) _ _ _ h λ i v k.
        after-bind (walk_all fs e object (at + size f) v) _ (λ _ _. Unit {0}) _ (after-any (walk_all fs e object (at + size f) v)) λ rest w _. (i, rest, refl, k.0, k.1)

    known : (e : Setting) (u : State) → FourBytes u → SoundAll s at end → After (walk_all (row_at s at end) e object at u) (λ ds v. Known e u ds)
    known e u f w =
        let z = row-more s at end stop le x in
        let g = sound_all-first le w x in
        let h = subst (λ (fs : Fields). ShapedAll fs w.rule) z (sound-shaped bytes le w) in
        subst (λ (fs : Fields). After (walk_all fs e object at u) (λ ds v. Known e u ds)) (sym z)
        (known-more e (tree_at s at stop) (row_at s stop end) u
        (after-both (walk (tree_at s at stop) e object at u) _ _ (walk-required e (tree_at s at stop) object at u g.regular)
        (walk-called e (tree_at s at stop) object at u f g.regular h.2 (call-bare s at stop (read-inside g.read).0))))

    -- it does not meet the require conditions
    unrequired : (e : Setting) (m : Outcome (Fields × State)) → After m (λ ds v. (i : Field) × (rest : Fields) × (ds ≡ more i rest) × (required e i ≡ None)) →
        onto m (λ b. initialised e q b.0 p b.1) ≡ m
    unfolding initialised require_lazily
    unrequired e (refused n k) h = refl
    unrequired e (done r) h =
        ap (λ (ds : Fields). initialised e q ds p r.1) h.2
        ∙ ap (λ (l : Option (List ℕ)). onto (require_lazily l e q h.0 p r.1) (λ j. done (more j.0 h.1, j.1))) h.3 ∙ ap (λ (ds : Fields). done (ds, r.1)) (sym h.2)

    -- the initialiser is all that stands there
    sole-row : {t out t' out' : List ℕ} {o : ℕ} {k : Step} → FieldSteps s at stop (λ y. walk (tree_at s at stop) y.setting object at) t out o t' out' k →
        Steps encodes (λ y u. SoundAll s at end × Reads y s × Sole s at end) (λ y. walk_all (row_at s at end) y.setting object at) t out o t' out' k
    sole-row m =
        steps-as _
        (steps-map encode encodes (λ f. more f none) (λ y u. SoundAll s at end × Reads y s × Sole s at end) m (λ y u w. (sound_all-first le w.0 x, w.1))
        (λ y u w f v z. encodes-one f))
        (λ y u w. (
          w,
          ap (λ (fs : Fields). walk_all fs y.setting object at u) (row-more s at end stop le x)
              ∙ ap (λ (fs : Fields). walk_all (more (tree_at s at stop) fs) y.setting object at u) (row-none s stop end (extent-upto s at end le x).1 (w.2 stop x))
              ∙ all-one object y.setting (tree_at s at stop) at u,
        ))

    pub behind-plain : {t out t' out' : List ℕ} {o : ℕ} {k : Step} {r : Option Literal} → RequiredIs (λ e. required_after e (tree_at s at stop)) s t r → r ≡ None →
        FieldSteps s at stop (λ y. walk (tree_at s at stop) y.setting object at) t out o t' out' k →
        Steps encodes (Behind s at end pattern q) (λ y. behind y.setting object s at end p q) t out o t' out' k
    behind-plain n z m =
        steps-by (λ y. behind y.setting object s at end p q) (sole-row m) (λ y u w k. (
          (k.0, k.1, k.3),
          unrequired y.setting (walk_all (row_at s at end) y.setting object at u)
              (after-weaken (walk_all (row_at s at end) y.setting object at u) (λ ds v. Known y.setting u ds) _
              (λ ds v i. (i.0, i.1, i.2, i.3 ∙ source-other n z y u w k.1)) (known y.setting u (four-shown w) k.0)),
        ))

    pub behind-turned : {t out t' out' : List ℕ} {o : ℕ} {v : Refusal} → FieldSteps s at stop (λ y. walk (tree_at s at stop) y.setting object at) t out o t' out' (Err v) →
        Steps encodes (Behind s at end pattern q) (λ y. behind y.setting object s at end p q) t out o t' out' (Err v)
    behind-turned m =
        record {
          size = m.size;
          made = λ i z u w k. done-refused z refl;
          turned = λ j z {x = y} u w k.
              ap (λ (d : Outcome (Fields × State)). onto d (λ b. initialised y.setting q b.0 p b.1)) ((sole-row m).turned j z u w (k.0, k.1, k.3));
        }

    -- it does, and is amended
    pub behind-required : (n : Literal) {t out t1 out1 t2 out2 : List ℕ} {o r : ℕ} {k : Step} {f : Option Literal} → RequiredIs (λ e. required_after e (tree_at s at stop)) s t f → f ≡ Some n →
        FieldSteps s at stop (λ y. walk (tree_at s at stop) y.setting object at) t out o t1 out1 (Ok r) →
        Amends (Bound n pattern q) (λ y f. require_lazily (Some (literal_by y n)) y.setting q f p) o r t1 out1 t2 out2 k →
        Steps encodes (Behind s at end pattern q) (λ y. behind y.setting object s at end p q) t out o t2 out2 k
    behind-required n {t} {out} {t1} {out1} {o = o} {r} told c m a =
        record {
          size = a.size ∙ m.size;
          made = λ i z {x = y} u w k.
              let d = (sole-row m).made r refl u w (k.0, k.1, k.3) in
              let f = after-done (walk_all (row_at s at end) y.setting object at u) (λ ds v. Known y.setting u ds) (d.value, d.state) d.is
              (known y.setting u (four-shown w) k.0) in
              let v = source-is told c y u w k.1 in
              let l : required y.setting f.0 ≡ Some (literal_by y n) = f.3 ∙ v.0 in
              let g = a.made i z d.state d.shows (k.2, v.1) out f.0 (encodes f.1) (f.4 (literal_by y n) l)
              (wrote-as d.wrote (ap encodes f.2 ∙ encodes-more f.0 f.1)) in
              record {
                value = more g.value f.1;
                state = g.state;
                is = joined y u d.value d.state f.0 f.1 d.is f.2 l ∙ ap (λ (b : Outcome (Field × State)). onto b (λ j. done (more j.0 f.1, j.1))) g.is;
                wrote = wrote-as g.wrote (sym (encodes-more g.value f.1));
                shows = g.shows;
              };
          turned = λ j z {x = y} u w k.
              let d = (sole-row m).made r refl u w (k.0, k.1, k.3) in
              let f = after-done (walk_all (row_at s at end) y.setting object at u) (λ ds v. Known y.setting u ds) (d.value, d.state) d.is
              (known y.setting u (four-shown w) k.0) in
              let v = source-is told c y u w k.1 in
              joined y u d.value d.state f.0 f.1 d.is f.2 (f.3 ∙ v.0)
              ∙ ap (λ (b : Outcome (Field × State)). onto b (λ j. done (more j.0 f.1, j.1))) (a.turned j z d.state d.shows (k.2, v.1) f.0);
        }
      where
        joined : (y : Env) (u : State) (ds : Fields) (v : State) (i : Field) (rest : Fields) → walk_all (row_at s at end) y.setting object at u ≡ done (ds, v) →
            ds ≡ more i rest → required y.setting i ≡ Some (literal_by y n) →
            behind y.setting object s at end p q u ≡ onto (require_lazily (Some (literal_by y n)) y.setting q i p v) (λ j. done (more j.0 rest, j.1))
        joined y u ds v i rest h z l =
            ap (λ (b : Outcome (Fields × State)). onto b (λ b. initialised y.setting q b.0 p b.1)) h
            ∙ ap (λ (fs : Fields). initialised y.setting q fs p v) z ∙ initialised-more y.setting q i rest p v
            ∙ ap (λ (o : Option (List ℕ)). onto (require_lazily o y.setting q i p v) (λ j. done (more j.0 rest, j.1))) l

-- ---- The pattern, and what stands behind it

declarator-more : (e : Setting) (q : Field) (ds : Fields) (p : ℕ) (u : State) → declarator e (more q ds) p u ≡ onto (initialised e q ds p u) (λ b. done (more q b.0, b.1))
unfolding declarator initialised
declarator-more e q none p u = refl
declarator-more e q (more i rest) p u = go (require_lazily (required e i) e q i p u)
  where
    go : (m : Outcome (Field × State)) →
        onto {B = Fields × State} m (λ j. done (more q (more j.0 rest), j.1)) ≡ onto
        (onto {B = Fields × State} m (λ j. done (more j.0 rest, j.1))) (λ b. done (more q b.0, b.1))
    go (done j) = refl
    go (refused n k) = refl

module _ (object : Bool) (s : List ℕ) (bytes : Bytes s) (at end p : ℕ) (le : at ≤ end) where
  pub declared-over : {t out : List ℕ} {o : ℕ} → extent_at s at end ≡ None → Steps encodes (λ y u. Declares s at end y)
      (λ y. declared y.setting object s at end p) t out o t out (Ok o)
  unfolding declarator encode
  declared-over x =
      steps-give encodes _ (λ y. declared y.setting object s at end p) none refl
      (λ y u w. ap (λ (fs : Fields). onto (walk_all fs y.setting object at u) (λ b. declarator y.setting b.0 p b.1)) (row-none s at end le x)
      ∙ ap (λ (m : Outcome (Fields × State)). onto m (λ b. declarator y.setting b.0 p b.1)) (all-none object y.setting at u))

  module _ (stop : ℕ) (x : extent_at s at end ≡ Some stop) where
    split-here : SoundAll s at end → (y : Env) (u : State) →
        declared y.setting object s at end p u ≡
        pair_of more (λ v. walk (tree_at s at stop) v.setting object at) (λ q v. behind v.setting object s stop end p q) y u
    split-here w y u =
        let i = read-inside (sound_all-first le w x).read in
        let n = read-size (sound_all-first le w x).read bytes in
        let z : at + size (tree_at s at stop) ≡ stop = omega arith in
        ap (λ (fs : Fields). onto (walk_all fs y.setting object at u) (λ r. declarator y.setting r.0 p r.1)) (row-more s at end stop le x)
        ∙ ap (λ (m : Outcome (Fields × State)). onto m (λ r. declarator y.setting r.0 p r.1)) (all-more object y (tree_at s at stop) (row_at s stop end) at u)
        ∙ ap (λ (k : ℕ). onto (pair_of more (λ v. walk (tree_at s at stop) v.setting object at) (λ _ v. walk_all (row_at s stop end) v.setting object k) y u)
        (λ r. declarator y.setting r.0 p r.1)) z
        ∙ go y.setting (walk (tree_at s at stop) y.setting object at u)
      where
        two : (e : Setting) (q : Field) (m : Outcome (Fields × State)) → onto (onto {B = Fields × State} m (λ b. done (more q b.0, b.1))) (λ r. declarator e r.0 p r.1) ≡
            onto (onto m (λ b. initialised e q b.0 p b.1)) (λ b. done (more q b.0, b.1))
        two e q (done b) = declarator-more e q b.0 p b.1
        two e q (refused n k) = refl

        go : (e : Setting) (m : Outcome (Field × State)) →
            onto (onto {B = Fields × State} m (λ a. onto (walk_all (row_at s stop end) e object stop a.1) (λ b. done (more a.0 b.0, b.1)))) (λ r. declarator e r.0 p r.1) ≡
            onto m (λ a. onto (behind e object s stop end p a.0 a.1) (λ b. done (more a.0 b.0, b.1)))
        go e (done a) = two e a.0 (walk_all (row_at s stop end) e object stop a.1)
        go e (refused n k) = refl

    pub declared-then : 0 < at → {t out t1 out1 t2 out2 : List ℕ} {o r : ℕ} {k : Step} →
        FieldSteps s at stop (λ y. walk (tree_at s at stop) y.setting object at) t out o t1 out1 (Ok r) →
        ((q : Field) → Steps encodes (Behind s stop end at q) (λ y. behind y.setting object s stop end p q) t1 out1 r t2 out2 k) →
        Steps encodes (λ y u. Declares s at end y) (λ y. declared y.setting object s at end p) t out o t2 out2 k
    declared-then pos one rest =
        steps-as (λ y. declared y.setting object s at end p)
        (steps-pair encode encodes encodes more encodes-more (λ y u. Declares s at end y) (λ q y. behind y.setting object s stop end p q) one rest (field 0 [] none)
        (λ y u w. (sound_all-first le w.0 x, w.1))
        (λ y u w q v z.
        let g = sound_all-first le w.0 x in
        let b = after-done (walk (tree_at s at stop) y.setting object at u) _ (q, v) z (walk-binds y.setting (tree_at s at stop) object at u g.regular) in
        (sound_all-rest le w.0 x, w.1, b ∙ sym (w.1.pattern at stop pos g.read), w.2 stop x)))
        (λ y u w. (w, split-here w.0 y u))

    pub declared-turned : {t out t1 out1 : List ℕ} {o : ℕ} {v : Refusal} → FieldSteps s at stop (λ y. walk (tree_at s at stop) y.setting object at) t out o t1 out1 (Err v) →
        Steps encodes (λ y u. Declares s at end y) (λ y. declared y.setting object s at end p) t out o t1 out1 (Err v)
    declared-turned one =
        steps-as (λ y. declared y.setting object s at end p)
        (steps-turned encode encodes encodes more encodes-more (λ y u. Declares s at end y)
        (λ q y. behind y.setting object s stop end p q) one (λ y u w. (sound_all-first le w.0 x, w.1)))
        (λ y u w. (w, split-here w.0 y u))
