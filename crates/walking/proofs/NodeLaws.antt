-- A field that was read: what its row is walked to makes it by its way, and that is what the walk makes of it, by its tag.
use Rattle.std.specs.Prelude.{Option, None, Some}
use Prim.Native.Nat.{ℕ, ◌+◌, ◌≤◌}
use native.Mathlib.Omega.{arith}
use mathlib.Core.Path.{◌≡◌, refl, sym, ap, subst, ◌∙◌}
use mathlib.Core.Logic.{⊎_elim}
use mathlib.Core.Bool.{Bool, false}
use mathlib.Core.List.{List}
use lib.ListN.{length, get_or}
use lib.Seq.{slice}
use Rattle.tree.specs.Tree.{Field, field, Fields, encode, encodes, tag_of, fixed_of}
use Rattle.tree.specs.declared.grammar.Rule.{Rule}
use Rattle.tree.specs.declared.grammar.Slot.TheVariants.{Nothing, Maybe}
use Rattle.tree.specs.declared.grammar.Set.TheVariants.{Pattern, Expression}
use Rattle.tree.specs.Grammar.{within, parts0, parts1, rule_of, step_at}
use Rattle.tree.specs.Access.{fixed_at, extent_at}
use Rattle.tree.specs.Standing.{tree_at, row_at, Row}
use Rattle.tree.proofs.AccessLaws.{extent-upto, upto-in}
use Rattle.tree.proofs.GrammarLaws.{no-step, step-one}
use Rattle.tree.proofs.StandingLaws.{tree-upto, row-cases}
use Rattle.tree.proofs.WidthLaws.{bare-upto}
use Rattle.inputs.specs.Outcome.{Outcome, done, refused, onto}
use Rattle.inputs.specs.Fields.{inside}
use Rattle.extraction_rules.specs.State.{State, Setting, Act, set_top}
use Rattle.extraction_rules.specs.First.{export_specifier, declarator}
use Rattle.extraction_rules.specs.Walk.{walk, walk_all, walk_target}
use Rattle.extraction_rules.proofs.RuleLaws.{maybe-step}
use Rattle.extraction_rules.proofs.AlikeLaws.{Regular}
use Rattle.state.specs.Cells.{Env}
use Rattle.state.specs.Does.{Turns}
use Rattle.steps.specs.Step.{Reads, Sound, Step, Steps, Begun, Ended, with_parts}
use Rattle.steps.proofs.SoundLaws.{read-short, read-inside, read-tag, read-parts, row-read, inside-fixed, sound-parts}
use Rattle.steps.proofs.StepsLaws.{steps-as, steps-changed, steps-never, steps-field}
use Rattle.walking.specs.declared.Way.{Way}
use Rattle.walking.specs.declared.Way.TheVariants.{Children, Member, Assignment}
use Rattle.walking.specs.Walking.{FieldSteps, RowSteps, row_by, node_by, declared, Sole, Declares}
use Rattle.walking.proofs.TagLaws.{around, walk-23, walk-42, plain-by, block-by, super-by, assignment-by, target-by}

-- bytes that are no field cannot have been read
pub walk-short : (act : Env → Act Field) {s : List ℕ} {at stop : ℕ} {t out : List ℕ} {o : ℕ} (k : Step) → fixed_at s (get_or s at 0) (at + 3) stop ≡ None →
    FieldSteps s at stop act t out o t out k
walk-short act g x = steps-never encode _ act g (λ y u w. read-short w.0.read x)

-- no field stands in no bytes
pub none-left : (s : List ℕ) (at : ℕ) → extent_at s at at ≡ None
none-left s at = go (extent_at s at at) refl
  where
    go : (r : Option ℕ) → extent_at s at at ≡ r → extent_at s at at ≡ None
    go None e = e
    go (Some k) e = let i = extent-upto s at at (omega arith) e in absurd (omega arith)

-- ---- A field from its row

module _ (s : List ℕ) (at from stop : ℕ) (h : at + 3 ≤ stop) (len : stop ≤ length s) (x : fixed_at s (get_or s at 0) (at + 3) stop ≡ Some from) where
  abbrev fixed_bytes : List ℕ
  fixed_bytes = slice (at + 3) from s

  -- where the parts start, as the rules count
  here : inside at fixed_bytes ≡ from
  here = let i = upto-in s (get_or s at 0) (at + 3) stop h x in inside-fixed s at from i.0 (omega arith)

  -- a rule for the field, from a step on its row
  from-row : (rule : Env → Act Field) {P : Env → State → Type 0} {act : Env → Act Fields} {t t' out out1 out2 out3 : List ℕ} {o c : ℕ} (r : Step) {k : Step} →
      Begun out o (get_or s at 0) fixed_bytes out1 c → Steps encodes P act t out1 c t' out2 r → Ended o r out2 out3 k →
      ((y : Env) (u : State) → rule y u ≡ with_parts (get_or s at 0) fixed_bytes act y u) → ((y : Env) (u : State) → Sound s at stop → Reads y s → P y u) →
      FieldSteps s at stop rule t out o t' out3 k
  from-row rule r b m e q to = steps-as rule (steps-field r b m e) (λ y u w. (to y u w.0 w.1, q y u))

  pub node-field : (way : Way) {t t' out out1 out2 out3 : List ℕ} {o c : ℕ} (r : Step) {k : Step} →
      Begun out o (get_or s at 0) fixed_bytes out1 c → RowSteps s from stop (λ y. row_by way (row_at s from stop) y.setting from) t out1 c t' out2 r → Ended o r out2 out3 k →
      FieldSteps s at stop (λ y. node_by way (tree_at s at stop) y.setting at) t out o t' out3 k
  unfolding node_by
  node-field way r b m e =
      from-row (λ y. node_by way (tree_at s at stop) y.setting at) r b m e
      (λ y u. ap (λ (f : Field). node_by way f y.setting at u) (tree-upto s at stop from x)
      ∙ ap (λ (p : ℕ). around (get_or s at 0) fixed_bytes (row_by way (row_at s from stop) y.setting p) u) here)
      (λ y u w z. (sound-parts w x, z))

  -- a 23 has its own rule, and no other
  pub node-23 : (object : Bool) {t out t' out' : List ℕ} {o : ℕ} {k : Step} → get_or s at 0 ≡ 0x23 →
      Steps encode (λ y u. Unit {0}) (λ y. export_specifier y.setting (fixed_of (tree_at s at stop)) at) t out o t' out' k →
      FieldSteps s at stop (λ y. walk (tree_at s at stop) y.setting object at) t out o t' out' k
  node-23 object q m =
      steps-as _ m (λ y u w. (
        tt,
        ap (λ (f : Field). walk f y.setting object at u) (tree-upto s at stop from x)
            ∙ ap (λ (n : ℕ). walk (field n fixed_bytes (row_at s from stop)) y.setting object at u) q ∙ walk-23 y.setting fixed_bytes (row_at s from stop) object at u
            ∙ ap (λ (f : Field). export_specifier y.setting (fixed_of f) at u) (sym (tree-upto s at stop from x)),
      ))

-- a 42 has a pattern and at most an initialiser
declarator-first : (t : ℕ) (q : Rule) → step_at (rule_of 0x42) t ≡ Some q → q ≡ parts1 (Maybe Expression)
unfolding rule_of within
declarator-first t q e = (step-one Pattern (Maybe Expression) Nothing Nothing t q e).1

declarator-second : (t : ℕ) (q : Rule) → step_at (parts1 (Maybe Expression)) t ≡ Some q → q ≡ parts0
declarator-second t q e = ⊎_elim (λ v. v.1) (λ v. absurd (no-step t v)) (maybe-step Expression Nothing Nothing Nothing t q e)

row-over : (s : List ℕ) (at end : ℕ) → at ≤ end → Row s at end parts0 → at ≡ end
row-over s at end le w = ⊎_elim (λ d. d.0) (λ f. absurd (no-step (get_or s at 0) f.2)) (row-cases s at end parts0 le w)

sole-behind : {s : List ℕ} {at stop : ℕ} → Sound s at stop → get_or s at 0 ≡ 0x42 → fixed_at s (get_or s at 0) (at + 3) stop ≡ Some (at + 3) → at + 3 ≤ stop →
    (m : ℕ) → extent_at s (at + 3) stop ≡ Some m → Sole s m stop
sole-behind {s} {at} {stop} w q x h m e n f =
    let len = (read-inside w.read).1 in
    let i = extent-upto s (at + 3) stop h e in
    let j = extent-upto s m stop i.1 f in
    let a = (row-read (rule_of 0x42) h len (subst (λ (k : ℕ). Row s (at + 3) stop (rule_of k)) q (read-parts w.read x)) e).1 in
    let b = (row-read (parts1 (Maybe Expression)) i.1 len (subst (Row s m stop) (declarator-first (get_or s (at + 3) 0) a.0 a.1) a.2) f).1 in
    let z = row-over s n stop j.1 (subst (Row s n stop) (declarator-second (get_or s m 0) b.0 b.1) b.2) in
    subst (λ (k : ℕ). extent_at s n k ≡ None) z (none-left s n)

-- a 42, once its parts are declared
pub node-42 : (object : Bool) (s : List ℕ) (at stop : ℕ) → at + 3 ≤ stop → stop ≤ length s → get_or s at 0 ≡ 0x42 →
    {t t' out out1 out2 out3 : List ℕ} {o c : ℕ} (r : Step) {k : Step} →
    Begun out o (get_or s at 0) (slice (at + 3) (at + 3) s) out1 c → Steps encodes (λ y u. Declares s (at + 3) stop y) (λ y. declared y.setting object s (at + 3) stop at) t out1 c t' out2 r →
    Ended o r out2 out3 k → FieldSteps s at stop (λ y. walk (tree_at s at stop) y.setting object at) t out o t' out3 k
node-42 object s at stop h len q r b m e =
    from-row s at (at + 3) stop h len x (λ y. walk (tree_at s at stop) y.setting object at) r b m e
    (λ y u. ap (λ (f : Field). walk f y.setting object at u) (tree-upto s at stop (at + 3) x)
    ∙ ap (λ (n : ℕ). walk (field n (slice (at + 3) (at + 3) s) (row_at s (at + 3) stop)) y.setting object at u) q
    ∙ walk-42 y.setting (slice (at + 3) (at + 3) s) (row_at s (at + 3) stop) object at u
    ∙ ap (λ (p : ℕ). onto (walk_all (row_at s (at + 3) stop) y.setting object p u)
    (λ r. onto (declarator y.setting r.0 at r.1) (λ d. done (field 0x42 (slice (at + 3) (at + 3) s) d.0, d.1)))) (here s at (at + 3) stop h len x)
    ∙ joined y.setting (walk_all (row_at s (at + 3) stop) y.setting object (at + 3) u)
    ∙ ap (λ (n : ℕ). around n (slice (at + 3) (at + 3) s) (declared y.setting object s (at + 3) stop at) u) (sym q))
    (λ y u w z. (sound-parts w x, z, sole-behind w q x h))
  where
    x : fixed_at s (get_or s at 0) (at + 3) stop ≡ Some (at + 3)
    x = bare-upto 0x42 refl s (get_or s at 0) (at + 3) stop q h

    joined : (e : Setting) (i : Outcome (Fields × State)) →
        onto {B = Field × State} i (λ r. onto (declarator e r.0 at r.1) (λ d. done (field 0x42 (slice (at + 3) (at + 3) s) d.0, d.1))) ≡
        onto {B = Field × State} (onto i (λ r. declarator e r.0 at r.1)) (λ d. done (field 0x42 (slice (at + 3) (at + 3) s) d.0, d.1))
    joined e (done r) = refl
    joined e (refused n p) = refl

-- ---- By the tag

module _ (object : Bool) (s : List ℕ) (at stop : ℕ) {t out t' out' : List ℕ} {o : ℕ} {k : Step} where
  -- a rule that does the same as a way
  as-walk : (way : Way) → ((e : Setting) (u : State) → Sound s at stop → walk (tree_at s at stop) e object at u ≡ node_by way (tree_at s at stop) e at u) →
      FieldSteps s at stop (λ y. node_by way (tree_at s at stop) y.setting at) t out o t' out' k →
      FieldSteps s at stop (λ y. walk (tree_at s at stop) y.setting object at) t out o t' out' k
  as-walk way q m = steps-as _ m (λ y u w. (w, q y.setting u w.0))

  pub node-plain : (get_or s at 0 ≡ 0x23 → ⊥) → (get_or s at 0 ≡ 0x42 → ⊥) → (get_or s at 0 ≡ 0x45 → ⊥) → (get_or s at 0 ≡ 0x60 → ⊥) →
      (get_or s at 0 ≡ 0x63 → ⊥) → (get_or s at 0 ≡ 0x64 → ⊥) → (get_or s at 0 ≡ 0x65 → ⊥) → (get_or s at 0 ≡ 0x66 → ⊥) →
      FieldSteps s at stop (λ y. node_by (Children object) (tree_at s at stop) y.setting at) t out o t' out' k →
      FieldSteps s at stop (λ y. walk (tree_at s at stop) y.setting object at) t out o t' out' k
  node-plain b d f g i j l n =
      as-walk (Children object) (λ e u w.
      let v = sym (read-tag w.read) in
      plain-by e object at u (tree_at s at stop) (no_import (tree_at s at stop) w.regular) (λ z. b (v ∙ z)) (λ z. d (v ∙ z)) (λ z. f (v ∙ z)) (λ z. g (v ∙ z)) (λ z. i (v ∙ z))
      (λ z. j (v ∙ z)) (λ z. l (v ∙ z)) (λ z. n (v ∙ z)))
    where
      no_import : (f : Field) → Regular f → tag_of f ≡ 0x10 → ⊥
      no_import (field t x cs) w = w.0.no_import

  pub node-64 : get_or s at 0 ≡ 0x64 → FieldSteps s at stop (λ y. node_by (Children false) (tree_at s at stop) y.setting at) t out o t' out' k →
      FieldSteps s at stop (λ y. walk (tree_at s at stop) y.setting object at) t out o t' out' k
  node-64 q = as-walk (Children false) (λ e u w. super-by e object at u (tree_at s at stop) (read-tag w.read ∙ q))

  pub node-66 : get_or s at 0 ≡ 0x66 → FieldSteps s at stop (λ y. node_by (Assignment object) (tree_at s at stop) y.setting at) t out o t' out' k →
      FieldSteps s at stop (λ y. walk (tree_at s at stop) y.setting object at) t out o t' out' k
  node-66 q = as-walk (Assignment object) (λ e u w. assignment-by e object at u (tree_at s at stop) (read-tag w.read ∙ q))

  -- after *top* is cleared
  pub node-45 : {t1 : List ℕ} → get_or s at 0 ≡ 0x45 → Turns (set_top false) t t1 →
      FieldSteps s at stop (λ y. node_by (Children object) (tree_at s at stop) y.setting at) t1 out o t' out' k →
      FieldSteps s at stop (λ y. walk (tree_at s at stop) y.setting object at) t out o t' out' k
  node-45 q g m =
      steps-as _ (steps-changed (set_top false) g m (λ y u w. w))
      (λ y u w. (w, block-by y.setting object at u (tree_at s at stop) (read-tag w.0.read ∙ q)))

-- the target of a 66 is a field by the way of a 63
pub as-target : {s : List ℕ} {at stop : ℕ} {t out t' out' : List ℕ} {o : ℕ} {k : Step} →
    FieldSteps s at stop (λ y. node_by Member (tree_at s at stop) y.setting at) t out o t' out' k →
    FieldSteps s at stop (λ y. walk_target (tree_at s at stop) y.setting at) t out o t' out' k
as-target {s} {at} {stop} m = steps-as _ m (λ y u w. (w, target-by y.setting at u (tree_at s at stop)))
