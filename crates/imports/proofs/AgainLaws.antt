-- An import in the second pass.
use Rattle.std.specs.Prelude.{Option, None, Some, Ok}
use Prim.Native.Nat.{ℕ}
use native.Mathlib.Omega.{arith}
use mathlib.Core.Path.{◌≡◌, refl, sym, ap, ap₂, ◌∙◌}
use mathlib.Core.Bool.{Bool, true, false, cond, ◌||◌}
use mathlib.Core.List.{List}
use lib.Seq.{slice}
use Rattle.writer.specs.Wrote.{Wrote}
use Rattle.tree.specs.Layout.{two, value_of}
use Rattle.tree.specs.Tree.{Field, field, Fields, fixed_of, parts_of, encode}
use Rattle.tree.specs.Grammar.{rule_of}
use Rattle.tree.specs.Rows.{tree_of}
use Rattle.tree.specs.declared.row.Part.{Part}
use Rattle.tree.specs.Standing.{row_at, Row}
use Rattle.scope.specs.declared.id.Id.{Id}
use Rattle.inputs.specs.Lists.{among}
use Rattle.inputs.specs.Fields.{has, sole}
use Rattle.inputs.specs.Outcome.{done}
use Rattle.extraction_rules.specs.State.{State, Setting, give}
use Rattle.extraction_rules.specs.First.{external, specifiers_in}
use Rattle.extraction_rules.specs.Second.{usages_of, take_apart, on_sole, import_second}
use Rattle.state.specs.Cells.{Env, Shows, id_by, sources_in}
use Rattle.state.specs.Does.{Tells, Says}
use Rattle.steps.specs.Step.{ReadAt, Step, Steps, ident_by}
use Rattle.steps.proofs.StepsLaws.{steps-by}
use Rattle.imports.specs.Parts.{namespace_by}
use Rattle.imports.proofs.HeadLaws.{Headed, head-external, head-parts, head-row, head-stays}

module _ {part : Part} {from : ℕ} (hd : Headed part from) where
  abbrev X : List ℕ
  X = fixed_of (tree_of part)

  abbrev CS : Fields
  CS = parts_of (tree_of part)

  abbrev Ready : Env → State → Type 0
  Ready x u = ReadAt part.bytes.now part.at part.stop × (external x.setting X ≡ false → among (value_of X) (sources_in u.collected) ≡ true)

  abbrev Again : List ℕ → List ℕ → ℕ → List ℕ → List ℕ → Step → Type 0
  Again t out o t' out' r = Steps encode Ready (λ x. import_second x.setting X CS) t out o t' out' r

  -- by the two tests
  by-tests : (E : Setting) (a b : Bool) (u : State) → external E X ≡ a → among (value_of X) u.forced ≡ b →
      import_second E X CS u ≡ cond (a || b) (give (field 0x10 X CS)) (on_sole (sole (specifiers_in CS)) X CS) u
  unfolding import_second
  by-tests E a b u p q = ap₂ (λ (x y : Bool). cond (x || y) (give (field 0x10 X CS)) (on_sole (sole (specifiers_in CS)) X CS) u) p q

  sole-by : (o : Option Field) (i : Option (List ℕ)) (u : State) → i ≡ namespace_by o →
      (i ≡ None → on_sole o X CS u ≡ done (field 0x10 X CS, u)) × ((y : List ℕ) → i ≡ Some y → on_sole o X CS u ≡ take_apart (usages_of y u.usages) X CS u)
  unfolding on_sole
  sole-by None i u p = (λ q. refl, λ y q. absurd (let z : ◌≡◌ {A = ℕ} 0 1 = cc in omega arith))
  sole-by (Some f) i u p = go (has 0x22 f) refl p
    where
      go : (b : Bool) → has 0x22 f ≡ b → i ≡ cond b (Some (fixed_of f)) None →
          (i ≡ None → cond b (λ v. take_apart (usages_of (fixed_of f) v.usages) X CS v) (give (field 0x10 X CS)) u ≡ done (field 0x10 X CS, u)) ×
          ((y : List ℕ) → i ≡ Some y → cond b (λ v. take_apart (usages_of (fixed_of f) v.usages) X CS v) (give (field 0x10 X CS)) u ≡ take_apart (usages_of y u.usages) X CS u)
      go true k p = (λ q. absurd (let z : ◌≡◌ {A = ℕ} 0 1 = cc in omega arith), λ y q. let z : fixed_of f ≡ y = cc in ap (λ (y : List ℕ). take_apart (usages_of y u.usages) X CS u) z)
      go false k p = (λ q. refl, λ y q. absurd (let z : ◌≡◌ {A = ℕ} 0 1 = cc in omega arith))

  module _ (n : ℕ) (source : two n ≡ value_of X) {a : Bool} {t : List ℕ} (ext : Says (λ y. among (two n) y.externals) t a) where
    outside : (b : Bool) {x : Env} (u : State) → Shows x t u → a ≡ b → external x.setting X ≡ b
    outside b {x} u k q = head-external hd x.setting n source (ext.is u k) q

    pub again-external : {out out' : List ℕ} {o p : ℕ} → a ≡ true → Wrote out o (slice part.at part.stop part.bytes.now) out' p → Again t out o t out' (Ok p)
    again-external q w = head-stays hd w (λ x u h. h.0) (λ x u k h. by-tests x.setting true (among (value_of X) u.forced) u (outside true u k q) refl)

    module _ (own : a ≡ false) {b : Bool} (fo : Tells (λ u. among (two n) u.forced) t b) where
      forced-is : (c : Bool) {x : Env} (u : State) → Shows x t u → b ≡ c → among (value_of X) u.forced ≡ c
      forced-is c u k q = ap (λ (l : List ℕ). among l u.forced) (sym source) ∙ sym (fo.is u k) ∙ q

      pub again-forced : {out out' : List ℕ} {o p : ℕ} → b ≡ true → Wrote out o (slice part.at part.stop part.bytes.now) out' p → Again t out o t out' (Ok p)
      again-forced q w =
          head-stays hd w (λ x u h. h.0) (λ x u k h. by-tests x.setting false true u (outside false u k own) (forced-is true u k q))

      module _ (un : b ≡ false) (r : Option Id)
          (so : Row part.bytes.now from part.stop (rule_of 0x10) → ident_by r ≡ namespace_by (sole (specifiers_in (row_at part.bytes.now from part.stop)))) where
        sole-of : ReadAt part.bytes.now part.at part.stop → ident_by r ≡ namespace_by (sole (specifiers_in CS))
        sole-of rd =
            so (head-row hd rd) ∙ ap (λ (fs : Fields). namespace_by (sole (specifiers_in fs))) (sym (head-parts hd))

        pub again-other : {out out' : List ℕ} {o p : ℕ} → r ≡ None → Wrote out o (slice part.at part.stop part.bytes.now) out' p → Again t out o t out' (Ok p)
        again-other q w =
            head-stays hd w (λ x u h. h.0) (λ x u k h.
            by-tests x.setting false false u (outside false u k own) (forced-is false u k un)
            ∙ (sole-by (sole (specifiers_in CS)) (ident_by r) u (sole-of h.0)).0 (ap ident_by q))

        pub again-apart : (id : Id) {t' out out' : List ℕ} {o p : ℕ} → r ≡ Some id →
            Steps encode (λ x u. ReadAt part.bytes.now part.at part.stop × (among (value_of X) (sources_in u.collected) ≡ true))
            (λ _ u. take_apart (usages_of (id_by id) u.usages) X CS u) t out o t' out' (Ok p) →
            Again t out o t' out' (Ok p)
        again-apart id q w =
            steps-by _ w (λ x u k h. (
              (h.0, h.1 (outside false u k own)),
              by-tests x.setting false false u (outside false u k own) (forced-is false u k un)
                  ∙ (sole-by (sole (specifiers_in CS)) (ident_by r) u (sole-of h.0)).1 (id_by id) (ap ident_by q),
            ))
