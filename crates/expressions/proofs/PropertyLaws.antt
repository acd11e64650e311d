-- A usage of an imported id by a member that is not computed: one law for each way through use_property and use_from.
use Rattle.std.specs.Prelude.{Option, None, Some, Result, Ok, Err}
use Prim.Native.Nat.{ℕ, ◌+◌, ◌≤◌}
use mathlib.Core.Path.{◌≡◌, refl, sym, ap, ap₂, subst, ◌∙◌}
use mathlib.Core.Logic.{⊎_elim}
use mathlib.Core.List.{List, ◌++◌}
use native.Mathlib.Omega.{arith}
use lib.ListN.{length}
use lib.Seq.{slice}
use borrow.Author.Tests.{eq-eqb, ne_eqb}
use Rattle.scope.specs.declared.id.SyntaxContext.{SyntaxContext}
use Rattle.scope.specs.declared.id.Id.{Id}
use Rattle.scope.specs.declared.id.ModuleId.{ModuleId}
use Rattle.scope.specs.Id.{export, export_ctxt}
use Rattle.tree.specs.Layout.{two, four, two_at, value_of}
use Rattle.tree.specs.Tree.{Field, tag_of, fixed_of}
use Rattle.tree.specs.Rows.{tree_of}
use Rattle.tree.specs.declared.row.Part.{Part}
use Rattle.tree.proofs.LayoutLaws.{two_at-is}
use Rattle.tree.proofs.PartLaws.{part_tag, part_fixed, part-short}
use Rattle.tree.proofs.StandingLaws.{tree-upto}
use Rattle.tree.proofs.WidthLaws.{plain-ends}
use Rattle.tree.specs.declared.grammar.Value.TheVariants.{Atom as TwoBytes}
use Rattle.inputs.specs.Outcome.{Outcome, done, refused, onto}
use Rattle.extraction_rules.specs.State.{Record, State, Setting}
use Rattle.extraction_rules.specs.First.{module_for, used_record, add_usage, use_from, use_property}
use Rattle.state.specs.Cells.{Env, id_by, Shows}
use Rattle.state.specs.Does.{Tells, Says, Acts, Anyhow, Resolves, source_of, source_by}
use Rattle.scope.specs.declared.id.Atom.{Atom}
use Rattle.scope.specs.declared.TooManyFiles.{TooManyFiles}
use Rattle.state.specs.declared.TableFull.{TableFull}
use Rattle.steps.specs.Step.{Effect, Effects}
use Rattle.steps.specs.Refusal.{refusal}
use Rattle.steps.specs.declared.Why.TheVariants.{TooManyFiles as too-many, PrivateName, TableFull as no-room}
use Rattle.steps.proofs.StepsLaws.{fine-turned}
use Rattle.expressions.specs.Usage.{Named}
use Rattle.expressions.proofs.EffectLaws.{effects-skip, effects-refuse, effects-made, effects-full}

-- ---- The property

private-is : (n : ℕ) (i : List ℕ) (q : Field) (at p : ℕ) (u : State) → tag_of q ≡ 0x72 → use_property (Some n) i q at p u ≡ refused 7 at
unfolding use_property
private-is n i q at p u h = rw (eq-eqb (tag_of q) 0x72 h)

property-is : (n : ℕ) (i : List ℕ) (q : Field) (at p : ℕ) (u : State) (j : List ℕ) → tag_of q ≡ 0x70 → j ≡ fixed_of q ++ four (export n) →
    use_property (Some n) i q at p u ≡ add_usage (record { id = i; property = j }) p u
unfolding use_property
property-is n i q at p u j h e =
    rw (ne_eqb (tag_of q) 0x72 (λ z. omega arith)) (ap (λ (k : List ℕ). add_usage (record { id = i; property = k }) p u) (sym e))

module _ (q : Part) (at : ℕ) (id : Id) (n : ModuleId) where
  abbrev Uses : List ℕ → List ℕ → Effect → Type 0
  Uses t t' k = Effects (λ x u. Named (tree_of q)) (λ _. use_property (Some n.0) (id_by id) (tree_of q) q.at at) t t' k

  pub property-short : {t : List ℕ} → part_fixed q ≡ None → Uses t t (Ok tt)
  property-short e =
      let z : tag_of (tree_of q) ≡ 0 = ap tag_of (part-short q e) in
      effects-skip (λ x u v w. absurd (⊎_elim (λ a. omega arith) (λ a. omega arith) w))

  module _ {b : ℕ} (e : part_fixed q ≡ Some b) where
    tag-is : tag_of (tree_of q) ≡ part_tag q
    tag-is = ap tag_of (tree-upto q.bytes.now q.at q.stop b e)

    pub property-private : {t : List ℕ} → part_tag q ≡ 0x72 → Uses t t (Err (refusal PrivateName q.at))
    property-private h =
        effects-refuse PrivateName q.at (λ x u v w. private-is n.0 (id_by id) (tree_of q) q.at at u (tag-is ∙ h))

    pub property-other : {t : List ℕ} → (part_tag q ≡ 0x72 → ⊥) → (part_tag q ≡ 0x70 → ⊥) → Uses t t (Ok tt)
    property-other h k =
        effects-skip (λ x u v w. absurd (⊎_elim (λ a. k (sym tag-is ∙ a)) (λ a. h (sym tag-is ∙ a)) w))

    module _ {j : Id} {t t' : List ℕ} {r : Result Unit TableFull} (fits : q.at + 5 ≤ length q.bytes.now) (tag : part_tag q ≡ 0x70)
        (z : j.0.0 ≡ two_at q.bytes.now (q.at + 3)) (m : j.1 ≡ export_ctxt n) (k : Acts Anyhow (λ _. add_usage (record { id = id_by id; property = id_by j })) t t' r) where
      named : id_by j ≡ fixed_of (tree_of q) ++ four (export n.0)
      named =
          let w = plain-ends 0x70 TwoBytes refl q.bytes.now (part_tag q) (q.at + 3) q.stop b tag e in
          let y : two j.0.0 ≡ slice (q.at + 3) b q.bytes.now =
          ap two z ∙ two_at-is q.bytes.now (q.at + 3) q.of_bytes (omega arith) ∙ ap (λ (k : ℕ). slice (q.at + 3) k q.bytes.now) (sym w) in
          ap₂ ◌++◌ (y ∙ sym (ap fixed_of (tree-upto q.bytes.now q.at q.stop b e))) (ap (λ (x : SyntaxContext). four x.0) m)

      pub property-made : r ≡ Ok tt → Uses t t' (Ok tt)
      property-made h = effects-made at k h (λ x u v w. (tt, property-is n.0 (id_by id) (tree_of q) q.at at u (id_by j) (tag-is ∙ tag) named))

      pub property-full : {e : TableFull} → r ≡ Err e → Uses t t' (Err (refusal no-room at))
      property-full h = effects-full at k h (λ x u v w. (tt, property-is n.0 (id_by id) (tree_of q) q.at at u (id_by j) (tag-is ∙ tag) named))

      pub property-asked : {f : Effect} → (r ≡ Ok tt → f ≡ Ok tt) → ((e : TableFull) → r ≡ Err e → f ≡ Err (refusal no-room at)) → Uses t t' f
      property-asked {f} m n = go r refl
        where
          go : (a : Result Unit TableFull) → r ≡ a → Uses t t' f
          go (Ok a) h = subst (Uses t t') (sym (m h)) (property-made h)
          go (Err e) h = subst (Uses t t') (sym (n e h)) (property-full h)

-- ---- The record

no_record : (o : Option Record) (e : Setting) (i : List ℕ) (q : Field) (at p : ℕ) (u : State) → None ≡ source_of o → use_from o e i q at p u ≡ done (tt, u)
unfolding use_from
no_record None e i q at p u h = refl
no_record (Some r) e i q at p u h = absurd (let z : ◌≡◌ {A = ℕ} 0 1 = cc in omega arith)

a-record : (o : Option Record) (e : Setting) (i : List ℕ) (q : Field) (at p : ℕ) (u : State) (a : List ℕ) → Some a ≡ source_of o →
    use_from o e i q at p u ≡ onto (module_for e a p u) (λ r. use_property r.0 i q at p r.1)
unfolding use_from
a-record None e i q at p u a h = absurd (let z : ◌≡◌ {A = ℕ} 0 1 = cc in omega arith)
a-record (Some r) e i q at p u a h =
    let z : value_of r.literal ≡ a = cc in
    ap (λ (l : List ℕ). onto (module_for e l p u) (λ r. use_property r.0 i q at p r.1)) z

no-property : (i : List ℕ) (q : Field) (at p : ℕ) (u : State) → use_property None i q at p u ≡ done (tt, u)
unfolding use_property
no-property i q at p u = refl

-- from the array t to t', with the answer k
abbrev UsesFrom : Field → ℕ → ℕ → Id → List ℕ → List ℕ → Effect → Type 0
UsesFrom q at member id t t' k =
    Effects (λ x u. Named q) (λ x u. use_from (used_record x.setting.own (id_by id) u.collected) x.setting (id_by id) q member at u) t t' k

-- the record is looked for by the own module
record-is : (id : Id) (own : ModuleId) (r : Option Atom) {t : List ℕ} → Says (λ e. e.own) t own.0 → Tells (λ u. source_of (used_record own.0 (id_by id) u.collected)) t (source_by r) →
    (x : Env) (u : State) → Shows x t u → source_by r ≡ source_of (used_record x.setting.own (id_by id) u.collected)
record-is id own r o w x u v = w.is u v ∙ ap (λ (n : ℕ). source_of (used_record n (id_by id) u.collected)) (o.is u v)

module _ (q : Field) (at member : ℕ) (id : Id) {t : List ℕ} {own : ModuleId} {r : Option Atom} (o : Says (λ e. e.own) t own.0)
    (w : Tells (λ u. source_of (used_record own.0 (id_by id) u.collected)) t (source_by r)) where
  pub from-none : r ≡ None → UsesFrom q at member id t t (Ok tt)
  from-none h =
      effects-skip (λ x u v n. no_record (used_record x.setting.own (id_by id) u.collected) x.setting (id_by id) q member at u (ap source_by (sym h) ∙ record-is id own r o w x u v))

  module _ {a : Atom} {t1 : List ℕ} {m : Result (Option ModuleId) TooManyFiles} (h : r ≡ Some a) (k : Resolves (λ e. module_for e (two a.0)) t t1 m) where
    on-module : {x : Env} (u : State) → Shows x t u → (b : Outcome (Option ℕ × State)) → module_for x.setting (two a.0) at u ≡ b →
        use_from (used_record x.setting.own (id_by id) u.collected) x.setting (id_by id) q member at u ≡ onto b (λ r. use_property r.0 (id_by id) q member at r.1)
    on-module {x} u v b z =
        a-record (used_record x.setting.own (id_by id) u.collected) x.setting (id_by id) q member at u (two a.0) (ap source_by (sym h) ∙ record-is id own r o w x u v)
        ∙ ap (λ (b : Outcome (Option ℕ × State)). onto b (λ r. use_property r.0 (id_by id) q member at r.1)) z

    pub from-number : {n : ModuleId} {t2 : List ℕ} {f : Effect} → m ≡ Ok (Some n) → Effects (λ x u. Named q) (λ _. use_property (Some n.0) (id_by id) q member at) t1 t2 f →
        UsesFrom q at member id t t2 f
    from-number {n} z y =
        record {
          fine = λ o {x} u v c.
              let g = k.resolved (Some n) z u at v in
              let d = y.fine o g.state g.shows c in
              record { state = d.state; is = on-module u v (done (Some n.0, g.state)) g.is ∙ d.is; shows = d.shows };
          turned = λ b o {x} u v c.
              let g = k.resolved (Some n) z u at v in
              on-module u v (done (Some n.0, g.state)) g.is ∙ y.turned b o g.state g.shows c;
        }

    pub from-unresolved : m ≡ Ok None → UsesFrom q at member id t t1 (Ok tt)
    from-unresolved z =
        record {
          fine = λ o {x} u v c.
              let g = k.resolved None z u at v in
              record { state = g.state; is = on-module u v (done (None, g.state)) g.is ∙ no-property (id_by id) q member at g.state; shows = g.shows };
          turned = λ b o {x} u v c. fine-turned o;
        }

    pub from-full : {e : TooManyFiles} → m ≡ Err e → UsesFrom q at member id t t1 (Err (refusal too-many at))
    from-full {e} z = effects-refuse too-many at (λ x u v c. on-module u v (refused 5 at) (k.full e z u at v))
