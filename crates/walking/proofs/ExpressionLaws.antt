-- Idents, members and calls: what is written for each, and what follows its parts, is what the walk makes of it.
use Rattle.std.specs.Prelude.{Option, None, Some, Ok, Err}
use Prim.Native.Nat.{ℕ, ◌+◌, ◌≤◌, ◌<◌}
use native.Mathlib.Omega.{arith}
use mathlib.Core.Path.{◌≡◌, refl, sym, ap, subst, ◌∙◌}
use mathlib.Core.Bool.{Bool, true, false, cond}
use mathlib.Core.List.{List, []}
use lib.ListN.{get_or}
use lib.Seq.{slice}
use Rattle.tree.specs.Layout.{id_at}
use Rattle.tree.specs.Tree.{Field, field, Fields, none, encode}
use Rattle.tree.specs.Access.{fixed_at}
use Rattle.tree.specs.Standing.{tree_at, row_at}
use Rattle.tree.proofs.StandingLaws.{tree-upto}
use Rattle.tree.proofs.AccessLaws.{upto-in}
use Rattle.tree.proofs.WidthLaws.{plain-ends, plain-upto, tree-bare}
use Rattle.tree.specs.declared.grammar.Value.TheVariants.{Id as id-value}
use Rattle.scope.specs.declared.id.Id.{Id}
use Rattle.writer.specs.Wrote.{Wrote}
use Rattle.inputs.specs.Outcome.{Outcome, done, refused, onto}
use Rattle.inputs.specs.Fields.{inside}
use Rattle.extraction_rules.specs.State.{State, Pass, first, second, Setting, Act}
use Rattle.extraction_rules.specs.First.{force_id, on_ident, usage}
use Rattle.extraction_rules.specs.Walk.{after_expression, walk, walk_member, walk_target}
use Rattle.extraction_rules.proofs.OutcomeLaws.{After}
use Rattle.extraction_rules.proofs.AlikeLaws.{Regular}
use Rattle.state.specs.Cells.{Env, id_by, Shows}
use Rattle.state.specs.Does.{is_second, Turns, Tells, Says}
use Rattle.expressions.specs.After.{ident_after}
use Rattle.steps.specs.Refusal.{Refusal}
use Rattle.steps.specs.Step.{Reads, Sound, Step, Steps}
use Rattle.steps.proofs.SoundLaws.{read-short, read-inside}
use Rattle.steps.proofs.StepsLaws.{steps-done, steps-never, steps-by, steps-write, then_of, steps-then, steps-then-turned}
use Rattle.walking.specs.Walking.{FieldSteps, InPass, forced_by, ForcedFirst}
use Rattle.walking.proofs.TagLaws.{around, walk-60, walk-63, first-63, ident-by}
use Rattle.walking.proofs.ChainLaws.{ident-walks, member-stays}
use Rattle.walking.proofs.UsedLaws.{usage-walked}

-- what is told, by what it is
pub tells-as : {A : Type 0} {f : State → A} {t : List ℕ} {a b : A} → Tells f t a → a ≡ b → Tells f t b
tells-as m e = record { is = λ u w. sym e ∙ m.is u w }

-- ---- The pass

by-flag : (k : Pass) (b : Bool) → b ≡ is_second k → k ≡ cond b second first
by-flag first b e = ap (λ (z : Bool). cond z second first) (sym e)
by-flag second b e = ap (λ (z : Bool). cond z second first) (sym e)

module _ {t : List ℕ} {b : Bool} (m : Says (λ e. is_second e.pass) t b) where
  pub pass-second : b ≡ true → InPass second t
  pass-second e x u w = by-flag x.setting.pass b (m.is u w) ∙ ap (λ (z : Bool). cond z second first) e

  pub pass-first : b ≡ false → InPass first t
  pass-first e x u w = by-flag x.setting.pass b (m.is u w) ∙ ap (λ (z : Bool). cond z second first) e

-- ---- A 60

module _ (s : List ℕ) (at from stop : ℕ) (x : fixed_at s (get_or s at 0) (at + 3) stop ≡ Some from) (q : get_or s at 0 ≡ 0x60) where
  pub ident-tree : Sound s at stop → tree_at s at stop ≡ field 0x60 (id_at s (at + 3)) none
  ident-tree w =
      let z = tree-upto s at stop from x in
      let r = subst Regular z w.regular in
      let b : from ≡ at + 3 + 6 = plain-ends 0x60 id-value refl s (get_or s at 0) (at + 3) stop from q x in
      z ∙ ap (λ (n : ℕ). field n (slice (at + 3) from s) (row_at s from stop)) q
      ∙ ap (λ (fs : Fields). field 0x60 (slice (at + 3) from s) fs) (r.0.ident_bare q) ∙ ap (λ (n : ℕ). field 0x60 (slice (at + 3) n s) none) b

  -- the walk of this 60 in a pass
  ident-walk : (e : Setting) (k : Pass) (object : Bool) (id : Id) (u : State) → e.pass ≡ k → id_by id ≡ id_at s (at + 3) → Sound s at stop →
      walk (tree_at s at stop) e object at u ≡ after_expression k e (field 0x60 (id_by id) none) object at u
  ident-walk e k object id u p i w =
      ap (λ (f : Field). walk f e object at u) (ident-tree w ∙ ap (λ (z : List ℕ). field 0x60 z none) (sym i)) ∙ walk-60 e (id_by id) object at u
      ∙ ap (λ (b : Pass). after_expression b e (field 0x60 (id_by id) none) object at u) p

-- its id is forced as the pass has it, and it is written
pub ident-written : (s : List ℕ) (at stop : ℕ) (object : Bool) (id : Id) {t t' out out' : List ℕ} {o p : ℕ} → get_or s at 0 ≡ 0x60 → at + 9 ≤ stop → id_by id ≡ id_at s (at + 3) →
    ForcedFirst object (id_by id) t t' → Wrote out o (encode (field 0x60 (id_by id) none)) out' p →
    FieldSteps s at stop (λ y. walk (tree_at s at stop) y.setting object at) t out o t' out' (Ok p)
ident-written s at stop object id q h i g v =
    let x = plain-upto 0x60 id-value refl s (get_or s at 0) (at + 3) stop q (omega arith) in
    steps-done v.size (λ y u w k. record {
      value = field 0x60 (id_by id) none;
      state = forced_by y.setting.pass object (id_by id) u;
      is = ident-walk s at (at + 3 + 6) stop x q y.setting y.setting.pass object id u refl i k.0 ∙ ident-by y.setting.pass y.setting (id_by id) object at u;
      wrote = v;
      shows = g.shows u w;
    })

-- one that is too short was not read
pub ident-short : (s : List ℕ) (at stop : ℕ) (act : Env → Act Field) {t out : List ℕ} {o : ℕ} (k : Step) → get_or s at 0 ≡ 0x60 → stop < at + 9 →
    FieldSteps s at stop act t out o t out k
ident-short s at stop act k q h = steps-never encode _ act k (λ y u w. go w.0 (fixed_at s (get_or s at 0) (at + 3) stop) refl)
  where
    go : Sound s at stop → (r : Option ℕ) → fixed_at s (get_or s at 0) (at + 3) stop ≡ r → ⊥
    go w None e = read-short w.read e
    go w (Some b) e =
        let z = plain-ends 0x60 id-value refl s (get_or s at 0) (at + 3) stop b q e in
        let i = upto-in s (get_or s at 0) (at + 3) stop (read-inside w.read).0 e in
        omega arith

-- what the forcing of an id does, by the tests
module _ (i : List ℕ) {t : List ℕ} where
  pub forced-object : {b : Bool} → b ≡ true → ForcedFirst b i t t
  unfolding forced_by
  forced-object {b} e = record { shows = λ {x} u w. go x.setting.pass b e u w }
    where
      go : {x : Env} (k : Pass) (b : Bool) → b ≡ true → (u : State) → Shows x t u → Shows x t (forced_by k b i u)
      go first b e u w = rw e w
      go second b e u w = w

  pub forced-again : (b : Bool) → InPass second t → ForcedFirst b i t t
  unfolding forced_by
  forced-again b two = record { shows = λ {x} u w. subst (λ (k : Pass). Shows x t (forced_by k b i u)) (sym (two x u w)) w }

  pub forced-first : {t' : List ℕ} {b : Bool} → b ≡ false → InPass first t → Turns (force_id i) t t' → ForcedFirst b i t t'
  unfolding forced_by
  forced-first {t'} {b} e one g =
      record {
        shows = λ {x} u w.
            subst (λ (k : Pass). Shows x t' (forced_by k b i u)) (sym (one x u w))
            (subst (λ (c : Bool). Shows x t' (cond c u (force_id i u))) (sym e) (g.shows u w));
      }

-- ---- A 63

-- in the second pass: what becomes an id is written as one
pub member-ident : (s : List ℕ) (at stop : ℕ) (object : Bool) (id : Id) {t out out' : List ℕ} {o p : ℕ} → InPass second t →
    Tells (ident_after (tree_at s at stop) second) t (Some (id_by id)) → Wrote out o (encode (field 0x60 (id_by id) none)) out' p →
    FieldSteps s at stop (λ y. walk (tree_at s at stop) y.setting object at) t out o t out' (Ok p)
member-ident s at stop object id two n v =
    steps-write encode _ _ (field 0x60 (id_by id) none) (λ u. u) (record { shows = λ u w. w }) v
    (λ y u w k. ident-walks y.setting (two y u w) (tree_at s at stop) object at u (id_by id) k.0.regular (sym (n.is u w)))

-- else it is walked as the target of an assignment is
module _ (object : Bool) (s : List ℕ) (at stop : ℕ) (h : at + 3 ≤ stop) (q : get_or s at 0 ≡ 0x63) where
  target-63 : (e : Setting) (u : State) → walk_target (tree_at s at stop) e at u ≡ around 0x63 [] (walk_member (row_at s (at + 3) stop) e (inside at [])) u
  unfolding walk
  target-63 e u = ap (λ (f : Field). walk_target f e at u) (tree-bare 0x63 refl s at stop h q)

  pub member-other : {t out t' out' : List ℕ} {o : ℕ} {k : Step} → InPass second t → Tells (ident_after (tree_at s at stop) second) t None →
      FieldSteps s at stop (λ y. walk_target (tree_at s at stop) y.setting at) t out o t' out' k →
      FieldSteps s at stop (λ y. walk (tree_at s at stop) y.setting object at) t out o t' out' k
  member-other two n m =
      steps-by _ m (λ y u w k.
      let z = tree-bare 0x63 refl s at stop h q in (
        k,
        ap (λ (f : Field). walk f y.setting object at u) z
            ∙ member-stays y.setting (two y u w) [] (row_at s (at + 3) stop) object at u (subst Regular z k.0.regular)
            (ap (λ (f : Field). ident_after f second u) (sym z) ∙ sym (n.is u w))
            ∙ sym (target-63 y.setting u),
      ))

  -- in the first pass usage follows
  walk-used : (y : Env) → y.setting.pass ≡ first → Sound s at stop → (u : State) →
      walk (tree_at s at stop) y.setting object at u ≡
      then_of (λ z. walk_target (tree_at s at stop) z.setting at) (λ z. usage (on_ident (tree_at s at stop)) z.setting at) y u
  walk-used y one w u =
      let z = tree-bare 0x63 refl s at stop h q in
      let r = subst Regular z w.regular in
      ap (λ (f : Field). walk f y.setting object at u) z ∙ walk-63 y.setting [] (row_at s (at + 3) stop) object at u
      ∙ go (walk_member (row_at s (at + 3) stop) y.setting (inside at []) u)
      (usage-walked y.setting one [] (row_at s (at + 3) stop) at (inside at []) u (r.0.member_two refl) r.1)
      ∙ sym (ap (λ (m : Outcome (Field × State)). onto m (λ a. onto (usage (on_ident (tree_at s at stop)) y.setting at a.1) (λ b. done (a.0, b.1)))) (target-63 y.setting u)
      ∙ ap (λ (f : Field). onto (around 0x63 [] (walk_member (row_at s (at + 3) stop) y.setting (inside at [])) u)
      (λ a. onto (usage (on_ident f) y.setting at a.1) (λ b. done (a.0, b.1)))) z)
    where
      go : (m : Outcome (Fields × State)) →
          After m (λ ds v. (u : State) → usage (on_ident (field 0x63 [] ds)) y.setting at u ≡ usage (on_ident (field 0x63 [] (row_at s (at + 3) stop))) y.setting at u) →
          onto m (λ r. after_expression y.setting.pass y.setting (field 0x63 [] r.0) object at r.1) ≡
          onto (onto {B = Field × State} m (λ r. done (field 0x63 [] r.0, r.1)))
          (λ a. onto (usage (on_ident (field 0x63 [] (row_at s (at + 3) stop))) y.setting at a.1) (λ b. done (a.0, b.1)))
      go (refused n p) k = refl
      go (done r) k =
          ap (λ (b : Pass). after_expression b y.setting (field 0x63 [] r.0) object at r.1) one ∙ first-63 y.setting [] r.0 object at r.1
          ∙ ap (λ (m : Outcome (Unit {0} × State)). onto m (λ b. done (field 0x63 [] r.0, b.1))) (k r.1)

  module _ {t out t1 out1 : List ℕ} {o : ℕ} (one : InPass first t) where
    pub member-used : {t2 : List ℕ} {p : ℕ} {k : Step} → FieldSteps s at stop (λ y. walk_target (tree_at s at stop) y.setting at) t out o t1 out1 (Ok p) →
        Steps (λ _. []) (λ y u. Sound s at stop) (λ y. usage (on_ident (tree_at s at stop)) y.setting at) t1 out1 p t2 out1 k →
        FieldSteps s at stop (λ y. walk (tree_at s at stop) y.setting object at) t out o t2 out1 k
    member-used m n =
        steps-by _ (steps-then encode (field 0 [] none) (λ y u. Sound s at stop × Reads y s) m n (λ y u w. w) (λ y u w a v z. w.0))
        (λ y u w k. (k, walk-used y (one y u w) k.0 u))

    pub member-turned : {v : Refusal} → FieldSteps s at stop (λ y. walk_target (tree_at s at stop) y.setting at) t out o t1 out1 (Err v) →
        FieldSteps s at stop (λ y. walk (tree_at s at stop) y.setting object at) t out o t1 out1 (Err v)
    member-turned m =
        steps-by _ (steps-then-turned encode (λ y u. Sound s at stop × Reads y s) (λ y. usage (on_ident (tree_at s at stop)) y.setting at) m (λ y u w. w))
        (λ y u w k. (k, walk-used y (one y u w) k.0 u))
