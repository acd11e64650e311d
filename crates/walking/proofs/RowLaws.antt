-- Rows of fields: the first field by its way and then the rest are the row; a loop over a row.
use Rattle.std.specs.Prelude.{None, Some, Ok, Err}
use Prim.Native.Nat.{ℕ, ◌+◌, ◌≤◌}
use native.Mathlib.Omega.{arith}
use mathlib.Core.Path.{◌≡◌, refl, ap, subst, ◌∙◌}
use mathlib.Core.Bool.{Bool, true}
use mathlib.Core.List.{List, []}
use lib.ListN.{length}
use Rattle.tree.specs.Layout.{Bytes}
use Rattle.tree.specs.Tree.{Field, field, Fields, none, more, encode, encodes, size}
use Rattle.tree.specs.Access.{extent_at}
use Rattle.tree.specs.Standing.{tree_at, row_at}
use Rattle.tree.proofs.AccessLaws.{extent-upto}
use Rattle.tree.proofs.StandingLaws.{row-more, row-none}
use Rattle.tree.proofs.TreeLaws.{encodes-none, encodes-more}
use Rattle.inputs.specs.Outcome.{done}
use Rattle.extraction_rules.specs.State.{State, Setting, Act}
use Rattle.extraction_rules.specs.Walk.{walk, walk_all, walk_target}
use Rattle.state.specs.Cells.{Env}
use Rattle.steps.specs.Refusal.{Refusal}
use Rattle.steps.specs.Step.{Reads, SoundAll, Step}
use Rattle.steps.proofs.SoundLaws.{read-size, read-inside, sound_all-first, sound_all-rest}
use Rattle.steps.proofs.StepsLaws.{steps-is, steps-give, steps-as, pair_of, steps-pair, steps-turned}
use Rattle.walking.specs.declared.Way.{Way}
use Rattle.walking.specs.declared.Way.TheVariants.{Children, Member, Assignment}
use Rattle.walking.specs.Walking.{FieldSteps, RowSteps, first_by, others_by, row_by}

-- ---- Ways

pub all-more : (b : Bool) (x : Env) (f : Field) (fs : Fields) (p : ℕ) (s : State) →
    walk_all (more f fs) x.setting b p s ≡ pair_of more (λ y. walk f y.setting b p) (λ _ y. walk_all fs y.setting b (p + size f)) x s
unfolding walk
all-more b x f fs p s = refl

pub all-none : (b : Bool) (e : Setting) (p : ℕ) (s : State) → walk_all none e b p s ≡ done (none, s)
unfolding walk
all-none b e p s = refl

by-more : (w : Way) (x : Env) (f : Field) (fs : Fields) (p : ℕ) (s : State) →
    row_by w (more f fs) x.setting p s ≡ pair_of more (λ y. first_by w f y.setting p) (λ _ y. row_by (Children (others_by w)) fs y.setting (p + size f)) x s
unfolding walk row_by first_by others_by
by-more (Children b) x f fs p s = refl
by-more Member x f fs p s = refl
by-more (Assignment b) x f fs p s = refl

pub by-none : (w : Way) (e : Setting) (p : ℕ) (s : State) → row_by w none e p s ≡ done (none, s)
unfolding walk row_by
by-none (Children b) e p s = refl
by-none Member e p s = refl
by-none (Assignment b) e p s = refl

-- the first of them, by the way
pub first-child : {s : List ℕ} {at stop : ℕ} {w : Way} {b : Bool} {t out t' out' : List ℕ} {o : ℕ} {k : Step} → w ≡ Children b →
    FieldSteps s at stop (λ x. walk (tree_at s at stop) x.setting b at) t out o t' out' k → FieldSteps s at stop (λ x. first_by w (tree_at s at stop) x.setting at) t out o t' out' k
unfolding first_by
first-child {s} {at} {stop} e m = steps-as _ m (λ x u c. (c, ap (λ (w : Way). first_by w (tree_at s at stop) x.setting at u) e))

pub first-member : {s : List ℕ} {at stop : ℕ} {w : Way} {t out t' out' : List ℕ} {o : ℕ} {k : Step} → w ≡ Member →
    FieldSteps s at stop (λ x. walk (tree_at s at stop) x.setting true at) t out o t' out' k → FieldSteps s at stop (λ x. first_by w (tree_at s at stop) x.setting at) t out o t' out' k
unfolding first_by
first-member {s} {at} {stop} e m = steps-as _ m (λ x u c. (c, ap (λ (w : Way). first_by w (tree_at s at stop) x.setting at u) e))

pub first-target : {s : List ℕ} {at stop : ℕ} {w : Way} {b : Bool} {t out t' out' : List ℕ} {o : ℕ} {k : Step} → w ≡ Assignment b →
    FieldSteps s at stop (λ x. walk_target (tree_at s at stop) x.setting at) t out o t' out' k → FieldSteps s at stop (λ x. first_by w (tree_at s at stop) x.setting at) t out o t' out' k
unfolding first_by
first-target {s} {at} {stop} e m = steps-as _ m (λ x u c. (c, ap (λ (w : Way). first_by w (tree_at s at stop) x.setting at u) e))

-- ---- A row, a field at a time

-- the rest of a row
abbrev rest_by : Way → List ℕ → ℕ → ℕ → Env → Act Fields
rest_by way s stop end = λ v. row_by (Children (others_by way)) (row_at s stop end) v.setting stop

module _ (way : Way) {s : List ℕ} (bytes : Bytes s) {at end : ℕ} (le : at ≤ end) where
  -- no field is left
  pub row-over : extent_at s at end ≡ None → {t out : List ℕ} {o : ℕ} → RowSteps s at end (λ y. row_by way (row_at s at end) y.setting at) t out o t out (Ok o)
  row-over x =
      steps-give encodes (λ y u. SoundAll s at end × Reads y s) (λ y. row_by way (row_at s at end) y.setting at) none encodes-none
      (λ y u w. ap (λ (fs : Fields). row_by way fs y.setting at u) (row-none s at end le x) ∙ by-none way y.setting at u)

  module _ {stop : ℕ} (x : extent_at s at end ≡ Some stop) where
    split-here : SoundAll s at end → (y : Env) (u : State) →
        row_by way (row_at s at end) y.setting at u ≡ pair_of more (λ v. first_by way (tree_at s at stop) v.setting at) (λ _. rest_by way s stop end) y u
    split-here w y u =
        let i = read-inside (sound_all-first le w x).read in
        let n = read-size (sound_all-first le w x).read bytes in
        let z : at + size (tree_at s at stop) ≡ stop = omega arith in
        ap (λ (fs : Fields). row_by way fs y.setting at u) (row-more s at end stop le x) ∙ by-more way y (tree_at s at stop) (row_at s stop end) at u
        ∙ ap (λ (p : ℕ). pair_of more (λ v. first_by way (tree_at s at stop) v.setting at) (λ _ v. row_by (Children (others_by way)) (row_at s stop end) v.setting p) y u) z

    -- the first field, then the rest
    pub row-then : {t out t1 out1 t2 out2 : List ℕ} {o p : ℕ} {k : Step} → FieldSteps s at stop (λ y. first_by way (tree_at s at stop) y.setting at) t out o t1 out1 (Ok p) →
        RowSteps s stop end (rest_by way s stop end) t1 out1 p t2 out2 k → RowSteps s at end (λ y. row_by way (row_at s at end) y.setting at) t out o t2 out2 k
    row-then first others =
        steps-as (λ y. row_by way (row_at s at end) y.setting at)
        (steps-pair encode encodes encodes more encodes-more (λ y u. SoundAll s at end × Reads y s) (λ _. rest_by way s stop end) first (λ _. others) (field 0 [] none)
        (λ y u w. (sound_all-first le w.0 x, w.1)) (λ y u w f v q. (sound_all-rest le w.0 x, w.1)))
        (λ y u w. (w, split-here w.0 y u))

    pub row-turned : {t out t1 out1 : List ℕ} {o : ℕ} {v : Refusal} → FieldSteps s at stop (λ y. first_by way (tree_at s at stop) y.setting at) t out o t1 out1 (Err v) →
        RowSteps s at end (λ y. row_by way (row_at s at end) y.setting at) t out o t1 out1 (Err v)
    row-turned first =
        steps-as (λ y. row_by way (row_at s at end) y.setting at)
        (steps-turned encode encodes encodes more encodes-more (λ y u. SoundAll s at end × Reads y s) (λ _. rest_by way s stop end) first (λ y u w. (sound_all-first le w.0 x, w.1)))
        (λ y u w. (w, split-here w.0 y u))

-- ---- A row in a loop

-- the fields before `at` are walked, and what is left, by the way `by`, makes the whole
pub record Going (way : Way) (s : List ℕ) (from end : ℕ) (t₀ out₀ : List ℕ) (o : ℕ) (by : Way) (t out : List ℕ) (at to : ℕ) : Type 0 where
  pub size : length out ≡ length out₀
  pub after : from ≤ at
  pub inside : at ≤ end
  pub rest : (t' out' : List ℕ) (k : Step) → RowSteps s at end (λ x. row_by by (row_at s at end) x.setting at) t out to t' out' k →
      RowSteps s from end (λ x. row_by way (row_at s from end) x.setting from) t₀ out₀ o t' out' k

pub going-start : {way : Way} {s : List ℕ} {from end : ℕ} {t out : List ℕ} {o : ℕ} → from ≤ end → Going way s from end t out o way t out from o
going-start le = record { size = refl; after = omega arith; inside = le; rest = λ t' out' k m. m }

module _ {way : Way} {s : List ℕ} {from end : ℕ} {t₀ out₀ : List ℕ} {o : ℕ} {by : Way} {t out : List ℕ} {at to : ℕ} (bytes : Bytes s)
    (g : Going way s from end t₀ out₀ o by t out at to) where
  pub going-over : extent_at s at end ≡ None → RowSteps s from end (λ y. row_by way (row_at s from end) y.setting from) t₀ out₀ o t out (Ok to)
  going-over x = g.rest t out (Ok to) (row-over by bytes g.inside x)

  module _ {stop : ℕ} (x : extent_at s at end ≡ Some stop) {t1 out1 : List ℕ} {k : Step}
      (m : FieldSteps s at stop (λ y. first_by by (tree_at s at stop) y.setting at) t out to t1 out1 k) where
    pub going-more : {p : ℕ} {b : Bool} → k ≡ Ok p → b ≡ others_by by → Going way s from end t₀ out₀ o (Children b) t1 out1 stop p
    going-more {p} {b} z e =
        let i = extent-upto s at end g.inside x in
        let a = g.after in
        record {
          size = m.size ∙ g.size;
          after = omega arith;
          inside = i.1;
          rest = λ t' out' j r.
              g.rest t' out' j (row-then by bytes g.inside x (steps-is m z)
              (subst (λ (c : Bool). RowSteps s stop end (λ v. row_by (Children c) (row_at s stop end) v.setting stop) t1 out1 p t' out' j) e r));
        }

    pub going-turned : {v : Refusal} → k ≡ Err v → RowSteps s from end (λ y. row_by way (row_at s from end) y.setting from) t₀ out₀ o t1 out1 (Err v)
    going-turned z = g.rest t1 out1 _ (row-turned by bytes g.inside x (steps-is m z))
