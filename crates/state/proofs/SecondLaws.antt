-- The second pass appends specifiers without namespaces to records: the array shows what it showed.
use Rattle.std.specs.Prelude.{Option, None, Some}
use Prim.Native.Nat.{ℕ, ◌+◌}
use native.Mathlib.Omega.{arith}
use mathlib.Core.Path.{◌≡◌, refl, sym, ap, ap₂, ◌∙◌}
use mathlib.Core.Bool.{Bool, true, false, cond, ◌&&◌}
use mathlib.Core.List.{List, [], ◌∷◌, map}
use Rattle.tree.specs.Layout.{same, same_literal, value_of}
use Rattle.tree.specs.Tree.{Field, Fields, none, more, fixed_of}
use Rattle.metadata.specs.Metadata.{append}
use Rattle.inputs.specs.Lists.{is_some, mapped, among}
use Rattle.inputs.specs.Fields.{has, find_field}
use Rattle.extraction_rules.specs.State.{Record, Usage, State, set_collected}
use Rattle.extraction_rules.specs.First.{holds_namespace}
use Rattle.extraction_rules.specs.Second.{specifiers_from, extend}
use Rattle.state.specs.Cells.{Env, id_of, brief, flag, count_namespaces, namespaces_in, Shows}
use Rattle.state.proofs.IndexLaws.{index-map, index-same}
use Rattle.state.proofs.FrameLaws.{cells-same, shows-collected}
use Rattle.state.proofs.SourcedLaws.{extend-sources}

flag-zero : (b : Bool) → flag b ≡ 0 → b ≡ false
flag-zero true e = absurd (omega arith)
flag-zero false e = refl

-- usages become 20s
pub specifiers-plain : (us : List Usage) → count_namespaces (specifiers_from us) ≡ 0
unfolding count_namespaces specifiers_from
specifiers-plain [] = refl
specifiers-plain (u ∷ us) = let e = specifiers-plain us in omega arith

module _ (fs : Fields) (z : count_namespaces fs ≡ 0) where
  -- a test that only namespaces meet finds none there
  find-plain : (p : Field → Bool) → ((g : Field) → has 0x22 g ≡ false → p g ≡ false) → (gs : Fields) → count_namespaces gs ≡ 0 → find_field p gs ≡ None
  unfolding find_field count_namespaces
  find-plain p h none e = refl
  find-plain p h (more g gs) e =
      ap (λ (b : Bool). cond b (Some g) (find_field p gs)) (h g (flag-zero (has 0x22 g) (omega arith))) ∙ find-plain p h gs (omega arith)

  find-behind : (p : Field → Bool) → ((g : Field) → has 0x22 g ≡ false → p g ≡ false) → (a : Fields) → find_field p (append a fs) ≡ find_field p a
  unfolding find_field append
  find-behind p h none = find-plain p h fs z
  find-behind p h (more g a) = ap (λ (o : Option Field). cond (p g) (Some g) o) (find-behind p h a)

  count-behind : (a : Fields) → count_namespaces (append a fs) ≡ count_namespaces a
  unfolding count_namespaces append
  count-behind none = z
  count-behind (more g a) = ap (λ (n : ℕ). flag (has 0x22 g) + n) (count-behind a)

  abbrev behind : Record → Record
  behind r = record { literal = r.literal; specifiers = append r.specifiers fs }

  extend-by : {A : Type 0} (f : Record → A) (x : List ℕ) (r : Record) → f (behind r) ≡ f r → f (extend x fs r) ≡ f r
  unfolding extend
  extend-by f x r e = by (same_literal r.literal x)
    where
      by : (b : Bool) → f (cond b (behind r) r) ≡ f r
      by true = e
      by false = refl

  brief-behind : (r : Record) → brief (behind r) ≡ brief r
  unfolding brief
  brief-behind r = ap (λ (o : Option Field). record { value = value_of r.literal; literal = r.literal; namespace = mapped fixed_of o }) (find-behind (has 0x22) (λ g e. e) r.specifiers)

  holds-behind : (y : List ℕ) (r : Record) → holds_namespace y (behind r) ≡ holds_namespace y r
  unfolding holds_namespace
  holds-behind y r =
      ap (λ (o : Option Field). is_some o)
      (find-behind (λ (g : Field). has 0x22 g && same (fixed_of g) y) (λ g e. ap (λ (b : Bool). b && same (fixed_of g) y) e) r.specifiers)

  briefs-behind : (x : List ℕ) (l : List Record) → map brief (map (extend x fs) l) ≡ map brief l
  briefs-behind x [] = refl
  briefs-behind x (r ∷ l) = ap₂ ◌∷◌ (extend-by brief x r (brief-behind r)) (briefs-behind x l)

  namespaces-behind : (x : List ℕ) (l : List Record) → namespaces_in (map (extend x fs) l) ≡ namespaces_in l
  unfolding namespaces_in
  namespaces-behind x [] = refl
  namespaces-behind x (r ∷ l) = ap₂ ◌+◌ (extend-by (λ (q : Record). count_namespaces q.specifiers) x r (count-behind r.specifiers)) (namespaces-behind x l)

  -- 'appended to the record whose LITERAL is equal'
  pub shows-extended : {y : Env} {t : List ℕ} {s : State} (x : List ℕ) → Shows y t s → Shows y t (set_collected (map (extend x fs) s.collected) s)
  shows-extended {t} {s} x w =
      shows-collected w (record { rows_kept = λ m h. refl; cells_kept = cells-same _ }) (w.collected ∙ sym (briefs-behind x s.collected))
      (λ n.
      sym (index-map (holds_namespace (id_of n)) (extend x fs) s.collected)
      ∙ index-same (λ r. holds_namespace (id_of n) (extend x fs r)) (holds_namespace (id_of n)) (λ r. extend-by (holds_namespace (id_of n)) x r (holds-behind (id_of n) r)) s.collected)
      (namespaces-behind x s.collected) (λ a k. ap (among a) (extend-sources x fs s.collected) ∙ k)
