-- In every state of the rules forced sources are sources of collected records, each once.
use Rattle.std.specs.Prelude.{Some}
use Prim.Native.Nat.{ℕ, zero, suc}
use mathlib.Core.Path.{◌≡◌, refl, sym, ap, ◌∙◌}
use mathlib.Core.Bool.{Bool, true, false, cond, ◌||◌}
use mathlib.Core.List.{List, [], ◌∷◌, ◌++◌, map}
use Rattle.scope.specs.Modules.{Modules}
use Rattle.tree.specs.Layout.{same, value_of}
use Rattle.tree.specs.Tree.{Fields}
use Rattle.tree.proofs.LayoutLaws.{same-refl, same-equal}
use Rattle.tree.proofs.FixedLaws.{or-right}
use Rattle.inputs.specs.Lists.{find, among}
use Rattle.extraction_rules.specs.State.{Record, State, start, set_forced, set_collected}
use Rattle.extraction_rules.specs.First.{force_source}
use Rattle.extraction_rules.specs.Second.{extend}
use Rattle.extraction_rules.proofs.TestLaws.{or-neither}
use Rattle.extraction_rules.proofs.ListLaws.{among-last, same-swap}
use Rattle.extraction_rules.proofs.FirstLaws.{map-sources, extend-literal}
use Rattle.state.specs.Cells.{sources_in, Once, Sourced}
use Rattle.state.specs.Does.{source_of, extend_at}

pub sourced-start : (ms : Modules) → Sourced (start ms)
unfolding Once among
sourced-start ms = record { once = tt; from = λ a e. absurd (cc) }

-- the source of a record that is found is one of theirs
pub find-among : (p : Record → Bool) (l : List Record) (x : List ℕ) → Some x ≡ source_of (find p l) → among x (sources_in l) ≡ true
unfolding find among
find-among p [] x e = absurd (cc)
find-among p (r ∷ l) x e = by (p r) (find-among p l x) e
  where
    by : (b : Bool) → (Some x ≡ source_of (find p l) → among x (sources_in l) ≡ true) → Some x ≡ source_of (cond b (Some r) (find p l)) →
        (same x (value_of r.literal) || among x (sources_in l)) ≡ true
    by true h f = let z : x ≡ value_of r.literal = cc in ap (λ (k : Bool). k || among x (sources_in l)) (ap (same x) (sym z) ∙ same-refl x)
    by false h f = or-right (same x (value_of r.literal)) (among x (sources_in l)) (h f)

-- ---- A source is forced

once-more : (a : List ℕ) (l : List (List ℕ)) → Once l → among a l ≡ false → Once (l ++ (a ∷ []))
unfolding Once among
once-more a [] o e = (refl, tt)
once-more a (b ∷ l) o e =
    let h = or-neither (same a b) (among a l) e in
    (among-last b a l ∙ ap (λ (x : Bool). x || same b a) o.0 ∙ same-swap b a ∙ h.0, once-more a l o.1 h.1)

pub sourced-force : (a : List ℕ) {s : State} → Sourced s → among a (sources_in s.collected) ≡ true → Sourced (force_source a s)
unfolding force_source
sourced-force a {s} k h = by (among a s.forced) refl
  where
    from : (c : List ℕ) (x : Bool) → same c a ≡ x → (y : Bool) → among c s.forced ≡ y → (y || x) ≡ true → among c (sources_in s.collected) ≡ true
    from c x p true q e = k.from c q
    from c true p false q e = ap (λ (z : List ℕ). among z (sources_in s.collected)) (same-equal c a p) ∙ h
    from c false p false q e = absurd (cc)

    by : (b : Bool) → among a s.forced ≡ b → Sourced (cond b s (set_forced (s.forced ++ (a ∷ [])) s))
    by true e = k
    by false e =
        record {
          once = once-more a s.forced k.once e;
          from = λ c f. from c (same c a) refl (among c s.forced) refl (sym (among-last c a s.forced) ∙ f);
        }

-- ---- Records that change keep their sources

pub sourced-collected : {s : State} {x : List Record} → Sourced s → ((a : List ℕ) → among a (sources_in s.collected) ≡ true → among a (sources_in x) ≡ true) →
    Sourced (set_collected x s)
sourced-collected k h = record { once = k.once; from = λ a e. h a (k.from a e) }

pub extend-sources : (x : List ℕ) (fs : Fields) (l : List Record) → sources_in (map (extend x fs) l) ≡ sources_in l
extend-sources x fs l = map-sources (extend x fs) l (extend-literal x fs)

pub extend_at-sources : (i : ℕ) (fs : Fields) (l : List Record) → sources_in (extend_at i fs l) ≡ sources_in l
unfolding extend_at
extend_at-sources i fs [] = refl
extend_at-sources zero fs (r ∷ l) = refl
extend_at-sources (suc i) fs (r ∷ l) = ap (λ (m : List (List ℕ)). value_of r.literal ∷ m) (extend_at-sources i fs l)
