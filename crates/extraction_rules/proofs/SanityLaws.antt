-- What holds in every state of a run: numbers once given stay, usages are of imported ids, collected sources differ and none is
-- external, and forced sources are collected ones. Each is kept by every elementary step of both passes, so by both passes.
use Rattle.std.specs.Prelude.{Some}
use Prim.Native.Nat.{ℕ}
use mathlib.Core.Path.{◌≡◌, sym, ap, ◌∙◌}
use mathlib.Core.Bool.{true, false, not}
use mathlib.Core.List.{List, map}
use native.Mathlib.Omega.{arith}
use borrow.Author.Tests.{not-true}
use Rattle.scope.specs.Modules.{number_of}
use Rattle.scope.specs.declared.Mark.TheVariants.{Cjs, Wrapping}
use Rattle.scope.proofs.Laws.{request-keeps-numbers, mark-keeps-numbers}
use Rattle.tree.specs.Layout.{same, value_of}
use Rattle.inputs.specs.Lists.{among}
use Rattle.extraction_rules.specs.State.{Record, State, Pass, first, second, Setting}
use Rattle.extraction_rules.specs.First.{external, holds_namespace, forget, force_id, note_in, collect_in}
use Rattle.extraction_rules.specs.Second.{specifiers_from, extend, lose_namespaces}
use Rattle.extraction_rules.proofs.ListLaws.{All, all-weaken, all-last, all-filter, all-map, Distinct, distinct-last}
use Rattle.extraction_rules.proofs.FirstLaws.{source-cases, force-cases, sources_of, collect-cases, collect-stays, collect-all, extend-literal}
use Rattle.extraction_rules.proofs.FirstLaws.{lose-literal, map-sources, found-among, IsImported, note-stays, drop-stays}
use Rattle.extraction_rules.proofs.StepLaws.{EndSteps}
use Rattle.extraction_rules.proofs.WalkLaws.{Steps}

-- ---- A file's number, once given, stays

abbrev pub Numbered : ℕ → ℕ → State → Type 0
Numbered f n s = number_of f s.modules ≡ Some n

pub numbered-steps : (e : Setting) (P : List ℕ → Type 0) (f n : ℕ) → Steps e P (Numbered f n)
unfolding forget
numbered-steps e P f n =
    record {
      common =
          record {
            requires = record { on_request = λ s g m ms q h. request-keeps-numbers g s.modules q f n h; on_cjs = λ s m h. mark-keeps-numbers Cjs m s.modules f ∙ h; on_lazy = λ s r b h. h };
            on_force = λ s i h. force-cases i s (Numbered f n) h (λ r w. h);
            on_top = λ s b h. h;
          };
      one = λ _. record { on_note = λ s m h. h; on_usage = λ s u c w h. h; on_collect = λ s r b h. h };
      two = λ _. record { on_extend = λ s x us q h. h; on_source = λ s x b q h. source-cases (value_of x) s (Numbered f n) (λ _. h) h };
    }

pub numbered-end : (f n : ℕ) → EndSteps (Numbered f n)
numbered-end f n = record { on_wrap = λ s m h. mark-keeps-numbers Wrapping m s.modules f ∙ h; on_lose = λ s h. h }

-- ---- Collected sources are pairwise different in value

abbrev pub DistinctSources : State → Type 0
DistinctSources s = Distinct (sources_of s.collected)

pub distinct-steps : (e : Setting) (P : List ℕ → Type 0) → Steps e P DistinctSources
unfolding forget
distinct-steps e P =
    record {
      common =
          record {
            requires = record { on_request = λ s g m ms q h. h; on_cjs = λ s m h. h; on_lazy = λ s r b h. h };
            on_force = λ s i h. force-cases i s DistinctSources h (λ r w. h);
            on_top = λ s b h. h;
          };
      one =
          λ _. record {
            on_note = λ s m h. h;
            on_usage = λ s u c w h. h;
            on_collect = λ s r b h. collect-cases r s.collected Distinct (λ _. h)
                (λ w. distinct-last (sources_of s.collected) (value_of r.literal) h w);
          };
      two =
          λ _. record {
            on_extend = λ s x us q h. rw (map-sources (extend x (specifiers_from us)) s.collected (extend-literal x (specifiers_from us))) h;
            on_source = λ s x b q h. source-cases (value_of x) s DistinctSources (λ _. h) h;
          };
    }

pub distinct-end : EndSteps DistinctSources
distinct-end = record {
  on_wrap = λ s m h. h;
  on_lose =
      λ s h. rw (map-sources (lose_namespaces s.forced) s.collected (lose-literal s.forced)) h;
}

-- ---- No external source is ever recorded

abbrev pub OwnRecords : List (List ℕ) → List Record → Type 0
OwnRecords externals l = All (λ r. among (value_of r.literal) externals ≡ false) l

abbrev pub OwnSources : List (List ℕ) → State → Type 0
OwnSources externals s = OwnRecords externals s.collected × OwnRecords externals s.lazy

own-map : (externals : List (List ℕ)) (f : Record → Record) (l : List Record) → ((r : Record) → (f r).literal ≡ r.literal) →
    OwnRecords externals l → OwnRecords externals (map f l)
own-map externals f l k h =
    all-map (λ r. among (value_of r.literal) externals ≡ false) (λ r. among (value_of r.literal) externals ≡ false) f l
    (λ r w. ap (λ (x : List ℕ). among (value_of x) externals) (k r) ∙ w) h

pub own-steps : (e : Setting) (P : List ℕ → Type 0) → Steps e P (OwnSources e.externals)
unfolding forget external
own-steps e P =
    let J : State → Type 0 = OwnSources e.externals in
    record {
      common =
          record {
            requires =
                record {
                  on_request = λ s g m ms q h. h;
                  on_cjs = λ s m h. h;
                  on_lazy =
                      λ s r b h. (h.0, all-last (λ r. among (value_of r.literal) e.externals ≡ false) s.lazy r h.1 b);
                };
            on_force = λ s i h. force-cases i s J h (λ r w. h);
            on_top = λ s b h. h;
          };
      one =
          λ _. record {
            on_note = λ s m h. h;
            on_usage = λ s u c w h. h;
            on_collect = λ s r b h. (collect-all (λ x. among (value_of x) e.externals ≡ false) r s.collected b h.0, h.1);
          };
      two =
          λ _. record {
            on_extend = λ s x us q h. (
              own-map e.externals (extend x (specifiers_from us)) s.collected
                  (extend-literal x (specifiers_from us)) h.0,
              h.1,
            );
            on_source = λ s x b q h. source-cases (value_of x) s J (λ _. h) h;
          };
    }

pub own-end : (externals : List (List ℕ)) → EndSteps (OwnSources externals)
own-end externals =
    record {
      on_wrap = λ s m h. h;
      on_lose =
          λ s h. (own-map externals (lose_namespaces s.forced) s.collected (lose-literal s.forced) h.0, h.1);
    }

-- ---- A usage's id is imported, so that the second pass finds its context

abbrev pub UsagesImported : State → Type 0
UsagesImported s = All (λ u. IsImported u.id s.imported) s.usages

forget-imported : (i : List ℕ) (s : State) → UsagesImported s → UsagesImported (forget i s)
unfolding forget
forget-imported i s h =
    all-filter (λ u. IsImported u.id s.imported) (λ u. IsImported u.id (forget i s).imported) (λ u. not (same u.id i)) s.usages
    (λ u w k. drop-stays u.id i s.imported (not-true (same u.id i) w) k) h

pub imported-steps : (e : Setting) (P : List ℕ → Type 0) → Steps e P UsagesImported
unfolding forget
imported-steps e P =
    record {
      common =
          record {
            requires = record { on_request = λ s g m ms q h. h; on_cjs = λ s m h. h; on_lazy = λ s r b h. h };
            on_force = λ s i h. force-cases i s UsagesImported (forget-imported i s h) (λ r w. forget-imported i s h);
            on_top = λ s b h. h;
          };
      one =
          λ _. record {
            on_note = λ s m h. all-weaken (λ u. IsImported u.id s.imported) (λ u. IsImported u.id (note_in m s.imported))
                s.usages (λ u w. note-stays u.id m s.imported w) h;
            on_usage = λ s u c w h. all-last (λ u. IsImported u.id s.imported) s.usages u h (c, w);
            on_collect = λ s r b h. h;
          };
      two = λ _. record { on_extend = λ s x us q h. h; on_source = λ s x b q h. source-cases (value_of x) s UsagesImported (λ _. h) h };
    }

pub imported-end : EndSteps UsagesImported
imported-end = record { on_wrap = λ s m h. h; on_lose = λ s h. h }

-- ---- Forced sources are sources of collected records

abbrev pub ForcedCollected : State → Type 0
ForcedCollected s = All (λ a. among a (sources_of s.collected) ≡ true) s.forced

pub first-second : {A : Type 0} {k : Pass} → k ≡ first → k ≡ second → A
first-second q r = absurd (let z = ap pass_code (sym q ∙ r) in omega arith)
  where
    pass_code : Pass → ℕ
    pass_code first = 0
    pass_code second = 1

forced-force : (s : State) (i : List ℕ) → ForcedCollected s → ForcedCollected (force_id i s)
unfolding forget
forced-force s i h =
    force-cases i s ForcedCollected h
    (λ r w. all-last (λ a. among a (sources_of s.collected) ≡ true) s.forced (value_of r.literal) h
    (found-among (holds_namespace i) s.collected r w))

pub forced-steps-first : (e : Setting) (P : List ℕ → Type 0) → e.pass ≡ first → Steps e P ForcedCollected
forced-steps-first e P k =
    record {
      common = record { requires = record { on_request = λ s g m ms q h. h; on_cjs = λ s m h. h; on_lazy = λ s r b h. h }; on_force = forced-force; on_top = λ s b h. h };
      one =
          λ _. record {
            on_note = λ s m h. h;
            on_usage = λ s u c w h. h;
            on_collect = λ s r b h.
                all-weaken (λ a. among a (sources_of s.collected) ≡ true) (λ a. among a (sources_of (collect_in r s.collected)) ≡ true)
                s.forced (λ a w. collect-stays a r s.collected w) h;
          };
      two = λ q. first-second k q;
    }

-- the import's source is external or collected
abbrev pub Known : List (List ℕ) → List (List ℕ) → List ℕ → Type 0
Known externals sources x = among (value_of x) externals ≡ false → among (value_of x) sources ≡ true

-- in the second pass the collected sources stay the same
abbrev pub ForcedAmong : List (List ℕ) → State → Type 0
ForcedAmong sources s = (sources_of s.collected ≡ sources) × All (λ a. among a sources ≡ true) s.forced

pub forced-steps-second : (e : Setting) (sources : List (List ℕ)) → e.pass ≡ second → Steps e (Known e.externals sources) (ForcedAmong sources)
unfolding forget external
forced-steps-second e sources k =
    record {
      common =
          record {
            requires = record { on_request = λ s g m ms q h. h; on_cjs = λ s m h. h; on_lazy = λ s r b h. h };
            on_force = λ s i h. force-cases i s (ForcedAmong sources) h
                (λ r w. (
                  h.0,
                  all-last (λ a. among a sources ≡ true) s.forced (value_of r.literal) h.1
                      (ap (among (value_of r.literal)) (sym h.0) ∙ found-among (holds_namespace i) s.collected r w),
                ));
            on_top = λ s b h. h;
          };
      one = λ q. first-second q k;
      two =
          λ _. record {
            on_extend = λ s x us q h. (map-sources (extend x (specifiers_from us)) s.collected (extend-literal x (specifiers_from us)) ∙ h.0, h.1);
            on_source = λ s x b q h. source-cases (value_of x) s (ForcedAmong sources) (λ _. h)
                (h.0, all-last (λ a. among a sources ≡ true) s.forced (value_of x) h.1 (q b));
          };
    }

pub forced-end : (sources : List (List ℕ)) → EndSteps (ForcedAmong sources)
forced-end sources =
    record {
      on_wrap = λ s m h. h;
      on_lose =
          λ s h. (map-sources (lose_namespaces s.forced) s.collected (lose-literal s.forced) ∙ h.0, h.1);
    }
