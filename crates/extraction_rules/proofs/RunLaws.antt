-- The sanity laws of a whole run: of both passes, from the fresh state on, and of the call.
use Rattle.std.specs.Prelude.{Some}
use Prim.Native.Nat.{ℕ}
use mathlib.Core.Path.{◌≡◌, refl, subst}
use mathlib.Core.Bool.{true}
use mathlib.Core.List.{List, ◌∷◌, ◌++◌}
use Rattle.scope.specs.Modules.{Modules, number_of}
use Rattle.scope.proofs.Laws.{request-keeps-numbers}
use Rattle.tree.specs.Layout.{same}
use Rattle.tree.specs.Tree.{Field, field, Fields, none, fixed_of}
use Rattle.tree.proofs.LayoutLaws.{same-equal}
use Rattle.inputs.specs.Outcome.{done}
use Rattle.inputs.specs.Table.{Row, rows_in}
use Rattle.extraction_rules.specs.State.{Usage, State, first, second, Setting, start}
use Rattle.extraction_rules.specs.Second.{usages_of, as_property, rewritten}
use Rattle.extraction_rules.specs.First.{imported_as}
use Rattle.inputs.specs.Fields.{has}
use Rattle.extraction_rules.specs.Walk.{walk_module, walk_again}
use Rattle.extraction_rules.specs.Call.{Lent, Lengths, Extracted, setting, extracted}
use Rattle.extraction_rules.proofs.OutcomeLaws.{After, after-weaken, after-both}
use Rattle.extraction_rules.proofs.ListLaws.{all-first}
use Rattle.extraction_rules.proofs.FirstLaws.{sources_of, IsImported}
use Rattle.extraction_rules.proofs.StepLaws.{EndSteps}
use Rattle.extraction_rules.proofs.WalkLaws.{Steps, both-steps, both-end, ImportsAll, imports-any-all, walk_module-keeps, walk_again-keeps}
use Rattle.extraction_rules.proofs.SanityLaws.{Numbered, numbered-steps, numbered-end, DistinctSources, distinct-steps, distinct-end}
use Rattle.extraction_rules.proofs.SanityLaws.{OwnSources, own-steps, own-end, UsagesImported, imported-steps, imported-end, ForcedCollected}
use Rattle.extraction_rules.proofs.SanityLaws.{forced-steps-first, Known, ForcedAmong, forced-steps-second, forced-end}
use Rattle.extraction_rules.proofs.ImportsLaws.{walk_module-known}
use Rattle.extraction_rules.proofs.ExtractedLaws.{call-made, run-both}

abbrev AnyLiteral : List ℕ → Type 0
AnyLiteral x = Unit {0}

-- ---- The invariants of a run

-- collected sources differ in value, none recorded is external, usages are of imported ids, forced sources are collected
pub record Sane (externals : List (List ℕ)) (s : State) : Type 0 where
  pub distinct : DistinctSources s
  pub own : OwnSources externals s
  pub imported : UsagesImported s
  pub forced : ForcedCollected s

pub start-sane : (externals : List (List ℕ)) (ms : Modules) → Sane externals (start ms)
start-sane externals ms = record { distinct = tt; own = (tt, tt); imported = tt; forced = tt }

-- the same, forced sources being among those given
abbrev SaneAmong : List (List ℕ) → List (List ℕ) → State → Type 0
SaneAmong externals sources s = (DistinctSources s × OwnSources externals s) × (UsagesImported s × ForcedAmong sources s)

abbrev SaneFirst : List (List ℕ) → State → Type 0
SaneFirst externals s = (DistinctSources s × OwnSources externals s) × (UsagesImported s × ForcedCollected s)

first_of : (externals : List (List ℕ)) (s : State) → Sane externals s → SaneFirst externals s
first_of externals s h = ((h.distinct, h.own), (h.imported, h.forced))

sane-first : (externals : List (List ℕ)) (s : State) → SaneFirst externals s → Sane externals s
sane-first externals s h = record { distinct = h.0.0; own = h.0.1; imported = h.1.0; forced = h.1.1 }

sane-among : (externals sources : List (List ℕ)) (s : State) → SaneAmong externals sources s → Sane externals s
sane-among externals sources s h = record { distinct = h.0.0; own = h.0.1; imported = h.1.0; forced = rw h.1.1.0 h.1.1.1 }

module _ (e : Setting) where
  first-steps : e.pass ≡ first → Steps e AnyLiteral (SaneFirst e.externals)
  first-steps k =
      both-steps e AnyLiteral (λ s. DistinctSources s × OwnSources e.externals s) (λ s. UsagesImported s × ForcedCollected s)
      (both-steps e AnyLiteral DistinctSources (OwnSources e.externals) (distinct-steps e AnyLiteral) (own-steps e AnyLiteral))
      (both-steps e AnyLiteral UsagesImported ForcedCollected (imported-steps e AnyLiteral) (forced-steps-first e AnyLiteral k))

  -- the first pass leads from a sane state to one
  pub first-sane : e.pass ≡ first → (items : Fields) (s : State) → Sane e.externals s →
      After (walk_module e items s) (λ gs s'. Sane e.externals s')
  first-sane k items s h =
      after-weaken (walk_module e items s) (λ gs s'. SaneFirst e.externals s') (λ gs s'. Sane e.externals s')
      (λ gs s'. sane-first e.externals s')
      (walk_module-keeps e AnyLiteral (SaneFirst e.externals) (first-steps k) items s (imports-any-all items AnyLiteral (λ x. tt)) (first_of e.externals s h))

  second-steps : (sources : List (List ℕ)) → e.pass ≡ second → Steps e (Known e.externals sources) (SaneAmong e.externals sources)
  second-steps l k =
      let P : List ℕ → Type 0 = Known e.externals l in
      both-steps e P (λ s. DistinctSources s × OwnSources e.externals s) (λ s. UsagesImported s × ForcedAmong l s)
      (both-steps e P DistinctSources (OwnSources e.externals) (distinct-steps e P) (own-steps e P))
      (both-steps e P UsagesImported (ForcedAmong l) (imported-steps e P) (forced-steps-second e l k))

  second-end : (sources : List (List ℕ)) → EndSteps (SaneAmong e.externals sources)
  second-end l =
      both-end (λ s. DistinctSources s × OwnSources e.externals s) (λ s. UsagesImported s × ForcedAmong l s)
      (both-end DistinctSources (OwnSources e.externals) distinct-end (own-end e.externals))
      (both-end UsagesImported (ForcedAmong l) imported-end (forced-end l))

  -- and the second, over a tree whose imports are known
  pub second-sane : e.pass ≡ second → (items : Fields) (s : State) → ImportsAll items (Known e.externals (sources_of s.collected)) →
      Sane e.externals s →
      After (walk_again e items s) (λ gs s'. Sane e.externals s')
  second-sane k items s i h =
      let l = sources_of s.collected in
      after-weaken (walk_again e items s) (λ gs s'. SaneAmong e.externals l s') (λ gs s'. Sane e.externals s')
      (λ gs s'. sane-among e.externals l s')
      (walk_again-keeps e (Known e.externals l) (SaneAmong e.externals l) (second-steps l k) (second-end l) items s i
      ((h.distinct, h.own), (h.imported, (refl, h.forced))))

-- every run of both passes from the fresh state is sane at the end of each
pub run-sane : (l : Lent) (rows : List Row) (own : ℕ) (ms : Modules) (items : Fields) →
    After (walk_module (setting first own l rows) items (start ms))
    (λ works s. Sane (setting first own l rows).externals s × After (walk_again (setting second own l rows) works s)
    (λ outs s'. Sane (setting second own l rows).externals s'))
run-sane l rows own ms items =
    let one = setting first own l rows in
    let two = setting second own l rows in
    let m = walk_module one items (start ms) in
    after-weaken m (λ works s. Sane one.externals s × ImportsAll works (Known one.externals (sources_of s.collected)))
    (λ works s. Sane one.externals s × After (walk_again two works s) (λ outs s'. Sane two.externals s'))
    (λ works s w. (w.0, second-sane two refl works s w.1 w.0))
    (after-both m (λ works s. Sane one.externals s) (λ works s. ImportsAll works (Known one.externals (sources_of s.collected)))
    (first-sane one refl items (start ms) (start-sane one.externals ms)) (walk_module-known one refl items (start ms)))

-- an id with usages is imported: 'a 60 with usages becomes a 60: property, imported context' always finds that context
pub used-imported : (i : List ℕ) (s : State) (u : Usage) (us : List Usage) → UsagesImported s → usages_of i s.usages ≡ u ∷ us →
    IsImported i s.imported
unfolding usages_of
used-imported i s u us h e =
    let w = all-first (λ u. IsImported u.id s.imported) (λ u. same u.id i) s.usages u us h e in
    subst (λ (j : List ℕ). IsImported j s.imported) (same-equal u.id i w.1) w.0

-- so an expression 63 with 70 on a 60 with usages always becomes a 60
pub used-rewritten : (o q f : Field) (s : State) (u : Usage) (us : List Usage) → UsagesImported s →
    usages_of (fixed_of o) s.usages ≡ u ∷ us → has 0x70 q ≡ true →
    (c : List ℕ) × (imported_as (fixed_of o) s.imported ≡ Some c) × (rewritten (Some (o, q)) f s ≡ field 0x60 (fixed_of q ++ c) none)
unfolding rewritten as_property
used-rewritten o q f s u us h e t = let i = used-imported (fixed_of o) s u us h e in (i.0, i.1, rw (e, i.1, t))

-- ---- Numbers

-- no run changes a number that was given
pub run-keeps-numbers : (l : Lent) (rows : List Row) (own : ℕ) (s : State) (items : Fields) (f n : ℕ) → number_of f s.modules ≡ Some n →
    After (walk_module (setting first own l rows) items s)
    (λ works s'. (number_of f s'.modules ≡ Some n) × After (walk_again (setting second own l rows) works s')
    (λ outs s''. number_of f s''.modules ≡ Some n))
run-keeps-numbers l rows own s items f n h =
    let one = setting first own l rows in
    let two = setting second own l rows in
    after-weaken (walk_module one items s) (λ works s'. Numbered f n s')
    (λ works s'. Numbered f n s' × After (walk_again two works s') (λ outs s''. Numbered f n s''))
    (λ works s' w. (
      w,
      walk_again-keeps two AnyLiteral (Numbered f n) (numbered-steps two AnyLiteral f n) (numbered-end f n) works s'
          (imports-any-all works AnyLiteral (λ x. tt)) w,
    ))
    (walk_module-keeps one AnyLiteral (Numbered f n) (numbered-steps one AnyLiteral f n) items s (imports-any-all items AnyLiteral (λ x. tt)) h)

-- no accepted call changes a number that was given
pub call-keeps-numbers : (l : Lent) (room : Lengths) (ms : Modules) (f n : ℕ) → number_of f ms ≡ Some n → (r : Extracted) →
    extracted l room ms ≡ done r → number_of f r.modules ≡ Some n
call-keeps-numbers l room ms f n h r e =
    let m = call-made l room ms r e in
    let rows = rows_in l.table in
    subst (λ (z : Extracted). number_of f z.modules ≡ Some n) m.run.given
    (run-both l rows m.own.0 m.items m.own.1 r m.run (λ works s. Numbered f n s) (λ outs s. Numbered f n s)
    (run-keeps-numbers l rows m.own.0 (start m.own.1) m.items f n (request-keeps-numbers l.file ms m.requests f n h))).1
