-- The 20s of an import that is taken apart do not hold the namespace's id: a property's context is an export context.
use Prim.Native.Nat.{ℕ}
use mathlib.Core.Path.{◌≡◌, subst}
use mathlib.Core.Bool.{false}
use mathlib.Core.List.{List, [], ◌∷◌, ◌++◌}
use Rattle.scope.specs.Id.{local}
use Rattle.tree.specs.Layout.{same, four, context_of}
use Rattle.extraction_rules.specs.State.{Usage, State}
use Rattle.extraction_rules.specs.Second.{usages_of}
use Rattle.extraction_rules.proofs.ListLaws.{All, all-filter}
use Rattle.extraction_rules.proofs.SpaceLaws.{Property}
use Rattle.extraction_rules.proofs.KeepLaws.{Each}
use Rattle.placement.proofs.WaysLaws.{ways}
use Rattle.theorems.specs.Demand.{property_fields}
use Rattle.theorems.proofs.HeldLaws.{usages_for}
use Rattle.theorems.proofs.CleanLaws.{property-absent}

-- ---- Properties as specifiers

usages-absent : (i : List ℕ) (own : ℕ) (context : context_of i ≡ four (local own)) (c : List ℕ) (ps : List (List ℕ)) →
    All (λ u. Property u.property) (usages_for i c ps) → Each (λ f. ways f i false ≡ []) (property_fields 0x20 c ps)
usages-absent i own context c [] h = tt
usages-absent i own context c (p ∷ ps) h = (property-absent i own context (p ++ c) h.0, usages-absent i own context c ps h.1)

pub properties-absent : (i : List ℕ) (own : ℕ) (context : context_of i ≡ four (local own)) (c : List ℕ) (ps : List (List ℕ)) (s : State) →
    All (λ u. Property u.property) s.usages → usages_of i s.usages ≡ usages_for i c ps →
    Each (λ f. ways f i false ≡ []) (property_fields 0x20 c ps)
unfolding usages_of
properties-absent i own context c ps s h q =
    usages-absent i own context c ps
    (subst (All (λ (u : Usage). Property u.property)) q
    (all-filter (λ (u : Usage). Property u.property) (λ (u : Usage). Property u.property) (λ (u : Usage). same u.id i) s.usages
    (λ u _ k. k) h))
