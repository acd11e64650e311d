-- That an array is good is a fact, of which there are no two: so a type may carry it.
use Prim.Native.Nat.{ℕ, suc, ◌%◌}
use mathlib.Core.Sum.{⊎_set}
use mathlib.Core.List.{List, [], ◌∷◌}
use Rattle.std.proofs.Math.Nat.{ℕ_set}
use Rattle.std.proofs.Math.Bridge.{le_prop}
use Rattle.tables.specs.Rows.{Row}
use Rattle.state.specs.Cells.{Kind, imports, uses, records, namespaces, lazies, forces, modules, externals, table, import_hint, namespace_hint, use_hint, row_hint, module_hint, Below, InLimits, Covered, Distinct, Named, Reached, Hinted, Good}

below-one : (k v : ℕ) (l : List Row) → IsProp (Below k v l)
unfolding Below
below-one k v [] = hlevel
below-one k v (r ∷ l) = hlevel (le_prop, below-one k v l)

limits-one : (k : Kind) (l : List Row) → IsProp (InLimits k l)
limits-one imports l = below-one _ _ l
limits-one uses l = below-one _ _ l
limits-one records l = below-one _ _ l
limits-one namespaces l = below-one _ _ l
limits-one lazies l = below-one _ _ l
limits-one forces l = below-one _ _ l
limits-one modules l = below-one _ _ l
limits-one externals l = below-one _ _ l
limits-one table l = below-one _ _ l

covered-one : (p : ℕ → ℕ) (t : List ℕ) (l : List Row) → IsProp (Covered p t l)
unfolding Covered
covered-one p t [] = hlevel
covered-one p t (r ∷ l) = hlevel (le_prop, covered-one p t l)

distinct-one : (l : List Row) → IsProp (Distinct l)
unfolding Distinct
distinct-one [] = hlevel
distinct-one (r ∷ l) = hlevel (⊎_set, ℕ_set, distinct-one l)

named-one : (i : ℕ) (t : List ℕ) (l : List Row) → IsProp (Named i t l)
unfolding Named
named-one i t [] = hlevel
named-one i t (r ∷ l) = hlevel (le_prop, named-one (suc i) t l)

reached-one : (n : ℕ) (p : ℕ → ℕ) (i : ℕ) (l : List Row) → IsProp (Reached n p i l)
unfolding Reached
reached-one n p i [] = hlevel
reached-one n p i (r ∷ l) = hlevel (le_prop, reached-one n p (suc i) l)

hinted-one : (k : Kind) (t : List ℕ) (l : List Row) → IsProp (Hinted k t l)
hinted-one imports t l = hlevel (covered-one import_hint t l, distinct-one l)
hinted-one uses t l = covered-one use_hint t l
hinted-one records t l = named-one 0 t l
hinted-one namespaces t l = covered-one namespace_hint t l
hinted-one lazies t l = hlevel
hinted-one forces t l = hlevel
hinted-one modules t l = reached-one 256 (λ f. module_hint t (f % 256)) 0 l
hinted-one externals t l = hlevel
hinted-one table t l = reached-one 1024 (λ a. row_hint t (a % 1024)) 0 l

pub good-one : (t : List ℕ) → IsProp (Good t)
good-one t = hlevel (le_prop, limits-one, hinted-one)
