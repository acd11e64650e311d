-- The sources and the forced sources in an extraction's records.
use Prim.Native.Nat.{ℕ}
use mathlib.Core.List.{List, [], ◌∷◌}
use mathlib.Core.Bool.{false}
use lib.Dec.{eqb}
use mathlib.Core.Path.{◌≡◌, refl, ap, ◌∙◌}
use Rattle.tree.specs.Tree.{Fields, none, more, parts_of}
use Rattle.metadata.specs.Metadata.{append}
use Rattle.metadata.proofs.EncodeLaws.{append-none}
use Rattle.inputs.specs.Fields.{has, keep}
use Rattle.extraction_rules.specs.State.{Record, State}
use Rattle.extraction_rules.specs.Records.{record_fields, forced_fields, records_of}
use Rattle.extraction_rules.proofs.KeepLaws.{Each}
use Rattle.resolving_rules.specs.Resolve.{sources_in, forced_in}

append-all : (fs gs : Fields) → Each (λ f. has 0x83 f ≡ false) fs → sources_in (append fs gs) ≡ append fs (sources_in gs)
unfolding append keep
append-all none gs h = refl
append-all (more f fs) gs h = rw h.0 (ap (more f) (append-all fs gs h.1))

records-sources : (t : ℕ) (l : List Record) → Each (λ f. has 0x83 f ≡ eqb t 0x83) (record_fields t l)
unfolding record_fields
records-sources t [] = tt
records-sources t (r ∷ l) = (refl, records-sources t l)

forced-none : (l : List (List ℕ)) → sources_in (forced_fields l) ≡ none
unfolding keep forced_fields
forced-none [] = refl
forced-none (a ∷ l) = forced-none l

pub sources-of : (s : State) → sources_in (parts_of (records_of s)) ≡ append (record_fields 0x80 s.collected) (record_fields 0x81 s.lazy)
unfolding records_of
sources-of s =
    append-all (record_fields 0x80 s.collected) _ (records-sources 0x80 s.collected) ∙
    ap (append (record_fields 0x80 s.collected))
    (append-all (record_fields 0x81 s.lazy) (forced_fields s.forced) (records-sources 0x81 s.lazy)
    ∙ ap (append (record_fields 0x81 s.lazy)) (forced-none s.forced) ∙ append-none (record_fields 0x81 s.lazy))

forced-append : (fs gs : Fields) → Each (λ f. has 0x83 f ≡ false) fs → forced_in (append fs gs) ≡ forced_in gs
unfolding append forced_in
forced-append none gs h = refl
forced-append (more f fs) gs h = rw h.0 (forced-append fs gs h.1)

forced-fields : (l : List (List ℕ)) → forced_in (forced_fields l) ≡ l
unfolding forced_in forced_fields
forced-fields [] = refl
forced-fields (a ∷ l) = ap (λ (m : List (List ℕ)). a ∷ m) (forced-fields l)

pub forced-of : (s : State) → forced_in (parts_of (records_of s)) ≡ s.forced
unfolding records_of
forced-of s = forced-append (record_fields 0x80 s.collected) _ (records-sources 0x80 s.collected)
    ∙ forced-append (record_fields 0x81 s.lazy) (forced_fields s.forced) (records-sources 0x81 s.lazy) ∙ forced-fields s.forced
