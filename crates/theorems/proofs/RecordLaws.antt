-- The end of the second pass and resolving: the record of a settled namespace import, and what the resolved list says of it.
use Rattle.std.specs.Prelude.{Option, Some}
use Prim.Native.Nat.{ℕ, ◌+◌}
use mathlib.Core.Path.{◌≡◌, refl, sym, ap, subst, ◌∙◌}
use mathlib.Core.Bool.{Bool, true, false, not, cond}
use mathlib.Core.List.{List, [], ◌∷◌, ◌++◌, map}
use native.Mathlib.Omega.{arith}
use lib.Dec.{eqb}
use lib.ListN.{get_or, drop}
use Rattle.scope.specs.Modules.{Modules}
use Rattle.tree.specs.Layout.{same, value_of}
use Rattle.tree.specs.Tree.{Field, field, Fields, none, more, fixed_of, parts_of, size}
use Rattle.tree.proofs.LayoutLaws.{same-refl}
use Rattle.metadata.specs.Metadata.{append}
use Rattle.inputs.specs.Outcome.{done}
use Rattle.inputs.specs.Lists.{find, mapped, among}
use Rattle.inputs.specs.Table.{Row, file_of}
use Rattle.inputs.specs.Fields.{has, keep, inside}
use Rattle.extraction_rules.specs.State.{Record, State, Setting}
use Rattle.extraction_rules.specs.Second.{lose_namespaces, finish}
use Rattle.extraction_rules.specs.Records.{record_fields}
use Rattle.extraction_rules.proofs.OutcomeLaws.{After, after-weaken}
use Rattle.extraction_rules.proofs.ListLaws.{same-not, not-same}
use Rattle.extraction_rules.proofs.FirstLaws.{lose-literal}
use Rattle.extraction_rules.proofs.TableLaws.{record_of, record-map}
use Rattle.extraction_rules.proofs.ExtractedLaws.{Finished, finish-leaves}
use Rattle.resolving_rules.specs.Resolve.{resolved_specifiers, heading, resolved_all}
use Rattle.resolving_rules.proofs.ResolveLaws.{Made, all-made, leaves, nameds-made}
use Rattle.theorems.specs.Demand.{record_for, property_fields}
use Rattle.theorems.proofs.SettledLaws.{settled_record, Sits, Settled}

-- ---- The end of the second pass

-- what is left of the record
abbrev pub ended_record : Bool → List ℕ → List ℕ → List ℕ → List (List ℕ) → Record
ended_record true i lit c ps = record { literal = lit; specifiers = property_fields 0x20 c ps }
ended_record false i lit c ps = record { literal = lit; specifiers = more (field 0x22 i none) none }

abbrev pub Ended : Bool → List ℕ → List ℕ → List ℕ → List (List ℕ) → State → Type 0
Ended taken i lit c ps s = (record_of (value_of lit) s.collected ≡ Some (ended_record taken i lit c ps)) × (among (value_of lit) s.forced ≡ not taken)

named_kept : (c : List ℕ) (ps : List (List ℕ)) → keep (λ f. not (has 0x22 f)) (property_fields 0x20 c ps) ≡ property_fields 0x20 c ps
unfolding keep
named_kept c [] = refl
named_kept c (p ∷ ps) = ap (more (field 0x20 (p ++ c ++ 0 ∷ []) none)) (named_kept c ps)

loses : (taken : Bool) (i lit c : List ℕ) (ps : List (List ℕ)) (s : State) → Sits taken i (value_of lit) c ps s →
    (lose_namespaces s.forced (settled_record taken i lit c ps) ≡ ended_record taken i lit c ps) × (among (value_of lit) s.forced ≡ not taken)
unfolding lose_namespaces keep append
loses true i lit c ps s h = (rw h.2 (ap (λ (fs : Fields). record { literal = lit; specifiers = fs }) (named_kept c ps)), h.2)
loses false i lit c ps s h = (rw h.1, h.1)

-- R1
pub finish-ended : (taken : Bool) (i lit c : List ℕ) (ps : List (List ℕ)) (e : Setting) (s : State) → Settled taken i lit c ps s → After (finish e s) (λ _ t. Ended taken i lit c ps t)
finish-ended taken i lit c ps e s h =
    let l = loses taken i lit c ps s h.sits in
    after-weaken (finish e s) (λ _ t. Finished s t) (λ _ t. Ended taken i lit c ps t)
    (λ _ t f. (
      ap (record_of (value_of lit)) f.0 ∙ record-map (lose_namespaces s.forced) (value_of lit) s.collected (lose-literal s.forced)
          ∙ ap (mapped (lose_namespaces s.forced)) h.entry ∙ ap Some l.0,
      ap (among (value_of lit)) f.1 ∙ l.1,
    )) (finish-leaves e s)

-- ---- Resolving

-- the resolved record of a collected record: its heading, and its specifiers
record-done : (o : Option ℕ) (forced : List (List ℕ)) (ms : Modules) (r : Record) (p : ℕ) (g : Field) → Made o forced ms (field 0x80 r.literal r.specifiers) p g →
    (eqb (get_or (fixed_of g) 0 0) 3 ≡ true) × (drop 13 (fixed_of g) ≡ r.literal)
    × (resolved_specifiers (among (value_of r.literal) forced) r.specifiers (inside p r.literal) ≡ done (parts_of g))
unfolding heading
record-done o forced ms r p g m =
    (ap (λ (g : Field). eqb (get_or (fixed_of g) 0 0) 3) m.made, ap (λ (g : Field). drop 13 (fixed_of g)) m.made, m.specifiers ∙ ap (λ (g : Field). done (parts_of g)) (sym m.made))

-- R2: the first 90 with byte 3 and the literal is that of the first collected record of its source
pub record-found : (rows : List Row) (forced : List (List ℕ)) (ms : Modules) (x : List ℕ) (r : Record) (l : List Record) (rest : Fields) (p : ℕ)
    (gs : Fields) → record_of (value_of x) l ≡ Some r → r.literal ≡ x →
    resolved_all rows forced ms (append (record_fields 0x80 l) rest) p ≡ done gs → (k : ℕ) × (fs : Fields) × (record_for x gs ≡ Some fs)
    × (resolved_specifiers (among (value_of x) forced) r.specifiers k ≡ done fs)
unfolding find record_fields append record_for
record-found rows forced ms x r [] rest p gs h q e = absurd (let z : ◌≡◌ {A = ℕ} 0 1 = cc in omega arith)
record-found rows forced ms x r (y ∷ l) rest p gs h q e =
    let f : Field = field 0x80 y.literal y.specifiers in
    let a = all-made rows forced ms f (append (record_fields 0x80 l) rest) p gs e in
    let d = record-done (file_of (value_of y.literal) rows) forced ms y p a.0 a.3 in
    subst (λ (g : Fields). (k : ℕ) × (fs : Fields) × (record_for x g ≡ Some fs) × (resolved_specifiers (among (value_of x) forced) r.specifiers k ≡ done fs)) (sym a.2)
    (go a.0 a.1 d (same (value_of y.literal) (value_of x)) refl h (λ h. record-found rows forced ms x r l rest (p + size f) a.1 h q a.4))
  where
    go : (g : Field) (gs : Fields) → (eqb (get_or (fixed_of g) 0 0) 3 ≡ true) × (drop 13 (fixed_of g) ≡ y.literal)
        × (resolved_specifiers (among (value_of y.literal) forced) y.specifiers (inside p y.literal) ≡ done (parts_of g)) →
        (b : Bool) → same (value_of y.literal) (value_of x) ≡ b → cond b (Some y) (record_of (value_of x) l) ≡ Some r →
        (record_of (value_of x) l ≡ Some r → (k : ℕ) × (fs : Fields) × (record_for x gs ≡ Some fs) × (resolved_specifiers (among (value_of x) forced) r.specifiers k ≡ done fs)) →
        (k : ℕ) × (fs : Fields) × (record_for x (more g gs) ≡ Some fs) × (resolved_specifiers (among (value_of x) forced) r.specifiers k ≡ done fs)
    go g gs d true v h ih =
        let yr : y ≡ r = cc in
        let yx : y.literal ≡ x = ap (λ (r : Record). r.literal) yr ∙ q in (
          inside p y.literal,
          parts_of g,
          rw (d.0, d.1, yx, same-refl x),
          subst
              (λ (z : Record). resolved_specifiers (among (value_of x) forced) z.specifiers (inside p y.literal) ≡ done (parts_of g)) yr
              (ap (λ (v : List ℕ). resolved_specifiers (among (value_of v) forced) y.specifiers (inside p y.literal)) (sym yx) ∙ d.2),
        )
    go g gs d false v h ih =
        let k = ih h in
        (k.0, k.1, rw (d.0, d.1, same-not y.literal x (λ e. not-same (value_of y.literal) (value_of x) v (ap value_of e))) k.2, k.3)

-- the specifiers of an import that is taken apart, resolved
properties-leaves : (t : ℕ) (c : List ℕ) (ps : List (List ℕ)) → property_fields t c ps ≡ leaves t (map (λ p. p ++ c ++ 0 ∷ []) ps)
properties-leaves t c [] = refl
properties-leaves t c (p ∷ ps) = ap (more (field t (p ++ c ++ 0 ∷ []) none)) (properties-leaves t c ps)

pub properties-resolved : (all : Bool) (c : List ℕ) (ps : List (List ℕ)) (p : ℕ) (fs : Fields) →
    resolved_specifiers all (property_fields 0x20 c ps) p ≡ done fs → fs ≡ property_fields 0x91 c ps
properties-resolved all c ps p fs e =
    nameds-made all (map (λ p. p ++ c ++ 0 ∷ []) ps) p fs (ap (λ (gs : Fields). resolved_specifiers all gs p) (sym (properties-leaves 0x20 c ps)) ∙ e) ∙ sym (properties-leaves 0x91 c ps)
