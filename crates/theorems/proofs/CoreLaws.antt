-- A namespace import whose source resolves, in an accepted extraction: the two ends, from what is known of the items around it.
use Rattle.std.specs.Prelude.{Some}
use Prim.Native.Nat.{ℕ}
use mathlib.Core.Path.{◌≡◌, refl, sym, ap, ap₂, subst, ◌∙◌}
use mathlib.Core.Logic.{inl, inr}
use mathlib.Core.Bool.{Bool, true, false, true≢false}
use mathlib.Core.List.{List, [], ◌∷◌, ◌++◌}
use Rattle.scope.specs.Id.{require_atom, local, export}
use Rattle.scope.specs.Modules.{Modules, number_of}
use Rattle.tree.specs.Layout.{same, two, four, name_of, context_of, value_of}
use Rattle.tree.specs.declared.grammar.Rule.{Rule}
use Rattle.tree.specs.Grammar.{rule_of}
use Rattle.tree.specs.Tree.{Field, field, Fields, none, more, parts_of}
use Rattle.tree.proofs.Table.{both-true}
use Rattle.metadata.specs.Metadata.{append}
use Rattle.inputs.specs.Outcome.{Outcome, done}
use Rattle.inputs.specs.Lists.{among, filter}
use Rattle.inputs.specs.Fields.{keep}
use Rattle.inputs.specs.Table.{Row, file_of}
use Rattle.extraction_rules.specs.State.{State, first, second, Setting, start}
use Rattle.extraction_rules.specs.First.{external, stays}
use Rattle.extraction_rules.specs.Second.{usages_of}
use Rattle.extraction_rules.specs.Walk.{walk_module, walk_again}
use Rattle.extraction_rules.specs.Records.{record_fields, records_of}
use Rattle.extraction_rules.specs.Call.{Lent, Lengths, Extracted, setting}
use Rattle.extraction_rules.proofs.OutcomeLaws.{After, after-both, after-done}
use Rattle.extraction_rules.proofs.ListLaws.{all-weaken}
use Rattle.extraction_rules.proofs.SpaceLaws.{Property, Spaces, spaces-say}
use Rattle.extraction_rules.proofs.SanityLaws.{Numbered, numbered-steps, numbered-end}
use Rattle.extraction_rules.proofs.ShapeLaws.{Shaped, ShapedAll, shaped-parts, shaped-each}
use Rattle.extraction_rules.proofs.ReadableLaws.{Items, run-within}
use Rattle.extraction_rules.proofs.WalkLaws.{walk_again-keeps, imports-any-all}
use Rattle.extraction_rules.proofs.ExtractedLaws.{Run, run-both}
use Rattle.extraction_rules.proofs.KeepLaws.{Each, each-weaken, keep-meets}
use Rattle.extraction_rules.proofs.StayLaws.{import-stays}
use Rattle.resolving_rules.specs.Resolve.{sources_in, forced_in, number_all, resolved_specifiers, resolved_all}
use Rattle.resolving_rules.proofs.ResolveLaws.{number_all-keeps, namespace-made}
use Rattle.placement.specs.Stands.{How, stands, is_use, properties}
use Rattle.placement.proofs.WaysLaws.{ways, ways_all}
use Rattle.placement.proofs.DroppedLaws.{Item, keep-ways, place_kept, amid-keep}
use Rattle.placement.proofs.PlacedLaws.{Front, amid-each}
use Rattle.placement.proofs.HowLaws.{all_plain}
use Rattle.placement.proofs.QuietLaws.{tidy-parts}
use Rattle.theorems.specs.Demand.{is_used, Every, Declares, uses_of, record_for, property_fields, TakenApart, Kept}
use Rattle.theorems.proofs.HeldLaws.{Held, Stood, usages_for}
use Rattle.theorems.proofs.TidyLaws.{properties-absent}
use Rattle.theorems.proofs.FirstPassLaws.{OwnImport, Beside, Around, first-pass}
use Rattle.theorems.proofs.WorkedLaws.{CleanAround, Worked, Ready, first-worked, first-spaces}
use Rattle.theorems.proofs.SettledLaws.{takes_apart}
use Rattle.theorems.proofs.UsesLaws.{Good}
use Rattle.theorems.proofs.OutsLaws.{own_specifiers, Outs, second-pass}
use Rattle.theorems.proofs.EndsLaws.{declares-own, uses-end, Tidy, gone-end}
use Rattle.theorems.proofs.SourcesLaws.{sources-of, forced-of}
use Rattle.theorems.proofs.RecordLaws.{ended_record, Ended, record-found, properties-resolved}
use Rattle.theorems.proofs.OutFieldLaws.{Fine, fine-less}

module _ (i lit : List ℕ) (own file : ℕ) (context : context_of i ≡ four (local own)) (named : same (name_of i) (two require_atom) ≡ false)
    (Space : List ℕ → Type 0) (locals : (j : List ℕ) → Space j → context_of j ≡ four (local own)) where
  -- what is known of the items around the import at the place k
  pub record Surrounded (k : ℕ) (items : Fields) : Type 0 where
    pub around : Around i lit own file k items
    pub front : Front k items
    pub place : place_kept k items ≡ k
    pub clean : CleanAround i lit own file context k items
    pub ready : Ready i lit own file context Space locals items
    pub fine : Fine (all_plain (stands items i)) (ways_all items i false)

  -- the same of the items that stay
  kept-around : (k : ℕ) (items : Fields) → Surrounded k items → Around i lit own file (place_kept k items) (keep stays items)
  kept-around k items h = amid-keep (OwnImport i lit own file) (Beside i lit own file) k items (λ f o. import-stays f o.tag) h.around

  kept-fine : (k : ℕ) (items : Fields) → Surrounded k items → Fine (all_plain (stands items i)) (ways_all (keep stays items) i false)
  kept-fine k items h =
      subst (Fine (all_plain (stands items i))) (sym (keep-ways items i (amid-each (OwnImport i lit own file) (Beside i lit own file) Item k items (λ f o. inl o.tag) beside-item
      h.around))) h.fine
    where
      beside-item : (f : Field) → Beside i lit own file f → Item f
      beside-item f (inl o) = inl o.tag
      beside-item f (inr r) = inr r

  taken-fine : (k : ℕ) (items : Fields) → Surrounded k items → Fine (takes_apart (stands items i)) (ways_all (keep stays items) i false)
  taken-fine k items h =
      fine-less (all_plain (stands items i)) (takes_apart (stands items i)) (ways_all (keep stays items) i false)
      (λ q. (both-true (is_used (filter is_use (stands items i))) (all_plain (stands items i)) q).1) (kept-fine k items h)

  module _ (l : Lent) (rows : List Row) (res : file_of (value_of lit) rows ≡ Some file) (inner : external (setting first own l rows) lit ≡ false)
      (within : external (setting second own l rows) lit ≡ false) where
    abbrev one : Setting
    one = setting first own l rows

    abbrev again : Setting
    again = setting second own l rows

    -- the first pass: *work*, and all that the second reads
    first-all : (k : ℕ) (items : Fields) (ms : Modules) → Surrounded k items →
        After (walk_module one items (start ms)) (λ works s. Worked i lit own file context (place_kept k items) (keep stays items) works × (((n : ℕ) × Held i lit own file n
        (stands items i) s) × Spaces Space own locals s))
    first-all k items ms h =
        after-both (walk_module one items (start ms)) (λ works s. Worked i lit own file context (place_kept k items) (keep stays items) works)
        (λ works s. ((n : ℕ) × Held i lit own file n (stands items i) s) × Spaces Space own locals s)
        (first-worked i lit own file context one refl refl res inner named k items (start ms) h.clean)
        (after-both (walk_module one items (start ms)) (λ works s. (n : ℕ) × Held i lit own file n (stands items i) s) (λ works s. Spaces Space own locals s)
        (first-pass i lit own file one refl refl res inner named context k items ms h.around h.front)
        (first-spaces i lit own file context Space locals one refl refl res inner named items ms h.ready))

    pub second-all : (k : ℕ) (items works : Fields) (s : State) (n : ℕ) → Surrounded k items →
        Worked i lit own file context (place_kept k items) (keep stays items) works →
        Held i lit own file n (stands items i) s → Spaces Space own locals s →
        After (walk_again again works s)
        (λ outs t. Outs i lit own file n (stands items i) context named (place_kept k items) (keep stays items) outs
        × Ended (takes_apart (stands items i)) i lit (four (export n)) (properties (stands items i)) t)
    second-all k items works s n h w hs sp =
        second-pass i lit own file n (stands items i) context named again refl within (place_kept k items) (keep stays items) works s (kept-around k items h) (keep-meets stays items) w
        (kept-fine k items h) (
          hs,
          spaces-say Space own locals s sp,
          all-weaken (λ u. Space u.id × Property u.property) (λ u. Property u.property) s.usages
              (λ u k. k.1) sp.usages,
        )

    -- ---- Resolving

    -- the resolved record of each end
    pub record-taken : (forced : List (List ℕ)) (ms : Modules) (c : List ℕ) (ps : List (List ℕ)) (t : State) (gs : Fields) → Ended true i lit c ps t →
        resolved_all rows forced ms (append (record_fields 0x80 t.collected) (record_fields 0x81 t.lazy)) 3 ≡ done gs →
        record_for lit gs ≡ Some (property_fields 0x91 c ps)
    record-taken forced ms c ps t gs h e =
        let w = record-found rows forced ms lit (ended_record true i lit c ps) t.collected (record_fields 0x81 t.lazy) 3 gs h.0 refl e in
        w.2 ∙ ap Some (properties-resolved (among (value_of lit) forced) c ps w.0 w.1 w.3)

    pub record-kept : (ms : Modules) (c : List ℕ) (ps : List (List ℕ)) (t : State) (gs : Fields) → Ended false i lit c ps t →
        resolved_all rows t.forced ms (append (record_fields 0x80 t.collected) (record_fields 0x81 t.lazy)) 3 ≡ done gs →
        record_for lit gs ≡ Some (more (field 0x92 (i ++ 1 ∷ []) none) none)
    record-kept ms c ps t gs h e =
        let w = record-found rows t.forced ms lit (ended_record false i lit c ps) t.collected (record_fields 0x81 t.lazy) 3 gs h.0 refl e in
        w.2 ∙ ap Some (namespace-made true i w.0 w.1 (subst (λ (b : Bool). resolved_specifiers b (more (field 0x22 i none) none) w.0 ≡ done w.1) h.1 w.3))

    -- ---- The two ends

    -- T: taken apart
    pub ends-taken : (k : ℕ) (items outs gs : Fields) (t : State) (ms : Modules) (n : ℕ) → takes_apart (stands items i) ≡ true →
        Surrounded k items → Outs i lit own file n (stands items i) context named (place_kept k items) (keep stays items) outs →
        Ended (takes_apart (stands items i)) i lit (four (export n)) (properties (stands items i)) t →
        Each (λ f. ways f i false ≡ []) (property_fields 0x20 (four (export n)) (properties (stands items i))) →
        Each (Tidy i lit own file n (stands items i) context named) outs →
        resolved_all rows t.forced ms (append (record_fields 0x80 t.collected) (record_fields 0x81 t.lazy)) 3 ≡ done gs →
        TakenApart i (four (export n)) lit k (properties (stands items i)) items outs gs
    ends-taken k items outs gs t ms n apart h o en absent tidy e =
        record {
          gone = gone-end i lit own file n (stands items i) context named apart absent (place_kept k items) (keep stays items) outs o (taken-fine k items h) tidy;
          used = subst (λ (b : Bool). Every (Good b (four (export n))) (uses_of items outs i)) apart (uses-end i lit own file n (stands items i) context named
              (place_kept k items) items outs (kept-around k items h) o (taken-fine k items h));
          declares =
              subst (λ (b : Bool). Declares outs k lit (own_specifiers i lit own file n (stands items i) context named b)) apart
              (subst (λ (m : ℕ). Declares outs m lit (own_specifiers i lit own file n (stands items i) context named (takes_apart (stands items i)))) h.place
              (declares-own i lit own file n (stands items i) context named (place_kept k items) (keep stays items) outs o));
          records =
              record-taken t.forced ms (four (export n)) (properties (stands items i)) t gs
              (subst (λ (b : Bool). Ended b i lit (four (export n)) (properties (stands items i)) t) apart en) e;
        }

    -- else: kept
    pub ends-kept : (k : ℕ) (items outs gs : Fields) (t : State) (ms : Modules) (n : ℕ) → takes_apart (stands items i) ≡ false →
        Surrounded k items → Outs i lit own file n (stands items i) context named (place_kept k items) (keep stays items) outs →
        Ended (takes_apart (stands items i)) i lit (four (export n)) (properties (stands items i)) t →
        resolved_all rows t.forced ms (append (record_fields 0x80 t.collected) (record_fields 0x81 t.lazy)) 3 ≡ done gs → Kept i lit k items outs gs
    ends-kept k items outs gs t ms n kept h o en e =
        record {
          declares =
              subst (λ (b : Bool). Declares outs k lit (own_specifiers i lit own file n (stands items i) context named b)) kept
              (subst (λ (m : ℕ). Declares outs m lit (own_specifiers i lit own file n (stands items i) context named (takes_apart (stands items i)))) h.place
              (declares-own i lit own file n (stands items i) context named (place_kept k items) (keep stays items) outs o));
          records = record-kept ms (four (export n)) (properties (stands items i)) t gs (subst (λ (b : Bool). Ended b i lit (four (export n)) (properties (stands items i)) t) kept en) e;
          used = subst (λ (b : Bool). Every (Good b (four (export n))) (uses_of items outs i)) kept (uses-end i lit own file n (stands items i) context named
              (place_kept k items) items outs (kept-around k items h) o (taken-fine k items h));
        }

    -- ---- An accepted extraction and what resolving makes of its records

    tidy-at : (n : ℕ) (us : List How) (g : Field) → Shaped g → Tidy i lit own file n us context named g
    tidy-at n us g h q k = tidy-parts (parts_of g) i (shaped-parts g 0x10 h q) k

    tidy-all : (n : ℕ) (us : List How) (gs : Fields) (q : Rule) → ShapedAll gs q → Each (Tidy i lit own file n us context named) gs
    tidy-all n us gs q h = each-weaken Shaped (Tidy i lit own file n us context named) gs (tidy-at n us) (shaped-each gs q h)

    -- taken apart where the first argument says so, and kept otherwise
    abbrev pub EndsBy : Bool → ℕ → List How → Fields → Fields → Fields → Modules → Type 0
    EndsBy true k us items outs gs ms = (n : ℕ) × (number_of file ms ≡ Some n) × TakenApart i (four (export n)) lit k (properties us) items outs gs
    EndsBy false k us items outs gs ms = Kept i lit k items outs gs

    -- the usages of an import that is taken apart
    held-usages : (us : List How) (n : ℕ) (s : State) → takes_apart us ≡ true → Held i lit own file n us s → usages_of i s.usages ≡ usages_for i (four (export n)) (properties us)
    held-usages us n s t h = go (all_plain us) (both-true (is_used (filter is_use us)) (all_plain us) t).1 h.stood
      where
        go : (b : Bool) → b ≡ true → Stood i (value_of lit) (four (export n)) b (properties us) s → usages_of i s.usages ≡ usages_for i (four (export n)) (properties us)
        go true q k = k.1
        go false q k = absurd (true≢false (sym q))

    end-of : (b : Bool) (k : ℕ) (items outs gs : Fields) (s t : State) (ms : Modules) (n : ℕ) → takes_apart (stands items i) ≡ b →
        Surrounded k items → Held i lit own file n (stands items i) s → Spaces Space own locals s →
        Outs i lit own file n (stands items i) context named (place_kept k items) (keep stays items) outs →
        Ended (takes_apart (stands items i)) i lit (four (export n)) (properties (stands items i)) t → Items outs → number_of file ms ≡ Some n →
        resolved_all rows t.forced ms (append (record_fields 0x80 t.collected) (record_fields 0x81 t.lazy)) 3 ≡ done gs → EndsBy b k (stands items i) items outs gs ms
    end-of true k items outs gs s t ms n q h held sp o en shape number e = (
      n,
      number,
      ends-taken k items outs gs t ms n q h o en
          (properties-absent i own context (four (export n)) (properties (stands items i)) s
          (all-weaken (λ u. Space u.id × Property u.property) (λ u. Property u.property) s.usages (λ u k. k.1) sp.usages)
          (held-usages (stands items i) n s q held))
          (tidy-all n (stands items i) outs (rule_of 0x01) shape.shaped) e,
    )
    end-of false k items outs gs s t ms n q h held sp o en shape number e = ends-kept k items outs gs t ms n q h o en e

    -- the resolved list of the end's records
    pub run-ends : (k : ℕ) (items : Fields) {room : Lengths} (ms new : Modules) (r : Extracted) (gs : Fields) → Items items → Surrounded k items →
        (u : Run l room rows own items ms r) →
        number_all rows (sources_in (parts_of (records_of u.end))) u.end.modules 3 ≡ done new →
        resolved_all rows u.end.forced new (append (record_fields 0x80 u.end.collected) (record_fields 0x81 u.end.lazy)) 3 ≡ done gs →
        EndsBy (takes_apart (stands items i)) k (stands items i) items u.outs gs new
    run-ends k items ms new r gs shape h u numbered resolved =
        let us = stands items i in
        let x =
        after-done (walk_module one items (start ms))
        (λ works s. Worked i lit own file context (place_kept k items) (keep stays items) works × (((n : ℕ) × Held i lit own file n us s) × Spaces Space own locals s))
        (u.works, u.middle) u.once (first-all k items ms h) in
        let y =
        after-done (walk_again again u.works u.middle)
        (λ outs t. Outs i lit own file x.1.0.0 us context named (place_kept k items) (keep stays items) outs
        × Ended (takes_apart us) i lit (four (export x.1.0.0)) (properties us) t) (u.outs, u.end) u.twice
        (second-all k items u.works u.middle x.1.0.0 h x.0 x.1.0.1 x.1.1) in
        let w = (run-both l rows own items ms r u (λ works s. Items works) (λ outs t. Items outs) (run-within l rows own ms items shape)).1 in
        let number = after-done (walk_again again u.works u.middle) (λ outs t. Numbered file x.1.0.0 t) (u.outs, u.end) u.twice
        (walk_again-keeps again (λ _. Unit {0}) (Numbered file x.1.0.0) (numbered-steps again (λ _. Unit {0}) file x.1.0.0)
        (numbered-end file x.1.0.0) u.works u.middle (imports-any-all u.works (λ _. Unit {0}) (λ _. tt)) x.1.0.1.given) in
        end-of (takes_apart us) k items u.outs gs u.middle u.end new x.1.0.0 refl h x.1.0.1 x.1.1 y.0 y.1 w
        (number_all-keeps rows file x.1.0.0 (sources_in (parts_of (records_of u.end))) u.end.modules new 3 numbered number) resolved

    -- An accepted extraction, and an accepted resolving of its records as they were written: taken apart or kept
    pub core : (k : ℕ) (items : Fields) {room : Lengths} (ms new : Modules) (r : Extracted) (gs : Fields) → Items items → Surrounded k items →
        Run l room rows own items ms r →
        number_all rows (sources_in (parts_of r.records)) r.modules 3 ≡ done new → resolved_all rows (forced_in (parts_of r.records)) new (sources_in (parts_of r.records)) 3 ≡ done gs →
        EndsBy (takes_apart (stands items i)) k (stands items i) items (parts_of r.out) gs new
    core k items ms new r gs shape h u a b =
        let q = sym u.given in
        subst (λ (z : Extracted). EndsBy (takes_apart (stands items i)) k (stands items i) items (parts_of z.out) gs new) u.given
        (run-ends k items ms new r gs shape h u (subst (λ (z : Extracted). number_all rows (sources_in (parts_of z.records)) z.modules 3 ≡ done new) q a)
        (sym (ap₂ {C = Outcome Fields} (λ f c. resolved_all rows f new c 3) (forced-of u.end) (sources-of u.end))
        ∙ subst (λ (z : Extracted). resolved_all rows (forced_in (parts_of z.records)) new (sources_in (parts_of z.records)) 3 ≡ done gs) q b))
