-- The first pass over items that are no imports: what the state holds of one namespace is told by how its id has stood so far.
use Rattle.std.specs.Prelude.{Option, None, Some}
use Prim.Native.Nat.{ℕ, ◌+◌, ◌≤◌}
use mathlib.Core.Path.{◌≡◌, refl, sym, ap, subst, ◌∙◌}
use mathlib.Core.Logic.{◌⊎◌, inl, inr}
use mathlib.Core.Bool.{Bool, true, false, not, cond, ◌&&◌, ◌||◌, true≢false, and_assoc, and_comm, and-false, and-true}
use mathlib.Core.List.{List, [], ◌∷◌, ◌++◌, map, append-nil, append_assoc}
use native.Mathlib.Omega.{arith}
use lib.Dec.{eqb}
use lib.ListN.{length, get_or}
use borrow.Author.Tests.{eqb-true, ne_eqb, eqb-false}
use Rattle.scope.specs.Id.{require_atom, export}
use Rattle.scope.specs.Modules.{Modules, number_of, request, set_mark}
use Rattle.scope.specs.declared.Mark.TheVariants.{Cjs}
use Rattle.scope.proofs.Laws.{request-keeps-numbers, mark-keeps-numbers}
use Rattle.tree.specs.Layout.{same, two, four, id_at, name_of, value_of}
use Rattle.tree.specs.Tree.{Field, field, Fields, none, more, tag_of, fixed_of, size}
use Rattle.tree.proofs.LayoutLaws.{same-refl, same-equal}
use Rattle.tree.specs.Grammar.{within}
use Rattle.metadata.proofs.EncodeLaws.{append-none}
use Rattle.inputs.specs.Outcome.{Outcome, done, onto}
use Rattle.inputs.specs.Lists.{find, filter, mapped, among}
use Rattle.inputs.specs.Table.{file_of}
use Rattle.inputs.specs.Fields.{has, find_field, inside}
use Rattle.extraction_rules.specs.State.{Record, Usage, State, Pass, first, second, Setting, Act, change, refuse, set_modules, set_usages, set_collected, set_lazy, set_top}
use Rattle.extraction_rules.specs.First.{id_from, module_for, force_id, on_ident, imported_as, used_record, use_property, use_from, use_imported, usage}
use Rattle.extraction_rules.specs.First.{required, collect_in, require, export_specifier, declarator}
use Rattle.extraction_rules.specs.Second.{usages_of}
use Rattle.extraction_rules.specs.Walk.{Rule, import, export as exporting, declare, express, nothing as nil, after_expression, rule_for, after, Parts}
use Rattle.extraction_rules.specs.Walk.{unwalked, member, super, assignment, children, parts_for, enter, walk, walk_all, walk_member, walk_assignment}
use Rattle.extraction_rules.specs.Walk.{walk_target}
use Rattle.extraction_rules.proofs.OutcomeLaws.{After, after-bind, after-weaken, after-both, after-if}
use Rattle.extraction_rules.proofs.ListLaws.{not-same}
use Rattle.extraction_rules.proofs.WalkLaws.{walk_parts}
use Rattle.extraction_rules.proofs.TagLaws.{rule-import, other-rule, rule-export, other-parts, parts-member, parts-assignment, parts-unwalked}
use Rattle.extraction_rules.proofs.TableLaws.{record_of, record-empty}
use Rattle.extraction_rules.proofs.StepLaws.{RequireSteps, enter-keeps, module_for-keeps, declarator-keeps, require-keeps, add_usage-keeps}
use Rattle.extraction_rules.proofs.AlikeLaws.{Two, RegularAt, Regular, RegularAll, AlikeAll, alike-two, walk_all-alike, walk_member-alike, walk_assignment-alike, parts-alike}
use Rattle.extraction_rules.proofs.StayLaws.{no-member}
use Rattle.extraction_rules.proofs.SeekLaws.{seek, holds_in, suits_in, seek-collect, force-own, force-other, force-tables, forgotten-imported}
use Rattle.extraction_rules.proofs.SeekLaws.{other-imported, forgotten-usages, other-usages, usages-last, usages-other}
use Rattle.placement.specs.Stands.{How, plain, computed, bare, original, otherwise, ids_in, by_member, object_ids, is_use, is_plain, properties}
use Rattle.placement.specs.Placed.{all}
use Rattle.placement.proofs.WaysLaws.{met, ways, ways_all, ways_member, ways_assignment, ways_target, ways_parts, ways_object, object-alike}
use Rattle.placement.proofs.HowLaws.{ident-neutral, unused-append, all_plain, plain-append, properties-append, properties-skip, Neutral}
use Rattle.placement.proofs.HowLaws.{unused-neutral, ids-unused, ids-properties, object-unused}

-- the usages that plain properties leave
abbrev pub usages_for : List ℕ → List ℕ → List (List ℕ) → List Usage
usages_for i c ps = map (λ p. record { id = i; property = p ++ c }) ps

usages_for-last : (i c : List ℕ) (ps : List (List ℕ)) (p : List ℕ) → usages_for i c (ps ++ (p ∷ [])) ≡ usages_for i c ps ++ (record { id = i; property = p ++ c } ∷ [])
usages_for-last i c [] p = refl
usages_for-last i c (q ∷ ps) p = rw (usages_for-last i c ps p)

-- i a namespace of the source a, c the export context of the source's module; ps the properties so far.
-- All uses plain: imported, the properties are its usages, its source is not forced; else: forgotten and forced
abbrev pub Stood : List ℕ → List ℕ → List ℕ → Bool → List (List ℕ) → State → Type 0
Stood i a c true ps s = (imported_as i s.imported ≡ Some c) × (usages_of i s.usages ≡ usages_for i c ps) × (among a s.forced ≡ false)
Stood i a c false ps s = (imported_as i s.imported ≡ None) × (usages_of i s.usages ≡ []) × (among a s.forced ≡ true)

-- the namespace import's own record
abbrev pub own_record : List ℕ → List ℕ → Record
own_record i l = record { literal = l; specifiers = more (field 0x22 i none) none }

-- of the namespace i of the import with the literal lit
pub record Held (i lit : List ℕ) (own file n : ℕ) (us : List How) (s : State) : Type 0 where
  -- the source's record is as the import left it
  pub entry : record_of (value_of lit) s.collected ≡ Some (own_record i lit)
  -- it is the first record that holds i, and the first to hold no other namespace
  pub holds : seek (holds_in i) s.collected ≡ Some (value_of lit)
  pub alone : (j : List ℕ) → seek (holds_in j) s.collected ≡ Some (value_of lit) → j ≡ i
  -- the search by name and context finds it too
  pub finds : seek (suits_in own i) s.collected ≡ Some (value_of lit)
  -- the source's file has its number
  pub given : number_of file s.modules ≡ Some n
  pub stood : Stood i (value_of lit) (four (export n)) (all_plain us) (properties us) s

-- a change of the state that the namespace does not feel
pub record Unfelt (i lit : List ℕ) (own file : ℕ) (s t : State) : Type 0 where
  pub entry : record_of (value_of lit) t.collected ≡ record_of (value_of lit) s.collected
  pub holders : (j : List ℕ) → seek (holds_in j) t.collected ≡ Some (value_of lit) → seek (holds_in j) s.collected ≡ Some (value_of lit)
  pub holder : seek (holds_in i) t.collected ≡ seek (holds_in i) s.collected
  pub suited : seek (suits_in own i) t.collected ≡ seek (suits_in own i) s.collected
  pub number : (n : ℕ) → number_of file s.modules ≡ Some n → number_of file t.modules ≡ Some n
  pub context : imported_as i t.imported ≡ imported_as i s.imported
  pub usages : usages_of i t.usages ≡ usages_of i s.usages
  pub forced : among (value_of lit) t.forced ≡ among (value_of lit) s.forced

module _ (i lit : List ℕ) (own file n : ℕ) where
  abbrev a : List ℕ
  a = value_of lit

  abbrev H : List How → State → Type 0
  H us s = Held i lit own file n us s

  pub held-unfelt : (us : List How) (s t : State) → Unfelt i lit own file s t → H us s → H us t
  held-unfelt us s t u h =
      record {
        entry = u.entry ∙ h.entry;
        holds = u.holder ∙ h.holds;
        alone = λ j q. h.alone j (u.holders j q);
        finds = u.suited ∙ h.finds;
        given = u.number n h.given;
        stood = go (all_plain us) h.stood;
      }
    where
      go : (b : Bool) → Stood i a (four (export n)) b (properties us) s → Stood i a (four (export n)) b (properties us) t
      go true k = (u.context ∙ k.0, u.usages ∙ k.1, u.forced ∙ k.2)
      go false k = (u.context ∙ k.0, u.usages ∙ k.1, u.forced ∙ k.2)

  -- another list of ways that tells the same
  pub held-like : (us vs : List How) (s : State) → all_plain us ≡ all_plain vs → (all_plain us ≡ true → properties us ≡ properties vs) → H us s → H vs s
  held-like us vs s p q h = record { entry = h.entry; holds = h.holds; alone = h.alone; finds = h.finds; given = h.given; stood = rw (← p) (go (all_plain us) q h.stood) }
    where
      go : (b : Bool) → (b ≡ true → properties us ≡ properties vs) → Stood i a (four (export n)) b (properties us) s → Stood i a (four (export n)) b (properties vs) s
      go true q k = (k.0, k.1 ∙ ap (usages_for i (four (export n))) (q refl), k.2)
      go false q k = k

  H-cast : (us vs : List How) (s : State) → us ≡ vs → H us s → H vs s
  H-cast us vs s q h = subst (λ (l : List How). H l s) q h

  pub held-nil : (us : List How) (s : State) → H us s → H (us ++ []) s
  held-nil us s h = H-cast us (us ++ []) s (sym (append-nil us)) h

  pub held-assoc : (us l m : List How) (s : State) → H ((us ++ l) ++ m) s → H (us ++ (l ++ m)) s
  held-assoc us l m s h = H-cast ((us ++ l) ++ m) (us ++ (l ++ m)) s (append_assoc us l m) h

  pub held-neutral : (us l : List How) (s : State) → Neutral l → H us s → H (us ++ l) s
  unfolding all
  held-neutral us l s k h =
      held-like us (us ++ l) s (sym (plain-append us l ∙ rw k.0 (and-true (all_plain us)))) (λ _. sym (properties-append us l ∙ rw k.1 (append-nil (properties us)))) h

  held-back : (us l : List How) (s : State) → Neutral l → H (us ++ l) s → H us s
  unfolding all
  held-back us l s k h =
      held-like (us ++ l) us s (plain-append us l ∙ rw k.0 (and-true (all_plain us))) (λ _. properties-append us l ∙ rw k.1 (append-nil (properties us))) h

  -- w before l instead of behind it
  pub held-front : (us w l : List How) (s : State) → (properties w ≡ []) ⊎ (l ≡ []) → H ((us ++ l) ++ w) s → H (us ++ (w ++ l)) s
  held-front us w l s (inl q) h =
      held-like ((us ++ l) ++ w) (us ++ (w ++ l)) s
      (plain-append (us ++ l) w ∙ ap (λ (b : Bool). b && all_plain w) (plain-append us l) ∙ and_assoc (all_plain us) (all_plain l) (all_plain w)
      ∙ ap (λ (b : Bool). all_plain us && b) (and_comm (all_plain l) (all_plain w) ∙ sym (plain-append w l)) ∙ sym (plain-append us (w ++ l)))
      (λ _. properties-append (us ++ l) w ∙ rw (q, append-nil (properties (us ++ l)), properties-append us l, properties-append us (w ++ l), properties-append w l, q)) h
  held-front us w l s (inr q) h = rw q (rw append-nil (rw (q, append-nil us) at h))

  -- ---- Changes that the namespace does not feel

  pub unfelt-modules : (s : State) (ms : Modules) → ((n : ℕ) → number_of file s.modules ≡ Some n → number_of file ms ≡ Some n) → Unfelt i lit own file s (set_modules ms s)
  unfelt-modules s ms q = record { entry = refl; holders = λ j q. q; holder = refl; suited = refl; number = q; context = refl; usages = refl; forced = refl }

  unfelt-empty : (us : List How) (s : State) (l : List ℕ) → H us s → Unfelt i lit own file s (set_collected (collect_in (record { literal = l; specifiers = none }) s.collected) s)
  unfolding find_field
  unfelt-empty us s l h =
      record {
        entry = record-empty a l (own_record i lit) s.collected h.entry ∙ sym h.entry;
        holders = λ j q. sym (seek-collect (holds_in j) (record { literal = l; specifiers = none }) s.collected refl (λ gs. ap (holds_in j) (append-none gs))) ∙ q;
        holder = seek-collect (holds_in i) (record { literal = l; specifiers = none }) s.collected refl (λ gs. ap (holds_in i) (append-none gs));
        suited = seek-collect (suits_in own i) (record { literal = l; specifiers = none }) s.collected refl (λ gs. ap (suits_in own i) (append-none gs));
        number = λ n q. q;
        context = refl;
        usages = refl;
        forced = refl;
      }

  pub held-requires : (e : Setting) (us : List How) → RequireSteps e (H us)
  held-requires e us =
      record {
        on_request = λ s f m ms q h. held-unfelt us s (set_modules ms s) (unfelt-modules s ms (λ n w. request-keeps-numbers f s.modules q file n w)) h;
        on_cjs = λ s m h. held-unfelt us s (set_modules (set_mark Cjs m s.modules) s) (unfelt-modules s (set_mark Cjs m s.modules) (λ n w. mark-keeps-numbers Cjs m s.modules file ∙ w)) h;
        on_lazy =
            λ s r b h. held-unfelt us s (set_lazy (s.lazy ++ (r ∷ [])) s)
            (record
            { entry = refl; holders = λ j q. q; holder = refl; suited = refl; number = λ n q. q; context = refl; usages = refl; forced = refl }) h;
      }

  pub held-top : (us : List How) (s : State) (b : Bool) → H us s → H us (set_top b s)
  held-top us s b h = held-unfelt us s (set_top b s) (record { entry = refl; holders = λ j q. q; holder = refl; suited = refl; number = λ n q. q; context = refl; usages = refl; forced = refl }) h

  -- another id is forced
  pub unfelt-force : (s : State) (j : List ℕ) → same j i ≡ false → (seek (holds_in j) s.collected ≡ Some a → ⊥) → Unfelt i lit own file s (force_id j s)
  unfelt-force s j q h =
      let t = force-tables j s in
      record {
        entry = ap (record_of a) t.0;
        holders = λ k q. sym (ap (seek (holds_in k)) t.0) ∙ q;
        holder = ap (seek (holds_in i)) t.0;
        suited = ap (seek (suits_in own i)) t.0;
        number = λ n w. ap (number_of file) t.1 ∙ w;
        context = ap (imported_as i) t.2 ∙ other-imported i j s.imported q;
        usages = ap (usages_of i) t.3 ∙ other-usages i j s.usages q;
        forced = force-other j a s h;
      }

  pub held-force-other : (us : List How) (s : State) (j : List ℕ) → same j i ≡ false → H us s → H us (force_id j s)
  held-force-other us s j q h = held-unfelt us s (force_id j s) (unfelt-force s j q (λ w. not-same j i q (h.alone j w))) h

  -- a way that is used but not plain
  with-other : (us l : List How) (w : How) → is_use w ≡ true → is_plain w ≡ false → all_plain (us ++ (w ∷ l)) ≡ false
  unfolding filter all
  with-other us l w u q = plain-append us (w ∷ l) ∙ rw (u, q) (and-false (all_plain us))

  -- the id itself is forced
  pub held-force : (us : List How) (s : State) (w : How) → is_use w ≡ true → is_plain w ≡ false → H us s → H (us ++ (w ∷ [])) (force_id i s)
  held-force us s w u q h =
      let t = force-tables i s in
      record {
        entry = ap (record_of a) t.0 ∙ h.entry;
        holds = ap (seek (holds_in i)) t.0 ∙ h.holds;
        alone = λ j k. h.alone j (sym (ap (seek (holds_in j)) t.0) ∙ k);
        finds = ap (seek (suits_in own i)) t.0 ∙ h.finds;
        given = ap (number_of file) t.1 ∙ h.given;
        stood =
            rw (with-other us [] w u q)
            (ap (imported_as i) t.2 ∙ forgotten-imported i s.imported, ap (usages_of i) t.3 ∙ forgotten-usages i s.usages, force-own i a s h.holds);
      }

  -- force, where the id is i and where not
  pub held-forced : (us : List How) (j : List ℕ) (w : How) (s : State) → is_use w ≡ true → is_plain w ≡ false → H us s → H (us ++ met ((w, j) ∷ []) i) (force_id j s)
  unfolding met
  held-forced us j w s u q h = go (same j i) refl
    where
      go : (b : Bool) → same j i ≡ b → H (us ++ cond b (w ∷ []) []) (force_id j s)
      go true e = rw (same-equal j i e) (held-force us s w u q h)
      go false e = held-nil us (force_id j s) (held-force-other us s j e h)

  -- a usage of another id
  held-usage-other : (us : List How) (s : State) (u : Usage) → same u.id i ≡ false → H us s → H us (set_usages (s.usages ++ (u ∷ [])) s)
  held-usage-other us s u q h =
      held-unfelt us s (set_usages (s.usages ++ (u ∷ [])) s)
      (record { entry = refl; holders = λ j q. q; holder = refl; suited = refl; number = λ n q. q; context = refl; usages = usages-other i u s.usages q; forced = refl }) h

  plain-last : (us : List How) (p : List ℕ) → all_plain (us ++ (plain p ∷ [])) ≡ all_plain us
  unfolding filter all
  plain-last us p = plain-append us (plain p ∷ []) ∙ and-true (all_plain us)

  -- a plain property, all plain before it
  held-usage : (us : List How) (s : State) (p : List ℕ) → all_plain us ≡ true → H us s →
      H (us ++ (plain p ∷ [])) (set_usages (s.usages ++ (record { id = i; property = p ++ four (export n) } ∷ [])) s)
  unfolding properties
  held-usage us s p q h =
      let k : Stood i a (four (export n)) true (properties us) s = rw q at h.stood in
      record {
        entry = h.entry;
        holds = h.holds;
        alone = h.alone;
        finds = h.finds;
        given = h.given;
        stood =
            rw (plain-last us p, q, properties-append us (plain p ∷ [])) (
              k.0,
              usages-last i (record { id = i; property = p ++ four (export n) }) s.usages (same-refl i)
                  ∙ ap (λ (l : List Usage). l ++ (record { id = i; property = p ++ four (export n) } ∷ [])) k.1
                  ∙ sym (usages_for-last i (four (export n)) (properties us) p),
              k.2,
            );
      }

  -- what comes behind a use that is not plain changes nothing
  held-late : (us l : List How) (s : State) → all_plain us ≡ false → H us s → H (us ++ l) s
  held-late us l s q h = held-like us (us ++ l) s (q ∙ sym (plain-append us l ∙ ap (λ (b : Bool). b && all_plain l) q)) (λ w. absurd (true≢false (sym w ∙ q))) h

  module _ (e : Setting) (mine : e.own ≡ own) (res : file_of a e.table ≡ Some file) where
    -- ---- Usage

    request-own : (ms : Modules) → number_of file ms ≡ Some n → request file ms ≡ Some (n, ms)
    unfolding request
    request-own ms q = rw q

    -- the module of the namespace's source
    pub module-own : (us : List How) (p : ℕ) (s : State) → H us s → module_for e a p s ≡ done (Some n, s)
    unfolding module_for
    module-own us p s h = rw (res, request-own s.modules h.given)

    -- of another id
    property-other : (us : List How) (o : Option ℕ) (j : List ℕ) (q : Field) (at p : ℕ) (s : State) → same j i ≡ false → H us s → After (use_property o j q at p s) (λ r t. H us t)
    unfolding use_property
    property-other us None j q at p s d h = h
    property-other us (Some m) j q at p s d h =
        after-if (has 0x72 q) (refuse 7 at) _ s (λ r t. H us t) (λ _. tt)
        (λ _. add_usage-keeps (H us) (record { id = j; property = id_from (fixed_of q) (export m) }) p s
        (held-usage-other us s (record { id = j; property = id_from (fixed_of q) (export m) }) d h))

    from-other : (us : List How) (o : Option Record) (j : List ℕ) (q : Field) (at p : ℕ) (s : State) → same j i ≡ false → H us s → After (use_from o e j q at p s) (λ r t. H us t)
    unfolding use_from
    from-other us None j q at p s d h = h
    from-other us (Some r) j q at p s d h =
        after-bind (module_for e (value_of r.literal) p s) _ (λ r t. H us t) (λ r t. H us t)
        (module_for-keeps e (H us) (held-requires e us) (value_of r.literal) p s h) λ m s h. property-other us m j q at p s d h

    imported-other : (us : List How) (o : Option (List ℕ)) (j : List ℕ) (q : Field) (at p : ℕ) (s : State) → same j i ≡ false → H us s →
        After (use_imported o e j q at p s) (λ r t. H us t)
    unfolding use_imported
    imported-other us None j q at p s d h = h
    imported-other us (Some c) j q at p s d h =
        after-if (has 0x71 q) (change (force_id j)) _ s (λ r t. H us t) (λ _. held-force-other us s j d h) (λ _. from-other us (used_record e.own j s.collected) j q at p s d h)

    -- of the id: a plain property
    from-own : (us : List How) (o : Option Record) (q : Field) (at p : ℕ) (s : State) → mapped (λ (r : Record). value_of r.literal) o ≡ Some a → all_plain us ≡ true → H us s →
        After (use_from o e i q at p s) (λ r t. H (us ++ (plain (fixed_of q) ∷ [])) t)
    unfolding use_from use_property
    from-own us None q at p s w c h = absurd (let z : ◌≡◌ {A = ℕ} 0 1 = cc in omega arith)
    from-own us (Some r) q at p s w c h =
        let v : value_of r.literal ≡ a = cc in
        rw (v, module-own us p s h)
        (after-if (has 0x72 q) (refuse 7 at) _ s (λ r t. H (us ++ (plain (fixed_of q) ∷ [])) t) (λ _. tt)
        (λ _. add_usage-keeps (H (us ++ (plain (fixed_of q) ∷ []))) (record { id = i; property = id_from (fixed_of q) (export n) }) p s
        (held-usage us s (fixed_of q) c h)))

    -- a 72 is refused
    from-private : (us : List How) (o : Option Record) (q : Field) (at p : ℕ) (s : State) → mapped (λ (r : Record). value_of r.literal) o ≡ Some a → has 0x72 q ≡ true → H us s →
        After (use_from o e i q at p s) (λ r t. H (us ++ (otherwise ∷ [])) t)
    unfolding use_from use_property
    from-private us None q at p s w c h = absurd (let z : ◌≡◌ {A = ℕ} 0 1 = cc in omega arith)
    from-private us (Some r) q at p s w c h = let v : value_of r.literal ≡ a = cc in rw (v, module-own us p s h) (rw c tt)

    imported-own : (us : List How) (q : Field) (at p : ℕ) (s : State) → (tag_of q ≡ 0x70) ⊎ ((tag_of q ≡ 0x71) ⊎ (tag_of q ≡ 0x72)) → H us s →
        After (use_imported (imported_as i s.imported) e i q at p s) (λ r t. H (us ++ (by_member (more q none) ∷ [])) t)
    unfolding use_imported used_record
    imported-own us q at p s k h = go (all_plain us) refl
      where
        found : seek (suits_in e.own i) s.collected ≡ Some a
        found = ap (λ (o : ℕ). seek (suits_in o i) s.collected) mine ∙ h.finds

        by : (tag_of q ≡ 0x70) ⊎ ((tag_of q ≡ 0x71) ⊎ (tag_of q ≡ 0x72)) → all_plain us ≡ true →
            After
            (cond (has 0x71 q) (change (force_id i)) (λ s. use_from (find (λ r. suits_in e.own i r.specifiers) s.collected) e i q at p s) s)
            (λ r t. H (us ++ (by_member (more q none) ∷ [])) t)
        by (inl t) c = rw t (from-own us (find (λ r. suits_in e.own i r.specifiers) s.collected) q at p s found c h)
        by (inr (inl t)) c = rw t (held-force us s computed refl refl h)
        by (inr (inr t)) c = rw t (from-private us (find (λ r. suits_in e.own i r.specifiers) s.collected) q at p s found (rw t) h)

        go : (b : Bool) → all_plain us ≡ b → After (use_imported (imported_as i s.imported) e i q at p s) (λ r t. H (us ++ (by_member (more q none) ∷ [])) t)
        go true c = let w : Stood i a (four (export n)) true (properties us) s = rw c at h.stood in rw w.0 (by k c)
        go false c = let w : Stood i a (four (export n)) false (properties us) s = rw c at h.stood in rw w.0 (held-late us (by_member (more q none) ∷ []) s c h)

    -- the object of a 63, walked
    usage-held : (us : List How) (x : List ℕ) (o q : Field) (p : ℕ) (s : State) → (tag_of q ≡ 0x70) ⊎ ((tag_of q ≡ 0x71) ⊎ (tag_of q ≡ 0x72)) → H us s →
        After (usage (on_ident (field 0x63 x (more o (more q none)))) e p s) (λ r t. H (us ++ met (object_ids true (more o (more q none))) i) t)
    unfolding usage on_ident object_ids met
    usage-held us x o q p s k h = go (has 0x60 o)
      where
        one : (b : Bool) → same (fixed_of o) i ≡ b →
            After (use_imported (imported_as (fixed_of o) s.imported) e (fixed_of o) q (p + 3 + size o) p s)
            (λ r t. H (us ++ cond b (by_member (more q none) ∷ []) []) t)
        one true w = rw (same-equal (fixed_of o) i w) (imported-own us q (p + 3 + size o) p s k h)
        one false w =
            after-weaken (use_imported (imported_as (fixed_of o) s.imported) e (fixed_of o) q (p + 3 + size o) p s) (λ r t. H us t) (λ r t. H (us ++ []) t) (λ r t v. held-nil us t v)
            (imported-other us (imported_as (fixed_of o) s.imported) (fixed_of o) q (p + 3 + size o) p s w h)

        go : (b : Bool) → After (usage (cond b (Some (o, q)) None) e p s) (λ r t. H (us ++ met (cond b ((by_member (more q none), fixed_of o) ∷ []) []) i) t)
        go true = one (same (fixed_of o) i) refl
        go false = held-nil us s h

    -- ---- The rule of a field, once its parts are walked

    then-require : (us : List How) (f : Field) (p : ℕ) (m : Outcome (Unit {0} × State)) → After m (λ r t. H us t) → After (onto m (λ r. require (required e f) e f p r.1)) (λ g t. H us t)
    then-require us f p m h =
        after-bind m _ (λ r t. H us t) (λ g t. H us t) h λ r s h. require-keeps e (H us) (held-requires e us)
        (λ s l b h. held-unfelt us s (set_collected (collect_in (record { literal = l; specifiers = none }) s.collected) s) (unfelt-empty us s l h)
        h) f p s h

    -- a 60 where *object* is clear
    bare-held : (us : List How) (t : ℕ) (x : List ℕ) (s : State) → t ≡ 0x60 → (t ≡ 0x60 → id_at x 0 ≡ x) → H us s → H (us ++ met (ids_in t x false) i) (force_id x s)
    unfolding ids_in
    bare-held us t x s q w h = rw (q, w q) (held-forced us x bare s refl refl h)

    -- an expression that is no 63
    expression-held : (us : List How) (t : ℕ) (x : List ℕ) (ds : Fields) (object : Bool) (p : ℕ) (s : State) → eqb t 0x63 ≡ false →
        eqb t 0x23 ≡ false → (t ≡ 0x60 → id_at x 0 ≡ x) → H us s →
        After (after_expression first e (field t x ds) object p s) (λ g t'. H (us ++ met (ids_in t x object) i) t')
    unfolding after_expression usage
    expression-held us t x ds object p s d k w h = go (eqb t 0x60) object refl
      where
        quietly : (b : Bool) → (eqb t 0x60 ≡ true → b ≡ true) →
            After (onto (usage (on_ident (field t x ds)) e p s) (λ r. require (required e (field t x ds)) e (field t x ds) p r.1))
            (λ g t'. H (us ++ met (ids_in t x b) i) t')
        quietly b v =
            then-require (us ++ met (ids_in t x b) i) (field t x ds) p (usage (on_ident (field t x ds)) e p s)
            (rw (no-member t x ds (eqb-false t 0x63 d))
            (held-neutral us (met (ids_in t x b) i) s (unused-neutral (ids_in t x b) i (ids-unused t x b k v)) h))

        go : (c b : Bool) → eqb t 0x60 ≡ c →
            After
            (cond {A = Act Field} (c && not b) (λ s. done (field t x ds, force_id x s))
            (λ s. onto (usage (on_ident (field t x ds)) e p s) (λ r. require (required e (field t x ds)) e (field t x ds) p r.1)) s)
            (λ g t'. H (us ++ met (ids_in t x b) i) t')
        go true false q = bare-held us t x s (eqb-true t 0x60 q) w h
        go true true q = quietly true (λ _. refl)
        go false b q = quietly b (λ v. absurd (true≢false (sym v ∙ q)))

    -- a 63
    member-held : (us : List How) (x : List ℕ) (ds : Fields) (object : Bool) (p : ℕ) (s : State) → Two ds → H us s →
        After (after_expression first e (field 0x63 x ds) object p s) (λ g t. H (us ++ met (object_ids true ds) i) t)
    unfolding after_expression
    member-held us x ds object p s k h =
        rw k.2
        (then-require (us ++ met (object_ids true (more k.0 (more k.1 none))) i) (field 0x63 x (more k.0 (more k.1 none))) p
        (usage (on_ident (field 0x63 x (more k.0 (more k.1 none)))) e p s) (usage-held us x k.0 k.1 p s k.3 h))

    export-held : (us : List How) (x : List ℕ) (object : Bool) (p : ℕ) (s : State) → ((get_or x 0 0 ≡ 1) × (7 ≤ length x)) ⊎ (get_or x 0 0 ≡ 2) → H us s →
        After (export_specifier e x p s) (λ g t. H (us ++ met (ids_in 0x23 x object) i) t)
    unfolding export_specifier ids_in
    export-held us x object p s (inl k) h =
        after-if (eqb (get_or x 0 0) 2 || eqb (get_or x 7 0) 2) (refuse 6 p) _ s (λ g t. H (us ++ met (ids_in 0x23 x object) i) t) (λ _. tt)
        (λ _. rw k.0 (held-forced us (id_at x 1) original s refl refl h))
    export-held us x object p s (inr k) h = rw k tt

    module _ (one : e.pass ≡ first) (named : same (name_of i) (two require_atom) ≡ false) where
      first-held : (k : Pass) → k ≡ first → (us : List How) (t : ℕ) (x : List ℕ) (ds : Fields) (object : Bool) (p : ℕ) (s : State) →
          eqb t 0x63 ≡ false → eqb t 0x23 ≡ false → (t ≡ 0x60 → id_at x 0 ≡ x) → H us s →
          After (after_expression k e (field t x ds) object p s) (λ g t'. H (us ++ met (ids_in t x object) i) t')
      first-held first q us t x ds object p s d k w h = expression-held us t x ds object p s d k w h
      first-held second q us t x ds object p s d k w h = absurd (let z : ◌≡◌ {A = ℕ} 0 1 = cc in omega arith)

      first-member : (k : Pass) → k ≡ first → (us : List How) (x : List ℕ) (ds : Fields) (object : Bool) (p : ℕ) (s : State) → Two ds → H us s →
          After (after_expression k e (field 0x63 x ds) object p s) (λ g t. H (us ++ met (object_ids true ds) i) t)
      first-member first q us x ds object p s w h = member-held us x ds object p s w h
      first-member second q us x ds object p s w h = absurd (let z : ◌≡◌ {A = ℕ} 0 1 = cc in omega arith)

      neutral-held : (us : List How) (t : ℕ) (x : List ℕ) (object : Bool) (s : State) → eqb t 0x23 ≡ false → eqb t 0x60 ≡ false → H us s → H (us ++ met (ids_in t x object) i) s
      neutral-held us t x object s k d h = held-neutral us (met (ids_in t x object) i) s (unused-neutral (ids_in t x object) i (ids-unused t x object k (λ v. absurd (true≢false (sym v ∙ d))))) h

      rule-held : (r : Rule) (us : List How) (t : ℕ) (x : List ℕ) (cs ds : Fields) (object : Bool) (p : ℕ) (s : State) → rule_for t ≡ r →
          (t ≡ 0x63 → ⊥) → RegularAt t x cs → H us s →
          After (after r e t x ds object p s) (λ g t'. H (us ++ met (ids_in t x object) i) t')
      unfolding after rule_for within
      rule-held import us t x cs ds object p s q d w h = absurd (w.no_import (rule-import t q))
      rule-held exporting us t x cs ds object p s q d w h = go t (rule-export t q) (w.export_kind (rule-export t q))
        where
          go : (t : ℕ) → t ≡ 0x23 → ((get_or x 0 0 ≡ 1) × (7 ≤ length x)) ⊎ (get_or x 0 0 ≡ 2) → After (export_specifier e x p s) (λ g t'. H (us ++ met (ids_in t x object) i) t')
          go t v k = rw v (export-held us x object p s k h)
      rule-held declare us t x cs ds object p s q d w h =
          after-bind (declarator e ds p s) _ (λ gs t'. H us t') (λ g t'. H (us ++ met (ids_in t x object) i) t') (declarator-keeps e (H us) (held-requires e us) ds p s h) λ gs s h.
          neutral-held us t x object s (ne_eqb t 0x23 (other-rule t 0x23 declare exporting q refl (λ z. omega arith))) (ne_eqb t 0x60 (other-rule t 0x60 declare express q refl (λ z. omega arith))) h
      rule-held express us t x cs ds object p s q d w h =
          first-held e.pass one us t x ds object p s (ne_eqb t 0x63 d) (ne_eqb t 0x23 (other-rule t 0x23 express exporting q refl (λ z. omega arith))) w.ident_whole h
      rule-held nil us t x cs ds object p s q d w h =
          neutral-held us t x object s (ne_eqb t 0x23 (other-rule t 0x23 nil exporting q refl (λ z. omega arith))) (ne_eqb t 0x60 (other-rule t 0x60 nil express q refl (λ z. omega arith))) h

      -- what the parts leave to the rule
      abbrev inner : Parts → Fields → Bool → List How
      inner v cs object =
          elim v as (λ _. List How) [
            | unwalked ↦ []
            | member ↦ ways_member cs i
            | super ↦ ways_all cs i false
            | assignment ↦ ways_assignment cs i object
            | children ↦ ways_all cs i object
          ]

      abbrev PartsHeld : (ℕ → State → Outcome (Fields × State)) → List How → Type 0
      PartsHeld m l = (us : List How) (p : ℕ) (s : State) → H us s → After (m p s) (λ ds t. H (us ++ l) t)

      parts-held : (v : Parts) (us : List How) (cs : Fields) (object : Bool) (p : ℕ) (s : State) →
          ((b : Bool) → PartsHeld (walk_all cs e b) (ways_all cs i b)) → PartsHeld (walk_member cs e) (ways_member cs i) →
          (v ≡ assignment → PartsHeld (walk_assignment cs e object) (ways_assignment cs i object)) → H us s → After (walk_parts v cs e object p s) (λ ds t. H (us ++ inner v cs object) t)
      parts-held unwalked us cs object p s all mem asg h = held-nil us s h
      parts-held member us cs object p s all mem asg h = mem us p s h
      parts-held super us cs object p s all mem asg h = all false us p s h
      parts-held assignment us cs object p s all mem asg h = asg refl us p s h
      parts-held children us cs object p s all mem asg h = all object us p s h

      -- the rule behind the parts: w is what it adds
      behind-parts : (us w l : List How) (m : Outcome (Field × State)) → (properties w ≡ []) ⊎ (l ≡ []) → After m (λ g t. H ((us ++ l) ++ w) t) → After m (λ g t. H (us ++ (w ++ l)) t)
      behind-parts us w l m q h = after-weaken m (λ g t. H ((us ++ l) ++ w) t) (λ g t. H (us ++ (w ++ l)) t) (λ g t k. held-front us w l t q k) h

      -- a 63 with a plain property has no other ways
      name-ways : (q : Field) → tag_of q ≡ 0x70 → Regular q → ways q i false ≡ []
      unfolding ways ids_in parts_for met
      name-ways (field t y ds) k w = rw (k, w.0.name_bare k)

      pair-aside : (o q : Field) → (tag_of q ≡ 0x70) ⊎ ((tag_of q ≡ 0x71) ⊎ (tag_of q ≡ 0x72)) → Regular q →
          (properties (met (object_ids true (more o (more q none))) i) ≡ []) ⊎ (ways_member (more o (more q none)) i ≡ [])
      unfolding object_ids met properties ways
      pair-aside o q (inl k) w = go (has 0x60 o)
        where
          go : (b : Bool) → (properties (met (cond b ((by_member (more q none), fixed_of o) ∷ []) []) i) ≡ []) ⊎ (ways_object b o i ++ (ways q i false ++ []) ≡ [])
          go true = inr (rw (name-ways q k w))
          go false = inl refl
      pair-aside o q (inr k) w = inl (go (has 0x60 o) (same (fixed_of o) i) refl k)
        where
          by : (tag_of q ≡ 0x71) ⊎ (tag_of q ≡ 0x72) → is_plain (by_member (more q none)) ≡ false
          by (inl k) = rw k
          by (inr k) = rw k

          go : (b c : Bool) → same (fixed_of o) i ≡ c → (tag_of q ≡ 0x71) ⊎ (tag_of q ≡ 0x72) → properties (met (cond b ((by_member (more q none), fixed_of o) ∷ []) []) i) ≡ []
          go true true d k = rw d (properties-skip (by_member (more q none)) [] (by k))
          go true false d k = rw d
          go false c d k = refl

      member-aside : (cs : Fields) → Two cs → RegularAll cs → (properties (met (object_ids true cs) i) ≡ []) ⊎ (ways_member cs i ≡ [])
      member-aside cs k w = rw k.2 (pair-aside k.0 k.1 k.3 (subst RegularAll k.2 w).1.0)

      -- 63, its parts walked
      member-whole : (us : List How) (t : ℕ) (x : List ℕ) (cs ds : Fields) (object : Bool) (p : ℕ) (s : State) → t ≡ 0x63 → Two cs → RegularAll cs →
          AlikeAll cs ds → H (us ++ ways_member cs i) s →
          After (after (rule_for t) e t x ds object p s) (λ g t'. H (us ++ (met (ids_in t x object) i ++ (met (object_ids true cs) i ++ ways_member cs i))) t')
      unfolding after rule_for within ids_in met
      member-whole us t x cs ds object p s q k w h y =
          rw q
          (behind-parts us (met (object_ids true cs) i) (ways_member cs i) (after_expression e.pass e (field 0x63 x ds) object p s) (member-aside cs k w)
          (rw (← (object-alike i named true cs ds h)) (first-member e.pass one (us ++ ways_member cs i) x ds object p s (alike-two cs ds h k) y)))

      -- 23
      export-whole : (us : List How) (t : ℕ) (x : List ℕ) (cs ds : Fields) (object : Bool) (p : ℕ) (s : State) → (t ≡ 0x63 → ⊥) → cs ≡ none →
          RegularAt t x cs → H (us ++ []) s →
          After (after (rule_for t) e t x ds object p s) (λ g t'. H (us ++ (met (ids_in t x object) i ++ ways_all cs i object)) t')
      unfolding ways
      export-whole us t x cs ds object p s d q w y =
          rw q (behind-parts us (met (ids_in t x object) i) [] (after (rule_for t) e t x ds object p s) (inr refl) (rule-held (rule_for t) (us ++ []) t x cs ds object p s refl d w y))

      -- the whole field, its parts walked
      field-held : (v : Parts) (us : List How) (t : ℕ) (x : List ℕ) (cs ds : Fields) (object : Bool) (p : ℕ) (s : State) → parts_for t ≡ v →
          RegularAt t x cs → RegularAll cs → AlikeAll cs ds → H (us ++ inner v cs object) s →
          After (after (rule_for t) e t x ds object p s) (λ g t'. H (us ++ (met (ids_in t x object) i ++ ways_parts v cs i object)) t')
      unfolding parts_for
      field-held unwalked us t x cs ds object p s q w k h y = by (parts-unwalked t q)
        where
          by : (t ≡ 0x10) ⊎ (t ≡ 0x23) → After (after (rule_for t) e t x ds object p s) (λ g t'. H (us ++ (met (ids_in t x object) i ++ ways_all cs i object)) t')
          by (inl v) = absurd (w.no_import v)
          by (inr v) = export-whole us t x cs ds object p s (other-parts t 0x63 unwalked member q refl (λ z. omega arith)) (w.export_bare v) w y
      field-held member us t x cs ds object p s q w k h y = member-whole us t x cs ds object p s (parts-member t q) (w.member_two (parts-member t q)) k h y
      field-held super us t x cs ds object p s q w k h y =
          behind-parts us (met (ids_in t x object) i) (ways_all cs i false) (after (rule_for t) e t x ds object p s) (inl (ids-properties t x object i))
          (rule-held (rule_for t) (us ++ ways_all cs i false) t x cs ds object p s refl (other-parts t 0x63 super member q refl (λ z. omega arith)) w y)
      field-held assignment us t x cs ds object p s q w k h y =
          behind-parts us (met (ids_in t x object) i) (ways_assignment cs i object) (after (rule_for t) e t x ds object p s) (inl (ids-properties t x object i))
          (rule-held (rule_for t) (us ++ ways_assignment cs i object) t x cs ds object p s refl (other-parts t 0x63 assignment member q refl (λ z. omega arith)) w y)
      field-held children us t x cs ds object p s q w k h y =
          behind-parts us (met (ids_in t x object) i) (ways_all cs i object) (after (rule_for t) e t x ds object p s) (inl (ids-properties t x object i))
          (rule-held (rule_for t) (us ++ ways_all cs i object) t x cs ds object p s refl (other-parts t 0x63 children member q refl (λ z. omega arith)) w y)

      -- ---- The walk

      -- a 63's object that is a 60 adds nothing by itself
      object-held : (us : List How) (o : Field) (p : ℕ) (s : State) → Regular o → ((us : List How) → H us s → After (walk o e true p s) (λ g t. H (us ++ ways o i true) t)) → H us s →
          After (walk o e true p s) (λ g t. H (us ++ ways_object (has 0x60 o) o i) t)
      object-held us (field t x cs) p s w k h = go (eqb t 0x60) refl
        where
          go : (b : Bool) → eqb t 0x60 ≡ b → After (walk (field t x cs) e true p s) (λ g t'. H (us ++ ways_object b (field t x cs) i) t')
          go true q =
              after-weaken (walk (field t x cs) e true p s) (λ g t'. H (us ++ ways (field t x cs) i true) t') (λ g t'. H (us ++ []) t')
              (λ g t' v. held-nil us t' (held-back us (ways (field t x cs) i true) t' (ident-neutral i t x cs (eqb-true t 0x60 q) (w.0.ident_bare (eqb-true t 0x60 q))) v)) (k us h)
          go false q = k us h

      -- a target's own ids stand in no use
      target-neutral : (t : ℕ) (x : List ℕ) (cs : Fields) → (t ≡ 0x60 → ⊥) → (t ≡ 0x23 → ⊥) → Neutral (met (ids_in t x false ++ object_ids false cs) i)
      target-neutral t x cs d k =
          unused-neutral (ids_in t x false ++ object_ids false cs) i
          (unused-append (ids_in t x false) (object_ids false cs) (ids-unused t x false (ne_eqb t 0x23 k) (λ v. absurd (d (eqb-true t 0x60 v)))) (object-unused cs))

      mutual
        unfolding walk ways

        pub walk-held : (f : Field) (us : List How) (object : Bool) (p : ℕ) (s : State) → Regular f → H us s → After (walk f e object p s) (λ g t. H (us ++ ways f i object) t)
        walk-held (field t x cs) us object p s w h =
            after-bind (walk_parts (parts_for t) cs e object (inside p x) (enter t s)) _
            (λ ds t'. H (us ++ inner (parts_for t) cs object) t' × AlikeAll cs ds)
            (λ g t'. H (us ++ (met (ids_in t x object) i ++ ways_parts (parts_for t) cs i object)) t')
            (after-both (walk_parts (parts_for t) cs e object (inside p x) (enter t s)) (λ ds t'. H (us ++ inner (parts_for t) cs object) t') (λ ds t'. AlikeAll cs ds)
            (parts-held (parts_for t) us cs object (inside p x) (enter t s) (λ b us p s h. walk_all-held cs us b p s w.1 h)
            (λ us p s h. walk_member-held cs us p s w.1 h)
            (λ q us p s h. walk_assignment-held cs us object p s w.1 (w.0.target (parts-assignment t q)) h)
            (enter-keeps (H us) (held-top us) t s h))
            (parts-alike e one (parts_for t) cs object (inside p x) (enter t s) (λ b p s. walk_all-alike e one cs b p s w.1)
            (λ p s. walk_member-alike e one cs p s w.1) (λ p s. walk_assignment-alike e one cs object p s w.1))) λ ds s y.
            field-held (parts_for t) us t x cs ds object p s refl w.0 w.1 y.1 y.0

        pub walk_all-held : (fs : Fields) (us : List How) (object : Bool) (p : ℕ) (s : State) → RegularAll fs → H us s →
            After (walk_all fs e object p s) (λ gs t. H (us ++ ways_all fs i object) t)
        walk_all-held none us object p s w h = held-nil us s h
        walk_all-held (more f fs) us object p s w h =
            after-bind (walk f e object p s) _ (λ g t. H (us ++ ways f i object) t) (λ gs t. H (us ++ (ways f i object ++ ways_all fs i object)) t) (walk-held f us object p s w.0 h) λ g s h.
            after-bind (walk_all fs e object (p + size f) s) _ (λ gs t. H ((us ++ ways f i object) ++ ways_all fs i object) t) (λ gs t. H (us ++ (ways f i object ++ ways_all fs i object)) t)
            (walk_all-held fs (us ++ ways f i object) object (p + size f) s w.1 h) λ gs s h. held-assoc us (ways f i object) (ways_all fs i object) s h

        walk_member-held : (fs : Fields) (us : List How) (p : ℕ) (s : State) → RegularAll fs → H us s → After (walk_member fs e p s) (λ gs t. H (us ++ ways_member fs i) t)
        walk_member-held none us p s w h = held-nil us s h
        walk_member-held (more o ps) us p s w h =
            after-bind (walk o e true p s) _ (λ g t. H (us ++ ways_object (has 0x60 o) o i) t) (λ gs t. H (us ++ (ways_object (has 0x60 o) o i ++ ways_all ps i false)) t)
            (object-held us o p s w.0 (λ us h. walk-held o us true p s w.0 h) h) λ g s h.
            after-bind (walk_all ps e false (p + size o) s) _ (λ gs t. H ((us ++ ways_object (has 0x60 o) o i) ++ ways_all ps i false) t)
            (λ gs t. H (us ++ (ways_object (has 0x60 o) o i ++ ways_all ps i false)) t)
            (walk_all-held ps (us ++ ways_object (has 0x60 o) o i) false (p + size o) s w.1 h) λ gs s h. held-assoc us (ways_object (has 0x60 o) o i) (ways_all ps i false) s h

        walk_assignment-held : (fs : Fields) (us : List How) (object : Bool) (p : ℕ) (s : State) → RegularAll fs →
            ((f : Field) (gs : Fields) → fs ≡ more f gs → (tag_of f ≡ 0x60 → ⊥) × (tag_of f ≡ 0x23 → ⊥)) → H us s →
            After (walk_assignment fs e object p s) (λ gs t. H (us ++ ways_assignment fs i object) t)
        walk_assignment-held none us object p s w d h = held-nil us s h
        walk_assignment-held (more f fs) us object p s w d h =
            after-bind (walk_target f e p s) _ (λ g t. H (us ++ ways_target f i) t) (λ gs t. H (us ++ (ways_target f i ++ ways_all fs i object)) t)
            (walk_target-held f us p s w.0 (d f fs refl) h) λ g s h.
            after-bind (walk_all fs e object (p + size f) s) _ (λ gs t. H ((us ++ ways_target f i) ++ ways_all fs i object) t) (λ gs t. H (us ++ (ways_target f i ++ ways_all fs i object)) t)
            (walk_all-held fs (us ++ ways_target f i) object (p + size f) s w.1 h) λ gs s h. held-assoc us (ways_target f i) (ways_all fs i object) s h

        walk_target-held : (f : Field) (us : List How) (p : ℕ) (s : State) → Regular f → (tag_of f ≡ 0x60 → ⊥) × (tag_of f ≡ 0x23 → ⊥) → H us s →
            After (walk_target f e p s) (λ g t. H (us ++ ways_target f i) t)
        walk_target-held (field t x cs) us p s w d h =
            after-bind (walk_member cs e (inside p x) s) _ (λ ds t'. H ((us ++ met (ids_in t x false ++ object_ids false cs) i) ++ ways_member cs i) t')
            (λ g t'. H (us ++ (met (ids_in t x false ++ object_ids false cs) i ++ ways_member cs i)) t')
            (walk_member-held cs (us ++ met (ids_in t x false ++ object_ids false cs) i) (inside p x) s w.1
            (held-neutral us (met (ids_in t x false ++ object_ids false cs) i) s (target-neutral t x cs d.0 d.1) h)) λ ds s h.
            held-assoc us (met (ids_in t x false ++ object_ids false cs) i) (ways_member cs i) s h
