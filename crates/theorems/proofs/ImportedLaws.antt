-- The first pass over the imports: how a namespace comes to be held, and that other imports do not touch it.
use Rattle.std.specs.Prelude.{Option, None, Some}
use Prim.Native.Nat.{ℕ, ◌+◌}
use mathlib.Core.Path.{◌≡◌, refl, sym, ap, ◌∙◌}
use mathlib.Core.Bool.{Bool, true, false, cond, ◌&&◌, true≢false}
use mathlib.Core.List.{List, []}
use lib.Dec.{leb, eqb}
use lib.ListN.{length, get_or}
use Rattle.scope.specs.Id.{local, export}
use Rattle.scope.specs.Modules.{Modules, number_of, request}
use Rattle.scope.proofs.Laws.{request-keeps-numbers, request-numbers}
use Rattle.tree.specs.Layout.{same, four, id_at, name_of, context_of, value_of}
use Rattle.tree.specs.Tree.{Field, field, Fields, none, more, fixed_of, size}
use Rattle.tree.proofs.LayoutLaws.{same-refl, same-equal}
use Rattle.metadata.specs.Metadata.{append}
use Rattle.inputs.specs.Outcome.{done, onto}
use Rattle.inputs.specs.Lists.{filter, is_some, among}
use Rattle.inputs.specs.Table.{file_of}
use Rattle.inputs.specs.Fields.{has, find_field, inside}
use Rattle.extraction_rules.specs.State.{Record, Imported, State, Setting, give, change, refuse, set_modules, set_imported, set_collected}
use Rattle.extraction_rules.specs.First.{external, requested, module_of, module_for, imported_as, suits, collect_in, collect, note_in, note_id, note_named}
use Rattle.extraction_rules.specs.First.{noted_context, note_specifier, note_all, note_specifiers, specifiers_in, with_context, import_first}
use Rattle.extraction_rules.specs.Second.{usages_of}
use Rattle.extraction_rules.proofs.OutcomeLaws.{After, after-bind, after-if}
use Rattle.extraction_rules.proofs.TableLaws.{record_of, record-other, record-absent, record-last, seek-back, suits-append, holds-left}
use Rattle.extraction_rules.proofs.KeepLaws.{Each}
use Rattle.extraction_rules.proofs.SeekLaws.{seek, holds_in, suits_in, seek-collect, seek-last, seek-own, collect-new, noted-own, noted-other, find-append}
use Rattle.placement.specs.Stands.{properties}
use Rattle.placement.specs.Placed.{all}
use Rattle.theorems.proofs.HeldLaws.{own_record, Held, Unfelt, unfelt-modules}

module _ (i lit : List ℕ) (own file : ℕ) where
  abbrev a : List ℕ
  a = value_of lit

  abbrev U : State → State → Type 0
  U s t = Unfelt i lit own file s t

  pub unfelt-refl : (s : State) → U s s
  unfelt-refl s = record { entry = refl; holders = λ j q. q; holder = refl; suited = refl; number = λ n q. q; context = refl; usages = refl; forced = refl }

  pub unfelt-trans : (s t u : State) → U s t → U t u → U s u
  unfelt-trans s t u h k =
      record {
        entry = k.entry ∙ h.entry;
        holders = λ j q. h.holders j (k.holders j q);
        holder = k.holder ∙ h.holder;
        suited = k.suited ∙ h.suited;
        number = λ n q. k.number n (h.number n q);
        context = k.context ∙ h.context;
        usages = k.usages ∙ h.usages;
        forced = k.forced ∙ h.forced;
      }

  -- ---- Specifiers of other imports

  -- a namespace of another id and another name
  abbrev pub OtherSpace : Field → Type 0
  OtherSpace f = has 0x22 f ≡ true → (same (fixed_of f) i ≡ false) × (same (name_of (fixed_of f)) (name_of i) ≡ false)

  -- another local id
  abbrev pub OtherLocal : Field → Type 0
  OtherLocal f = same (cond (has 0x20 f) (id_at (fixed_of f) 0) (fixed_of f)) i ≡ false

  space-holds : (fs : Fields) → Each OtherSpace fs → find_field (λ f. has 0x22 f && same (fixed_of f) i) fs ≡ None
  unfolding find_field
  space-holds none h = refl
  space-holds (more f fs) h = go (has 0x22 f) refl (space-holds fs h.1)
    where
      go : (b : Bool) → has 0x22 f ≡ b → find_field (λ f. has 0x22 f && same (fixed_of f) i) fs ≡ None →
          cond (b && same (fixed_of f) i) (Some f) (find_field (λ f. has 0x22 f && same (fixed_of f) i) fs) ≡ None
      go true q k = rw (h.0 q).0 k
      go false q k = k

  space-suits : (fs : Fields) → Each OtherSpace fs → suits_in own i fs ≡ false
  unfolding find_field
  space-suits none h = refl
  space-suits (more f fs) h = go (has 0x22 f) refl (space-suits fs h.1)
    where
      go : (b : Bool) → has 0x22 f ≡ b → suits_in own i fs ≡ false → suits own i (cond b (Some f) (find_field (has 0x22) fs)) ≡ false
      go true q k = rw (h.0 q).1
      go false q k = k

  -- ---- The steps of another import

  unfelt-collect : (r : Record) (s : State) → same (value_of r.literal) a ≡ false → Each OtherSpace r.specifiers → U s (set_collected (collect_in r s.collected) s)
  unfelt-collect r s d h =
      record {
        entry = record-other a r s.collected d;
        holders = λ j q. seek-back (holds_in j) a r s.collected d (λ gs. holds-left j gs r.specifiers) q;
        holder =
            seek-collect (holds_in i) r s.collected (ap is_some (space-holds r.specifiers h))
            (λ gs. ap is_some (find-append (λ f. has 0x22 f && same (fixed_of f) i) gs r.specifiers (space-holds r.specifiers h)));
        suited = seek-collect (suits_in own i) r s.collected (space-suits r.specifiers h) (λ gs. suits-append own i gs r.specifiers (space-suits r.specifiers h));
        number = λ n q. q;
        context = refl;
        usages = refl;
        forced = refl;
      }

  collect-other : (r : Record) (p : ℕ) (s : State) → same (value_of r.literal) a ≡ false → Each OtherSpace r.specifiers → After (collect r p s) (λ u t. U s t)
  unfolding collect
  collect-other r p s d h =
      after-if (leb (length (collect_in r s.collected)) 256) (change (set_collected (collect_in r s.collected))) (refuse 8 p) s (λ u t. U s t) (λ _. unfelt-collect r s d h) (λ _. tt)

  note-other : (m : Imported) (p : ℕ) (s : State) → same m.id i ≡ false → After (note_id m p s) (λ u t. U s t)
  unfolding note_id
  note-other m p s d =
      after-if (leb (length (note_in m s.imported)) 512) (change (set_imported (note_in m s.imported))) (refuse 8 p) s (λ u t. U s t)
      (λ _. record { entry = refl; holders = λ j q. q; holder = refl; suited = refl; number = λ n q. q; context = noted-other i m s.imported d; usages = refl; forced = refl }) (λ _. tt)

  specifier-other : (n : ℕ) (f : Field) (p : ℕ) (s : State) → OtherLocal f → OtherSpace f → After (note_specifier n f p s) (λ g t. U s t × OtherSpace g)
  unfolding note_specifier note_named
  specifier-other n f p s h k = go (has 0x20 f) h
    where
      go : (b : Bool) → same (cond b (id_at (fixed_of f) 0) (fixed_of f)) i ≡ false →
          After (cond b (note_named n (fixed_of f) p) (λ s. onto (note_id (record { id = fixed_of f; context = noted_context n f }) p s) (λ r. done (f, r.1))) s) (λ g t. U s t × OtherSpace g)
      go true h =
          after-if (eqb (get_or (fixed_of f) 6 0) 2) (refuse 6 p) _ s (λ g t. U s t × OtherSpace g) (λ _. tt)
          (λ _. after-bind (note_id (record { id = id_at (fixed_of f) 0; context = four (export n) }) p s) _ (λ u t. U s t) (λ g t. U s t × OtherSpace g)
          (note-other _ p s h) λ u t w. (w, λ q. absurd (true≢false (sym q))))
      go false h = after-bind (note_id (record { id = fixed_of f; context = noted_context n f }) p s) _ (λ u t. U s t) (λ g t. U s t × OtherSpace g) (note-other _ p s h) λ u t w. (w, k)

  notes-other : (n : ℕ) (fs : Fields) (p : ℕ) (s : State) → Each OtherLocal fs → Each OtherSpace fs → After (note_all n fs p s) (λ gs t. U s t × Each OtherSpace gs)
  unfolding note_all
  notes-other n none p s h k = (unfelt-refl s, tt)
  notes-other n (more f fs) p s h k =
      after-bind (note_specifier n f p s) _ (λ g t. U s t × OtherSpace g) (λ gs t. U s t × Each OtherSpace gs) (specifier-other n f p s h.0 k.0) λ g t w.
      after-bind (note_all n fs (p + size f) t) _ (λ gs u. U t u × Each OtherSpace gs) (λ gs t. U s t × Each OtherSpace gs) (notes-other n fs (p + size f) t h.1 k.1) λ gs u v.
      (unfelt-trans s t u w.0 v.0, (w.1, v.1))

  specifiers-other : (o : Option ℕ) (fs : Fields) (p : ℕ) (s : State) → Each OtherLocal fs → Each OtherSpace fs → After (note_specifiers o fs p s) (λ gs t. U s t × Each OtherSpace gs)
  specifiers-other None fs p s h k = (unfelt-refl s, k)
  specifiers-other (Some n) fs p s h k = notes-other n fs p s h k

  pub module-other : (e : Setting) (b : List ℕ) (p : ℕ) (s : State) → After (module_for e b p s) (λ m t. U s t)
  unfolding module_for
  module-other e b p s = go (file_of b e.table)
    where
      ask : (f : ℕ) (r : Option (ℕ × Modules)) → request f s.modules ≡ r → After (requested r p s) (λ m t. U s t)
      ask f None q = tt
      ask f (Some r) q = unfelt-modules i lit own file 0 s r.1 (λ n w. request-keeps-numbers f s.modules q file n w)

      go : (o : Option ℕ) → After (module_of o p s) (λ m t. U s t)
      go None = unfelt-refl s
      go (Some f) = ask f (request f s.modules) refl

  -- an import of another source, with other local ids and names
  pub import-other : (e : Setting) (y : List ℕ) (ds : Fields) (p : ℕ) (s : State) → same (value_of y) a ≡ false → Each OtherLocal (specifiers_in ds) →
      Each OtherSpace (specifiers_in ds) → After (import_first e y ds p s) (λ g t. U s t)
  unfolding import_first
  import-other e y ds p s d h k =
      after-if (external e y) (give (field 0x10 y ds)) _ s (λ g t. U s t) (λ _. unfelt-refl s)
      (λ _. after-bind (module_for e (value_of y) p s) _ (λ m t. U s t) (λ g t. U s t) (module-other e (value_of y) p s) λ m t w.
      after-bind (note_specifiers m (specifiers_in ds) (inside p y) t) _ (λ gs u. U t u × Each OtherSpace gs) (λ g t. U s t) (specifiers-other m (specifiers_in ds) (inside p y) t h k) λ gs u v.
      after-bind (collect (record { literal = y; specifiers = gs }) p u) _ (λ _ x. U u x) (λ g t. U s t) (collect-other (record { literal = y; specifiers = gs }) p u d v.1) λ _ x z.
      unfelt-trans s t x w (unfelt-trans t u x v.0 z))

  -- ---- Before the namespace's own import

  pub record Before (s : State) : Type 0 where
    pub no_record : record_of a s.collected ≡ None
    pub not_held : seek (holds_in i) s.collected ≡ None
    pub not_found : seek (suits_in own i) s.collected ≡ None
    pub no_usages : usages_of i s.usages ≡ []
    pub not_forced : among a s.forced ≡ false

  pub before-unfelt : (s t : State) → U s t → Before s → Before t
  before-unfelt s t u h =
      record {
        no_record = u.entry ∙ h.no_record;
        not_held = u.holder ∙ h.not_held;
        not_found = u.suited ∙ h.not_found;
        no_usages = u.usages
            ∙ h.no_usages;
        not_forced = u.forced ∙ h.not_forced;
      }

  -- ---- The namespace's own import: its record becomes the last

  module _ (context : context_of i ≡ four (local own)) where
    own-suits : suits_in own i (more (field 0x22 i none) none) ≡ true
    unfolding find_field
    own-suits = rw (same-refl (name_of i), context, same-refl (four (local own)))

    own-holds : holds_in i (more (field 0x22 i none) none) ≡ true
    unfolding find_field
    own-holds = rw (same-refl i)

    own-only : (j : List ℕ) → holds_in j (more (field 0x22 i none) none) ≡ true → j ≡ i
    unfolding find_field
    own-only j h = go (same i j) refl h
      where
        go : (b : Bool) → same i j ≡ b → is_some (cond b (Some (field 0x22 i none)) None) ≡ true → j ≡ i
        go true q h = sym (same-equal i j q)
        go false q h = absurd (true≢false (sym h))

    held-own : (n : ℕ) (s : State) → Before s → number_of file s.modules ≡ Some n → imported_as i s.imported ≡ Some (four (export n)) →
        Held i lit own file n [] (set_collected (collect_in (own_record i lit) s.collected) s)
    unfolding all filter properties
    held-own n s h g m =
        let new = record-absent a s.collected h.no_record in
        let last = collect-new (own_record i lit) s.collected new in
        record {
          entry = ap (record_of a) last ∙ record-last a (own_record i lit) s.collected h.no_record (same-refl a);
          holds = ap (seek (holds_in i)) last ∙ seek-last (holds_in i) (own_record i lit) s.collected h.not_held ∙ rw own-holds;
          alone = λ j q. own-only j (seek-own (holds_in j) (own_record i lit) s.collected new (sym (ap (seek (holds_in j)) last) ∙ q));
          finds = ap (seek (suits_in own i)) last ∙ seek-last (suits_in own i) (own_record i lit) s.collected h.not_found ∙ rw own-suits;
          given = g;
          stood = (m, h.no_usages, h.not_forced);
        }

    -- noted: its id with the export context of the source's module
    abbrev Noticed : ℕ → State → Type 0
    Noticed n s = Before s × (number_of file s.modules ≡ Some n) × (imported_as i s.imported ≡ Some (four (export n)))

    note-own : (n p : ℕ) (s : State) → Before s → number_of file s.modules ≡ Some n →
        After (note_all n (more (field 0x22 i none) none) p s) (λ gs t. (gs ≡ more (field 0x22 i none) none) × Noticed n t)
    unfolding note_all note_specifier note_id
    note-own n p s h g =
        let m : Imported = record { id = i; context = four (export n) } in
        after-bind (onto (note_id m p s) (λ r. done (field 0x22 i none, r.1))) _ (λ f t. (f ≡ field 0x22 i none) × Noticed n t) (λ gs t. (gs ≡ more (field 0x22 i none) none) × Noticed n t)
        (after-bind (note_id m p s) _ (λ u t. Noticed n t) (λ f t. (f ≡ field 0x22 i none) × Noticed n t)
        (after-if (leb (length (note_in m s.imported)) 512) (change (set_imported (note_in m s.imported))) (refuse 8 p) s (λ u t. Noticed n t)
        (λ _. (
          record
              { no_record = h.no_record; not_held = h.not_held; not_found = h.not_found; no_usages = h.no_usages; not_forced = h.not_forced },
          g,
          noted-own m s.imported,
        )) (λ _. tt)) λ u t w. (refl, w))
        λ f t w. (ap (λ (k : Field). more k none) w.0, w.1)

    collect-own : (n : ℕ) (gs : Fields) (p : ℕ) (s : State) → gs ≡ more (field 0x22 i none) none → Noticed n s →
        After (collect (record { literal = lit; specifiers = gs }) p s) (λ u t. Held i lit own file n [] t)
    unfolding collect
    collect-own n gs p s q w =
        rw q
        (after-if (leb (length (collect_in (own_record i lit) s.collected)) 256)
        (change (set_collected (collect_in (own_record i lit) s.collected))) (refuse 8 p) s (λ u t. Held i lit own file n [] t)
        (λ _. held-own n s w.0 w.1 w.2) (λ _. tt))

    -- what becomes of the declaration
    abbrev pub Redeclared : Fields → Field → Type 0
    Redeclared ds g = (m : Option ℕ) × (g ≡ field 0x10 lit (append (more (field 0x22 i none) none) (with_context m ds)))

    pub import-own : (e : Setting) (ds : Fields) (p : ℕ) (s : State) → file_of a e.table ≡ Some file → external e lit ≡ false →
        specifiers_in ds ≡ more (field 0x22 i none) none → Before s →
        After (import_first e lit ds p s) (λ g t. ((n : ℕ) × Held i lit own file n [] t) × Redeclared ds g)
    unfolding import_first module_for
    import-own e ds p s res d q h = rw (d, res, q) (ask (request file s.modules) refl)
      where
        ask : (r : Option (ℕ × Modules)) → request file s.modules ≡ r →
            After
            (onto (requested r p s)
            (λ o. onto (note_specifiers o.0 (more (field 0x22 i none) none) (inside p lit) o.1)
            (λ c. onto (collect (record { literal = lit; specifiers = c.0 }) p c.1)
            (λ u. done (field 0x10 lit (append c.0 (with_context o.0 ds)), u.1)))))
            (λ g t. ((n : ℕ) × Held i lit own file n [] t) × Redeclared ds g)
        ask None w = tt
        ask (Some r) w =
            let u : State = set_modules r.1 s in
            let k : Before u = record { no_record = h.no_record; not_held = h.not_held; not_found = h.not_found; no_usages = h.no_usages; not_forced = h.not_forced } in
            after-bind (note_all r.0 (more (field 0x22 i none) none) (inside p lit) u) _
            (λ gs t. (gs ≡ more (field 0x22 i none) none) × Noticed r.0 t) (λ g t. ((n : ℕ) × Held i lit own file n [] t) × Redeclared ds g)
            (note-own r.0 (inside p lit) u k (request-numbers file s.modules w)) λ gs s v.
            after-bind (collect (record { literal = lit; specifiers = gs }) p s) _ (λ u t. Held i lit own file r.0 [] t)
            (λ g t. ((n : ℕ) × Held i lit own file n [] t) × Redeclared ds g) (collect-own r.0 gs p s v.0 v.1) λ u s z.
            ((r.0, z), (Some r.0, ap (λ (f : Fields). field 0x10 lit (append f (with_context (Some r.0) ds))) v.0))
