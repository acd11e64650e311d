-- In the first pass only namespaces have usages, each a property in an export context, and a namespace is imported as an export context.
use Rattle.std.specs.Prelude.{Option, None, Some}
use Prim.Native.Nat.{ℕ, ◌+◌}
use mathlib.Core.Path.{◌≡◌, refl, sym, ap, ap₂, subst, ◌∙◌}
use mathlib.Core.Logic.{◌⊎◌, inl, inr}
use mathlib.Core.Bool.{Bool, true, false, not, cond, ◌||◌, true≢false}
use mathlib.Core.List.{List, [], ◌∷◌, ◌++◌}
use native.Mathlib.Omega.{arith}
use lib.Dec.{leb, eqb}
use lib.ListN.{length, get_or, take, drop}
use Rattle.tree.proofs.Table.{both-true}
use Rattle.scope.specs.Id.{local, export}
use Rattle.tree.specs.Layout.{same, four, id_at, name_of, context_of, value_of}
use Rattle.tree.specs.Tree.{Field, field, Fields, none, more, fixed_of, size}
use Rattle.tree.proofs.LayoutLaws.{same-equal}
use Rattle.metadata.specs.Metadata.{append}
use Rattle.inputs.specs.Lists.{filter}
use Rattle.inputs.specs.Fields.{has, find_field, inside}
use Rattle.extraction_rules.specs.State.{Record, Imported, Usage, State, Setting, give, change, refuse, set_imported, set_collected}
use Rattle.extraction_rules.specs.First.{external, id_from, module_for, force_id, imported_as, suits, used_record, collect_in, collect, note_in}
use Rattle.extraction_rules.specs.First.{note_id, note_named, noted_context, note_specifier, note_all, note_specifiers, specifiers_in, import_first}
use Rattle.extraction_rules.specs.Second.{usages_of}
use Rattle.extraction_rules.proofs.OutcomeLaws.{After, after-bind, after-if}
use Rattle.extraction_rules.proofs.ListLaws.{All, all-last, all-filter, all-find, all-first}
use Rattle.extraction_rules.proofs.TableLaws.{find-meets}
use Rattle.extraction_rules.proofs.ItemsLaws.{ItemSteps}
use Rattle.extraction_rules.proofs.StepLaws.{RequireSteps, module_for-keeps}
use Rattle.extraction_rules.proofs.KeepLaws.{Each, each-weaken, each-append}
use Rattle.extraction_rules.proofs.SeekLaws.{forgotten-imported, other-imported, noted-own, noted-other, force-tables}

-- an id is its name and its context
pub same-id : (i j : List ℕ) → name_of i ≡ name_of j → context_of i ≡ context_of j → i ≡ j
same-id i j p q = sym (split i) ∙ ap₂ {C = List ℕ} (λ a b. a ++ b) p q ∙ split j
  where
    split : (i : List ℕ) → take 2 i ++ drop 2 i ≡ i
    split [] = refl
    split (a ∷ []) = refl
    split (a ∷ (b ∷ i)) = refl

-- a property as an id: two bytes in an export context
abbrev pub Property : List ℕ → Type 0
Property y = (p : List ℕ) × (n : ℕ) × (length p ≡ 2) × (y ≡ p ++ four (export n))

-- not imported, or as an export context
abbrev pub AsExport : List ℕ → State → Type 0
AsExport j s = (imported_as j s.imported ≡ None) ⊎ ((n : ℕ) × (imported_as j s.imported ≡ Some (four (export n))))

module _ (Space : List ℕ → Type 0) (own : ℕ) (locals : (j : List ℕ) → Space j → context_of j ≡ four (local own)) where
  -- a namespace among the specifiers is one of those
  abbrev pub OfSpace : Field → Type 0
  OfSpace f = has 0x22 f ≡ true → Space (fixed_of f)

  pub record Spaces (s : State) : Type 0 where
    pub records : All (λ r. Each OfSpace r.specifiers) s.collected
    pub imports : (j : List ℕ) → Space j → AsExport j s
    pub usages : All (λ u. Space u.id × Property u.property) s.usages

  first-space : (fs : Fields) (f : Field) → Each OfSpace fs → find_field (has 0x22) fs ≡ Some f → Space (fixed_of f)
  unfolding find_field
  first-space none f h e = absurd (let z : ◌≡◌ {A = ℕ} 0 1 = cc in omega arith)
  first-space (more g fs) f h e = go (has 0x22 g) refl e (first-space fs f h.1)
    where
      go : (b : Bool) → has 0x22 g ≡ b → cond b (Some g) (find_field (has 0x22) fs) ≡ Some f → (find_field (has 0x22) fs ≡ Some f → Space (fixed_of f)) → Space (fixed_of f)
      go true q e k = let w : g ≡ f = cc in subst (λ (y : Field). Space (fixed_of y)) w (h.0 q)
      go false q e k = k e

  -- what the search by name and context finds is the id itself
  suits-space : (i : List ℕ) (o : Option Field) → ((f : Field) → o ≡ Some f → Space (fixed_of f)) → suits own i o ≡ true → Space i
  suits-space i None k h = absurd (true≢false (sym h))
  suits-space i (Some f) k h =
      let a = both-true (same (name_of (fixed_of f)) (name_of i)) _ h in
      let c = locals (fixed_of f) (k f refl) in
      subst Space (same-id (fixed_of f) i (same-equal (name_of (fixed_of f)) (name_of i) a.0) (go (same (context_of i) (four (local own))) refl a.1)) (k f refl)
    where
      go : (b : Bool) → same (context_of i) (four (local own)) ≡ b → b || same (context_of i) (context_of (fixed_of f)) ≡ true → context_of (fixed_of f) ≡ context_of i
      go true q h = locals (fixed_of f) (k f refl) ∙ sym (same-equal (context_of i) (four (local own)) q)
      go false q h = sym (same-equal (context_of i) (context_of (fixed_of f)) h)

  used-space : (j : List ℕ) (l : List Record) (r : Record) → All (λ r. Each OfSpace r.specifiers) l → used_record own j l ≡ Some r → Space j
  unfolding used_record
  used-space j l r h e =
      suits-space j (find_field (has 0x22) r.specifiers)
      (λ f q. first-space r.specifiers f
      (all-find (λ r. Each OfSpace r.specifiers) (λ r. suits own j (find_field (has 0x22) r.specifiers)) l r h e) q)
      (find-meets (λ r. suits own j (find_field (has 0x22) r.specifiers)) l r e)

  collect-space : (r : Record) (l : List Record) → Each OfSpace r.specifiers → All (λ r. Each OfSpace r.specifiers) l → All (λ r. Each OfSpace r.specifiers) (collect_in r l)
  unfolding collect_in
  collect-space r [] k h = (k, tt)
  collect-space r (q ∷ l) k h = go (same (value_of q.literal) (value_of r.literal)) (collect-space r l k h.1)
    where
      go : (b : Bool) → All (λ r. Each OfSpace r.specifiers) (collect_in r l) →
          All (λ r. Each OfSpace r.specifiers)
          (cond b (record { literal = q.literal; specifiers = append q.specifiers r.specifiers } ∷ l) (q ∷ collect_in r l))
      go true w = (each-append OfSpace q.specifiers r.specifiers h.0 k, h.1)
      go false w = (h.0, w)

  space-force : (s : State) (i : List ℕ) → Spaces s → Spaces (force_id i s)
  space-force s i h =
      let t = force-tables i s in
      record {
        records = rw t.0 h.records;
        imports = λ j k. rw t.2 (go j (same i j) refl (h.imports j k));
        usages =
            rw t.3
            (all-filter (λ u. Space u.id × Property u.property) (λ u. Space u.id × Property u.property) (λ u. not (same u.id i))
            s.usages (λ u _ k. k) h.usages);
      }
    where
      go : (j : List ℕ) (b : Bool) → same i j ≡ b → AsExport j s →
          (imported_as j (filter (λ m. not (same m.id i)) s.imported) ≡ None) ⊎
          ((n : ℕ) × (imported_as j (filter (λ m. not (same m.id i)) s.imported) ≡ Some (four (export n))))
      go j true q w = inl (rw (same-equal i j q) (forgotten-imported j s.imported))
      go j false q (inl w) = inl (other-imported j i s.imported q ∙ w)
      go j false q (inr w) = inr (w.0, other-imported j i s.imported q ∙ w.1)

  pub space-requires : (e : Setting) → RequireSteps e Spaces
  space-requires e =
      record {
        on_request = λ s f m ms q h. record { records = h.records; imports = h.imports; usages = h.usages };
        on_cjs = λ s m h. record { records = h.records; imports = h.imports; usages = h.usages };
        on_lazy = λ s r b h. record { records = h.records; imports = h.imports; usages = h.usages };
      }

  pub space-steps : (e : Setting) → e.own ≡ own → ItemSteps e Spaces
  space-steps e mine =
      record {
        common = record { requires = space-requires e; on_force = λ s i h. space-force s i h; on_top = λ s b h. record { records = h.records; imports = h.imports; usages = h.usages } };
        on_empty = λ s l b h. record { records = collect-space (record { literal = l; specifiers = none }) s.collected tt h.records; imports = h.imports; usages = h.usages };
        on_usage = λ s j p n r w len h.
            record {
              records = h.records;
              imports = h.imports;
              usages =
                  all-last (λ u. Space u.id × Property u.property) s.usages (record { id = j; property = id_from p (export n) }) h.usages
                  (used-space j s.collected r h.records (subst (λ (o : ℕ). used_record o j s.collected ≡ Some r) mine w), (p, n, len, refl));
            };
      }

  -- ---- An import

  -- a default is none of those namespaces
  abbrev pub OfImport : Field → Type 0
  OfImport f = OfSpace f × (has 0x21 f ≡ true → Space (fixed_of f) → ⊥)

  -- an id is noted with an export context, or is none of those
  note-space : (m : Imported) (p : ℕ) (s : State) → (Space m.id → (n : ℕ) × (m.context ≡ four (export n))) → Spaces s → After (note_id m p s) (λ u t. Spaces t)
  unfolding note_id
  note-space m p s k h =
      after-if (leb (length (note_in m s.imported)) 512) (change (set_imported (note_in m s.imported))) (refuse 8 p) s (λ u t. Spaces t)
      (λ _. record { records = h.records; imports = λ j w. go j (same m.id j) refl w (h.imports j w); usages = h.usages }) (λ _. tt)
    where
      go : (j : List ℕ) (b : Bool) → same m.id j ≡ b → Space j → AsExport j s →
          (imported_as j (note_in m s.imported) ≡ None) ⊎ ((n : ℕ) × (imported_as j (note_in m s.imported) ≡ Some (four (export n))))
      go j true q w v =
          let e : m.id ≡ j = same-equal m.id j q in
          let c = k (subst Space (sym e) w) in
          inr (c.0, ap (λ (y : List ℕ). imported_as y (note_in m s.imported)) (sym e) ∙ noted-own m s.imported ∙ ap Some c.1)
      go j false q w (inl v) = inl (noted-other j m s.imported q ∙ v)
      go j false q w (inr v) = inr (v.0, noted-other j m s.imported q ∙ v.1)

  specifier-space : (n : ℕ) (f : Field) (p : ℕ) (s : State) → OfImport f → Spaces s → After (note_specifier n f p s) (λ g t. Spaces t × OfSpace g)
  unfolding note_specifier note_named
  specifier-space n f p s k h =
      after-if (has 0x20 f) (note_named n (fixed_of f) p) _ s (λ g t. Spaces t × OfSpace g)
      (λ _. after-if (eqb (get_or (fixed_of f) 6 0) 2) (refuse 6 p) _ s (λ g t. Spaces t × OfSpace g) (λ _. tt)
      (λ _. after-bind (note_id (record { id = id_at (fixed_of f) 0; context = four (export n) }) p s) _ (λ u t. Spaces t) (λ g t. Spaces t × OfSpace g)
      (note-space (record { id = id_at (fixed_of f) 0; context = four (export n) }) p s (λ _. (n, refl)) h) λ u t w.
      (w, λ q. absurd (true≢false (sym q)))))
      (λ _. after-bind (note_id (record { id = fixed_of f; context = noted_context n f }) p s) _ (λ u t. Spaces t) (λ g t. Spaces t × OfSpace g)
      (note-space (record { id = fixed_of f; context = noted_context n f }) p s (noted (has 0x21 f) k.1) h) λ u t w. (w, k.0))
    where
      noted : (b : Bool) → (b ≡ true → Space (fixed_of f) → ⊥) → Space (fixed_of f) → (m : ℕ) × (cond b (context_of (fixed_of f)) (four (export n)) ≡ four (export m))
      noted true d w = absurd (d refl w)
      noted false d w = (n, refl)

  notes-space : (n : ℕ) (fs : Fields) (p : ℕ) (s : State) → Each OfImport fs → Spaces s → After (note_all n fs p s) (λ gs t. Spaces t × Each OfSpace gs)
  unfolding note_all
  notes-space n none p s k h = (h, tt)
  notes-space n (more f fs) p s k h =
      after-bind (note_specifier n f p s) _ (λ g t. Spaces t × OfSpace g) (λ gs t. Spaces t × Each OfSpace gs) (specifier-space n f p s k.0 h) λ g t w.
      after-bind (note_all n fs (p + size f) t) _ (λ gs u. Spaces u × Each OfSpace gs) (λ gs t. Spaces t × Each OfSpace gs)
      (notes-space n fs (p + size f) t k.1 w.0) λ gs u v. (v.0, (w.1, v.1))

  specifiers-space : (o : Option ℕ) (fs : Fields) (p : ℕ) (s : State) → Each OfImport fs → Spaces s → After (note_specifiers o fs p s) (λ gs t. Spaces t × Each OfSpace gs)
  specifiers-space None fs p s k h = (h, each-weaken OfImport OfSpace fs (λ f k. k.0) k)
  specifiers-space (Some n) fs p s k h = notes-space n fs p s k h

  pub import-space : (e : Setting) (y : List ℕ) (ds : Fields) (p : ℕ) (s : State) → Each OfImport (specifiers_in ds) → Spaces s → After (import_first e y ds p s) (λ g t. Spaces t)
  unfolding import_first collect
  import-space e y ds p s k h =
      after-if (external e y) (give (field 0x10 y ds)) _ s (λ g t. Spaces t) (λ _. h)
      (λ _. after-bind (module_for e (value_of y) p s) _ (λ m t. Spaces t) (λ g t. Spaces t) (module_for-keeps e Spaces (space-requires e) (value_of y) p s h) λ m t h.
      after-bind (note_specifiers m (specifiers_in ds) (inside p y) t) _ (λ gs u. Spaces u × Each OfSpace gs) (λ g t. Spaces t) (specifiers-space m (specifiers_in ds) (inside p y) t k h) λ gs u v.
      let r : Record = record { literal = y; specifiers = gs } in
      after-bind (collect r p u) _ (λ _ x. Spaces x) (λ g t. Spaces t)
      (after-if (leb (length (collect_in r u.collected)) 256) (change (set_collected (collect_in r u.collected))) (refuse 8 p) u (λ _ x. Spaces x)
      (λ _. record { records = collect-space r u.collected v.1 v.0.records; imports = v.0.imports; usages = v.0.usages }) (λ _. tt)) λ _ x z. z)

  -- ---- What the second pass reads

  pub spaces-say : (s : State) → Spaces s → (j : List ℕ) → (usages_of j s.usages ≡ []) ⊎ ((context_of j ≡ four (local own)) × AsExport j s)
  unfolding usages_of
  spaces-say s h j = go (filter (λ (u : Usage). same u.id j) s.usages) refl
    where
      go : (l : List Usage) → filter (λ (u : Usage). same u.id j) s.usages ≡ l → (l ≡ []) ⊎ ((context_of j ≡ four (local own)) × AsExport j s)
      go [] q = inl refl
      go (u ∷ l) q =
          let k = all-first (λ u. Space u.id × Property u.property) (λ (u : Usage). same u.id j) s.usages u l h.usages q in
          let w : Space j = subst Space (same-equal u.id j k.1) k.0.0 in
          inr (locals j w, h.imports j w)
