-- What the first pass makes of the items around a namespace's import: *work*, item by item: imports clean of the id, other items alike.
use Rattle.std.specs.Prelude.{Option, None, Some}
use Prim.Native.Nat.{ℕ, zero, suc, ◌+◌}
use mathlib.Core.Path.{◌≡◌, refl, sym, ap, ◌∙◌}
use mathlib.Core.Logic.{◌⊎◌, inl, inr}
use mathlib.Core.Bool.{true, false}
use mathlib.Core.List.{List}
use native.Mathlib.Omega.{arith}
use Rattle.scope.specs.Id.{require_atom, local, export}
use Rattle.scope.specs.Modules.{Modules}
use Rattle.tree.specs.Layout.{same, two, four, name_of, context_of, value_of}
use Rattle.tree.specs.Tree.{Field, field, Fields, none, more, tag_of, fixed_of, parts_of, size}
use Rattle.metadata.specs.Metadata.{append}
use Rattle.inputs.specs.Outcome.{done, onto}
use Rattle.inputs.specs.Lists.{find}
use Rattle.inputs.specs.Table.{file_of}
use Rattle.inputs.specs.Fields.{keep, inside}
use Rattle.extraction_rules.specs.State.{State, first, Setting, start, set_top}
use Rattle.extraction_rules.specs.First.{external, module_for, imported_as, collect, note_id, note_all, note_specifier, note_specifiers, specifiers_in, with_context, import_first, stays}
use Rattle.extraction_rules.specs.Walk.{walk, walk_all, walk_module}
use Rattle.extraction_rules.proofs.OutcomeLaws.{After, after-bind, after-weaken}
use Rattle.extraction_rules.proofs.ValueLaws.{after-any, walk-first}
use Rattle.extraction_rules.proofs.AlikeLaws.{Regular, Alike, walk-alike}
use Rattle.extraction_rules.proofs.SpaceLaws.{OfImport, Spaces, space-steps, import-space}
use Rattle.extraction_rules.proofs.ItemsLaws.{item-keeps}
use Rattle.extraction_rules.proofs.StayLaws.{import-stays}
use Rattle.extraction_rules.proofs.KeepLaws.{Each}
use Rattle.placement.proofs.PlacedLaws.{Amid}
use Rattle.placement.proofs.DroppedLaws.{place_kept}
use Rattle.theorems.proofs.ImportedLaws.{Redeclared}
use Rattle.theorems.proofs.FirstPassLaws.{OwnImport}
use Rattle.theorems.proofs.PairedLaws.{PairedAll, Paired, paired-keep}
use Rattle.theorems.proofs.CleanLaws.{CleanSpec, Whole, Clean, first-clean}

-- ---- Dropped items

stays-alike : (f g : Field) → Alike f g → stays g ≡ stays f
unfolding stays
stays-alike (field t x none) (field k y none) h = rw h.0
stays-alike (field t x none) (field k y (more g gs)) h = absurd (let e = h.2 in let z : ◌≡◌ {A = ℕ} 0 1 = cc in omega arith)
stays-alike (field t x (more f fs)) (field k y none) h = absurd (let e = h.2.2 in let z : ◌≡◌ {A = ℕ} 0 1 = cc in omega arith)
stays-alike (field t x (more f fs)) (field k y (more g gs)) h = rw h.0

module _ (i lit : List ℕ) (own file : ℕ) (context : context_of i ≡ four (local own)) where
  -- what is known besides of another import
  abbrev pub CleanImport : Field → Type 0
  CleanImport f = Each (CleanSpec i own context) (specifiers_in (parts_of f)) × Each (Whole i own context) (specifiers_in (parts_of f))

  abbrev pub CleanItem : Field → Type 0
  CleanItem f = ((tag_of f ≡ 0x10) × CleanImport f) ⊎ Regular f

  abbrev pub CleanAround : ℕ → Fields → Type 0
  CleanAround k fs = Amid (OwnImport i lit own file) CleanItem k fs

  -- ---- *work*

  abbrev pub WorkedItem : Field → Field → Type 0
  WorkedItem f g = ((tag_of f ≡ 0x10) × Clean i own context (fixed_of f) g) ⊎ (Regular f × Alike f g)

  abbrev pub WorkedOwn : Field → Field → Type 0
  WorkedOwn f g = (tag_of f ≡ 0x10) × Redeclared i lit own file context (parts_of f) g

  abbrev pub Worked : ℕ → Fields → Fields → Type 0
  Worked k fs gs = Paired WorkedOwn WorkedItem k fs gs

  item-stays : (f g : Field) → WorkedItem f g → stays g ≡ stays f
  item-stays f g (inl h) = import-stays g h.1.0 ∙ sym (import-stays f h.0)
  item-stays f g (inr h) = stays-alike f g h.1

  own-stays : (f g : Field) → WorkedOwn f g → (stays f ≡ true) × (stays g ≡ true)
  own-stays f g h = (import-stays f h.0, import-stays g (ap tag_of h.1.1))

  module _ (e : Setting) (one : e.pass ≡ first) (mine : e.own ≡ own) (res : file_of (value_of lit) e.table ≡ Some file)
      (inner : external e lit ≡ false) (named : same (name_of i) (two require_atom) ≡ false) where
    clean-walk : (f : Field) (p : ℕ) (s : State) → tag_of f ≡ 0x10 → CleanImport f → After (walk f e false p s) (λ g t. Clean i own context (fixed_of f) g)
    clean-walk f p s q h = rw (walk-first e one f p s q) (first-clean i own context e (fixed_of f) (parts_of f) p s h.0 h.1)

    item-worked : (f : Field) (p : ℕ) (s : State) → CleanItem f → After (walk f e false p s) (λ g t. WorkedItem f g)
    item-worked f p s (inl h) =
        after-weaken (walk f e false p s) (λ g t. Clean i own context (fixed_of f) g) (λ g t. WorkedItem f g) (λ g t c. inl (h.0, c)) (clean-walk f p s h.0 h.1)
    item-worked f p s (inr h) = after-weaken (walk f e false p s) (λ g t. Alike f g) (λ g t. WorkedItem f g) (λ g t a. inr (h, a)) (walk-alike e one f false p s h)

    behind-worked : (fs : Fields) (p : ℕ) (s : State) → Each CleanItem fs → After (walk_all fs e false p s) (λ gs t. PairedAll WorkedItem fs gs)
    unfolding walk
    behind-worked none p s h = refl
    behind-worked (more f fs) p s h =
        after-bind (walk f e false p s) _ (λ g t. WorkedItem f g) (λ gs t. PairedAll WorkedItem (more f fs) gs) (item-worked f p s h.0) λ g s c.
        after-bind (walk_all fs e false (p + size f) s) _ (λ gs t. PairedAll WorkedItem fs gs) (λ gs t. PairedAll WorkedItem (more f fs) gs)
        (behind-worked fs (p + size f) s h.1) λ gs s k. (g, gs, refl, c, k)

    -- the namespace's own import
    note-own : (m : Option ℕ) (p : ℕ) (s : State) → After (note_specifiers m (more (field 0x22 i none) none) p s) (λ gs t. gs ≡ more (field 0x22 i none) none)
    unfolding note_all note_specifier
    note-own None p s = refl
    note-own (Some n) p s =
        after-bind (onto (note_id (record { id = i; context = four (export n) }) p s) (λ r. done (field 0x22 i none, r.1))) _
        (λ g t. g ≡ field 0x22 i none) (λ gs t. gs ≡ more (field 0x22 i none) none)
        (after-bind (note_id (record { id = i; context = four (export n) }) p s) _ (λ u t. Unit {0}) (λ g t. g ≡ field 0x22 i none)
        (after-any (note_id (record { id = i; context = four (export n) }) p s)) λ u t _. refl) λ g t q.
        ap (λ (k : Field). more k none) q

    own-import : (ds : Fields) (p : ℕ) (s : State) → specifiers_in ds ≡ more (field 0x22 i none) none → After (import_first e lit ds p s) (λ g t. Redeclared i lit own file context ds g)
    unfolding import_first
    own-import ds p s q =
        rw (inner, q)
        (after-bind (module_for e (value_of lit) p s) _ (λ m t. Unit {0}) (λ g t. Redeclared i lit own file context ds g) (after-any (module_for e (value_of lit) p s)) λ m t _.
        after-bind (note_specifiers m (more (field 0x22 i none) none) (inside p lit) t) _ (λ gs u. gs ≡ more (field 0x22 i none) none)
        (λ g t. Redeclared i lit own file context ds g) (note-own m (inside p lit) t) λ gs u v.
        after-bind (collect (record { literal = lit; specifiers = gs }) p u) _ (λ _ x. Unit {0}) (λ g t. Redeclared i lit own file context ds g)
        (after-any (collect (record { literal = lit; specifiers = gs }) p u)) λ _ x _.
        (m, ap (λ (f : Fields). field 0x10 lit (append f (with_context m ds))) v))

    own-walk : (f : Field) (p : ℕ) (s : State) → OwnImport i lit own file f → After (walk f e false p s) (λ g t. Redeclared i lit own file context (parts_of f) g)
    own-walk f p s w = rw (walk-first e one f p s w.tag, w.literal) (own-import (parts_of f) p s w.sole)

    around-worked : (k : ℕ) (fs : Fields) (p : ℕ) (s : State) → CleanAround k fs → After (walk_all fs e false p s) (λ gs t. Worked k fs gs)
    unfolding walk
    around-worked k none p s h = absurd h
    around-worked zero (more f fs) p s h =
        after-bind (walk f e false p s) _ (λ g t. Redeclared i lit own file context (parts_of f) g) (λ gs t. Worked zero (more f fs) gs) (own-walk f p s h.0) λ g s c.
        after-bind (walk_all fs e false (p + size f) s) _ (λ gs t. PairedAll WorkedItem fs gs) (λ gs t. Worked zero (more f fs) gs) (behind-worked fs (p + size f) s h.1) λ gs s k.
        (g, gs, refl, (h.0.tag, c), k)
    around-worked (suc k) (more f fs) p s h =
        after-bind (walk f e false p s) _ (λ g t. WorkedItem f g) (λ gs t. Worked (suc k) (more f fs) gs) (item-worked f p s h.0) λ g s c.
        after-bind (walk_all fs e false (p + size f) s) _ (λ gs t. Worked k fs gs) (λ gs t. Worked (suc k) (more f fs) gs) (around-worked k fs (p + size f) s h.1) λ gs s r.
        (g, gs, refl, c, r)

    -- the first pass, as a tree: of the items that stay
    pub first-worked : (k : ℕ) (items : Fields) (s : State) → CleanAround k items → After (walk_module e items s) (λ works t. Worked (place_kept k items) (keep stays items) works)
    unfolding walk_module
    first-worked k items s h =
        after-bind (walk_all items e false 3 (set_top true s)) _ (λ gs t. Worked k items gs) (λ works t. Worked (place_kept k items) (keep stays items) works)
        (around-worked k items 3 (set_top true s) h) λ gs t r. paired-keep WorkedOwn WorkedItem own-stays item-stays k items gs r

  -- ---- Namespaces and their usages

  module _ (Space : List ℕ → Type 0) (locals : (j : List ℕ) → Space j → context_of j ≡ four (local own)) where
    -- imports whose namespaces are those, and other items, in any order
    abbrev pub ReadyItem : Field → Type 0
    ReadyItem f = ((tag_of f ≡ 0x10) × Each (OfImport Space own locals) (specifiers_in (parts_of f))) ⊎ Regular f

    abbrev pub Ready : Fields → Type 0
    Ready fs = Each ReadyItem fs

    module _ (e : Setting) (one : e.pass ≡ first) (mine : e.own ≡ own) (res : file_of (value_of lit) e.table ≡ Some file)
        (inner : external e lit ≡ false) (named : same (name_of i) (two require_atom) ≡ false) where
      item-spaces : (f : Field) (p : ℕ) (s : State) → ReadyItem f → Spaces Space own locals s → After (walk f e false p s) (λ g t. Spaces Space own locals t)
      item-spaces f p s (inl r) h = rw (walk-first e one f p s r.0) (import-space Space own locals e (fixed_of f) (parts_of f) p s r.1 h)
      item-spaces f p s (inr r) h = item-keeps e (Spaces Space own locals) (space-steps Space own locals e mine) one f false p s r h

      ready-spaces : (fs : Fields) (p : ℕ) (s : State) → Ready fs → Spaces Space own locals s → After (walk_all fs e false p s) (λ gs t. Spaces Space own locals t)
      unfolding walk
      ready-spaces none p s r h = h
      ready-spaces (more f fs) p s r h =
          after-bind (walk f e false p s) _ (λ g t. Spaces Space own locals t) (λ gs t. Spaces Space own locals t) (item-spaces f p s r.0 h) λ g s h.
          after-bind (walk_all fs e false (p + size f) s) _ (λ gs t. Spaces Space own locals t) (λ gs t. Spaces Space own locals t) (ready-spaces fs (p + size f) s r.1 h) λ gs s h. h

      pub first-spaces : (items : Fields) (ms : Modules) → Ready items → After (walk_module e items (start ms)) (λ gs t. Spaces Space own locals t)
      unfolding walk_module imported_as find
      first-spaces items ms r =
          after-bind (walk_all items e false 3 (set_top true (start ms))) _ (λ gs t. Spaces Space own locals t) (λ gs t. Spaces Space own locals t)
          (ready-spaces items 3 (set_top true (start ms)) r (record { records = tt; imports = λ j w. inl refl; usages = tt })) λ gs t h. h
