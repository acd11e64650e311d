-- The whole first pass: at its end the state holds of a namespace what all its ways to stand tell. Behind the namespace's import other imports
-- and other items stand in any order. In front of it the pass would note no use, so that only imports may stand there (`Front`).
use Rattle.std.specs.Prelude.{Some}
use Prim.Native.Nat.{ℕ, zero, suc, ◌+◌}
use mathlib.Core.Path.{◌≡◌, refl, sym, subst, ◌∙◌}
use mathlib.Core.Logic.{◌⊎◌, inl, inr}
use mathlib.Core.Bool.{true, false}
use mathlib.Core.List.{List, [], ◌++◌, append-nil}
use Rattle.scope.specs.Id.{require_atom, local}
use Rattle.scope.specs.Modules.{Modules}
use Rattle.tree.specs.Layout.{same, two, four, name_of, context_of, value_of}
use Rattle.tree.specs.Tree.{Field, field, Fields, none, more, tag_of, fixed_of, parts_of, size}
use Rattle.inputs.specs.Lists.{find, filter, among}
use Rattle.inputs.specs.Table.{file_of}
use Rattle.extraction_rules.specs.State.{State, first, Setting, start, set_top}
use Rattle.extraction_rules.specs.First.{external, specifiers_in, import_first}
use Rattle.extraction_rules.specs.Second.{usages_of}
use Rattle.extraction_rules.specs.Walk.{walk, walk_all, walk_module}
use Rattle.extraction_rules.proofs.OutcomeLaws.{After, after-bind, after-weaken}
use Rattle.extraction_rules.proofs.AlikeLaws.{Regular}
use Rattle.extraction_rules.proofs.ValueLaws.{walk-first}
use Rattle.extraction_rules.proofs.KeepLaws.{Each}
use Rattle.placement.specs.Stands.{stands, How}
use Rattle.placement.specs.Placed.{all}
use Rattle.placement.proofs.WaysLaws.{stands-ways, ways, ways_all}
use Rattle.placement.proofs.HowLaws.{plain-append, properties-append, Neutral}
use Rattle.placement.proofs.QuietLaws.{QuietAll, import-ways, quiet_all-neutral}
use Rattle.placement.proofs.PlacedLaws.{Amid, Front}
use Rattle.theorems.proofs.HeldLaws.{Held, Unfelt, held-unfelt, held-like, held-neutral, held-assoc, walk-held}
use Rattle.theorems.proofs.ImportedLaws.{OtherSpace, OtherLocal, import-other, Before, before-unfelt, Redeclared, import-own}

-- ---- The items around a namespace's import

module _ (i lit : List ℕ) (own file : ℕ) where
  -- an import of another source, with other local ids and names
  pub record OtherImport (f : Field) : Type 0 where
    pub tag : tag_of f ≡ 0x10
    pub source : same (value_of (fixed_of f)) (value_of lit) ≡ false
    pub locals : Each (OtherLocal i lit own file) (specifiers_in (parts_of f))
    pub spaces : Each (OtherSpace i lit own file) (specifiers_in (parts_of f))
    pub quiet : QuietAll (parts_of f)

  pub record OwnImport (f : Field) : Type 0 where
    pub tag : tag_of f ≡ 0x10
    pub literal : fixed_of f ≡ lit
    pub sole : specifiers_in (parts_of f) ≡ more (field 0x22 i none) none
    pub quiet : QuietAll (parts_of f)

  -- beside it: another import, or an item that is none
  abbrev pub Beside : Field → Type 0
  Beside f = OtherImport f ⊎ Regular f

  -- it stands at the place k
  abbrev pub Around : ℕ → Fields → Type 0
  Around k fs = Amid OwnImport Beside k fs

  pub no_import : {A : Type 0} (f : Field) → Regular f → tag_of f ≡ 0x10 → A
  no_import (field t x cs) w q = absurd (w.0.no_import q)

  pub other-import : (f : Field) → Beside f → tag_of f ≡ 0x10 → OtherImport f
  other-import f (inl h) q = h
  other-import f (inr h) q = no_import f h q

  module _ (e : Setting) (one : e.pass ≡ first) (mine : e.own ≡ own) (res : file_of (value_of lit) e.table ≡ Some file) (inner : external e lit ≡ false)
      (named : same (name_of i) (two require_atom) ≡ false) (context : context_of i ≡ four (local own)) where
    pub other-unfelt : (f : Field) (p : ℕ) (s : State) → OtherImport f → After (walk f e false p s) (λ g t. Unfelt i lit own file s t)
    other-unfelt f p s h = rw (walk-first e one f p s h.tag) (import-other i lit own file e (fixed_of f) (parts_of f) p s h.source h.locals h.spaces)

    other-neutral : (f : Field) → OtherImport f → Neutral (ways f i false)
    other-neutral f h = rw (import-ways f i h.tag) (quiet_all-neutral (parts_of f) i false h.quiet)

    -- behind the import
    beside-held : (n : ℕ) (f : Field) (us : List How) (p : ℕ) (s : State) → Beside f → Held i lit own file n us s →
        After (walk f e false p s) (λ g t. Held i lit own file n (us ++ ways f i false) t)
    beside-held n f us p s (inl b) h =
        after-weaken (walk f e false p s) (λ g t. Unfelt i lit own file s t) (λ g t. Held i lit own file n (us ++ ways f i false) t)
        (λ g t u. held-neutral i lit own file n us (ways f i false) t (other-neutral f b) (held-unfelt i lit own file n us s t u h)) (other-unfelt f p s b)
    beside-held n f us p s (inr b) h = walk-held i lit own file n e mine res one named f us false p s b h

    behind-held : (n : ℕ) (fs : Fields) (us : List How) (p : ℕ) (s : State) → Each Beside fs → Held i lit own file n us s →
        After (walk_all fs e false p s) (λ gs t. Held i lit own file n (us ++ ways_all fs i false) t)
    unfolding walk ways
    behind-held n none us p s b h = subst (λ (l : List How). Held i lit own file n l s) (sym (append-nil us)) h
    behind-held n (more f fs) us p s b h =
        after-bind (walk f e false p s) _ (λ g t. Held i lit own file n (us ++ ways f i false) t) (λ gs t. Held i lit own file n (us ++ (ways f i false ++ ways_all fs i false)) t)
        (beside-held n f us p s b.0 h) λ g s h.
        after-bind (walk_all fs e false (p + size f) s) _ (λ gs t. Held i lit own file n ((us ++ ways f i false) ++ ways_all fs i false) t)
        (λ gs t. Held i lit own file n (us ++ (ways f i false ++ ways_all fs i false)) t)
        (behind-held n fs (us ++ ways f i false) (p + size f) s b.1 h) λ gs s h. held-assoc i lit own file n us (ways f i false) (ways_all fs i false) s h

    abbrev Known : List How → State → Type 0
    Known us s = (n : ℕ) × Held i lit own file n us s

    in-front : (l us : List How) (s : State) → Neutral l → Known us s → Known (l ++ us) s
    unfolding all
    in-front l us s k h =
        (h.0, held-like i lit own file h.0 us (l ++ us) s (sym (plain-append l us ∙ rw k.0)) (λ _. sym (properties-append l us ∙ rw k.1)) h.1)

    own-known : (f : Field) (p : ℕ) (s : State) → OwnImport f → Before i lit own file s → After (walk f e false p s) (λ g t. Known (ways f i false) t)
    own-known f p s w h =
        rw (walk-first e one f p s w.tag, w.literal)
        (after-weaken (import_first e lit (parts_of f) p s) (λ g t. ((n : ℕ) × Held i lit own file n [] t) × Redeclared i lit own file context (parts_of f) g) (λ g t. Known (ways f i false) t)
        (λ g t k. (k.0.0, held-neutral i lit own file k.0.0 [] (ways f i false) t (rw (import-ways f i w.tag) (quiet_all-neutral (parts_of f) i false w.quiet)) k.0.1))
        (import-own i lit own file context e (parts_of f) p s res inner w.sole h))

    -- from the first import on: a use in front of the import would not be noted, so that only imports stand there
    around-held : (k : ℕ) (fs : Fields) (p : ℕ) (s : State) → Around k fs → Front k fs → Before i lit own file s → After (walk_all fs e false p s) (λ gs t. Known (ways_all fs i false) t)
    unfolding walk ways
    around-held k none p s w r h = absurd w
    around-held zero (more f fs) p s w r h =
        after-bind (walk f e false p s) _ (λ g t. Known (ways f i false) t) (λ gs t. Known (ways f i false ++ ways_all fs i false) t) (own-known f p s w.0 h) λ g s h.
        after-bind (walk_all fs e false (p + size f) s) _ (λ gs t. Held i lit own file h.0 (ways f i false ++ ways_all fs i false) t) (λ gs t. Known (ways f i false ++ ways_all fs i false) t)
        (behind-held h.0 fs (ways f i false) (p + size f) s w.1 h.1) λ gs s k. (h.0, k)
    around-held (suc k) (more f fs) p s w r h =
        let o = other-import f w.0 r.0 in
        after-bind (walk f e false p s) _ (λ g t. Before i lit own file t) (λ gs t. Known (ways f i false ++ ways_all fs i false) t)
        (after-weaken (walk f e false p s) (λ g t. Unfelt i lit own file s t) (λ g t. Before i lit own file t) (λ g t u. before-unfelt i lit own file s t u h) (other-unfelt f p s o)) λ g s h.
        after-bind (walk_all fs e false (p + size f) s) _ (λ gs t. Known (ways_all fs i false) t)
        (λ gs t. Known (ways f i false ++ ways_all fs i false) t) (around-held k fs (p + size f) s w.1 r.1 h) λ gs s h.
        in-front (ways f i false) (ways_all fs i false) s (other-neutral f o) h

    -- the first pass from a fresh start
    pub first-pass : (k : ℕ) (items : Fields) (ms : Modules) → Around k items → Front k items → After (walk_module e items (start ms)) (λ gs t. Known (stands items i) t)
    unfolding walk_module usages_of filter among find
    first-pass k items ms w r =
        rw (stands-ways items i)
        (after-bind (walk_all items e false 3 (set_top true (start ms))) _ (λ gs t. Known (ways_all items i false) t) (λ gs t. Known (ways_all items i false) t)
        (around-held k items 3 (set_top true (start ms)) w r (record { no_record = refl; not_held = refl; not_found = refl; no_usages = refl; not_forced = refl })) λ gs t h. h)
