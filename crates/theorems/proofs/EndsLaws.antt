-- From what the two passes leave to the words of demand 3: the declaration, the uses, and the name that is gone.
use Rattle.std.specs.Prelude.{Some}
use Prim.Native.Nat.{ℕ, zero, suc}
use mathlib.Core.Path.{◌≡◌, refl, sym, ap, subst, ◌∙◌}
use mathlib.Core.Logic.{inl, inr}
use mathlib.Core.Bool.{Bool, true, false, cond, true≢false}
use mathlib.Core.List.{List, [], ◌∷◌}
use native.Mathlib.Omega.{arith}
use Rattle.scope.specs.Id.{require_atom, local, export}
use Rattle.tree.specs.Layout.{same, two, four, name_of, context_of}
use Rattle.tree.specs.Tree.{Field, Fields, none, more, tag_of, fixed_of, parts_of}
use Rattle.inputs.specs.Lists.{filter}
use Rattle.inputs.specs.Fields.{keep}
use Rattle.extraction_rules.specs.First.{specifiers_in, stays}
use Rattle.extraction_rules.proofs.KeepLaws.{Each}
use Rattle.placement.specs.Stands.{How, Standing, standings, standings_all, stands, is_use, properties}
use Rattle.placement.specs.Placed.{item_at}
use Rattle.placement.proofs.WaysLaws.{ways, ways_all, hows, hows-standings, stands-ways}
use Rattle.placement.proofs.QuietLaws.{QuietAll, quiet_all-neutral, import-ways}
use Rattle.theorems.specs.Demand.{Every, Declares, uses_of, property_fields}
use Rattle.theorems.proofs.FirstPassLaws.{Beside, Around, other-import}
use Rattle.theorems.proofs.SettledLaws.{takes_apart}
use Rattle.theorems.proofs.GoneLaws.{gone}
use Rattle.theorems.proofs.UsesLaws.{every-append, every-filter, Good, Uses, uses}
use Rattle.theorems.proofs.CleanLaws.{Clean, CleanSpec}
use Rattle.theorems.proofs.PairedLaws.{PairedAll}
use Rattle.theorems.proofs.OutsLaws.{own_specifiers, OwnOut, OutItem, Outs}
use Rattle.theorems.proofs.OutFieldLaws.{Fine, fine-append}

-- no use among these standings
neutral-every : (P : Standing → Type 0) (l : List Standing) → filter is_use (hows l) ≡ [] → Every (λ s. is_use s.how ≡ true → P s) l
unfolding filter
neutral-every P [] h = tt
neutral-every P (s ∷ l) h = go (is_use s.how) refl h (neutral-every P l)
  where
    go : (b : Bool) → is_use s.how ≡ b → cond b (s.how ∷ filter is_use (hows l)) (filter is_use (hows l)) ≡ [] →
        (filter is_use (hows l) ≡ [] → Every (λ s. is_use s.how ≡ true → P s) l) → Every (λ s. is_use s.how ≡ true → P s) (s ∷ l)
    go true q h k = absurd (let z : ◌≡◌ {A = ℕ} 0 1 = cc in omega arith)
    go false q h k = ((λ u. absurd (true≢false (sym u ∙ q))), k h)

module _ (i lit : List ℕ) (own file n : ℕ) (us : List How) (context : context_of i ≡ four (local own)) (named : same (name_of i) (two require_atom) ≡ false) where
  abbrev c : List ℕ
  c = four (export n)

  abbrev taken : Bool
  taken = takes_apart us

  -- ---- The declaration

  pub declares-own : (k : ℕ) (items outs : Fields) → Outs i lit own file n us context named k items outs → Declares outs k lit (own_specifiers i lit own file n us context named taken)
  declares-own k none outs h = absurd h
  declares-own zero (more f fs) outs h = (h.3.1.0, ap (item_at zero) h.2 ∙ ap Some h.3.1.1, h.3.1.2)
  declares-own (suc k) (more f fs) outs h = let w = declares-own k fs h.1 h.4 in (w.0, ap (item_at (suc k)) h.2 ∙ w.1, w.2)

  -- ---- The uses

  import-uses : (f g : Field) → tag_of f ≡ 0x10 → QuietAll (parts_of f) → Uses taken i c own named (standings f g i false)
  import-uses f g q h = neutral-every (Good taken c) (standings f g i false) (ap (filter is_use) (hows-standings f g i false ∙ import-ways f i q) ∙ (quiet_all-neutral (parts_of f) i false h).0)

  both-uses : (f g : Field) (fs hs gs : Fields) → gs ≡ more g hs → Uses taken i c own named (standings f g i false) → Uses taken i c own named (standings_all fs hs i false) →
      Uses taken i c own named (standings_all (more f fs) gs i false)
  unfolding standings
  both-uses f g fs hs gs e h k = rw e (every-append (λ s. is_use s.how ≡ true → Good taken c s) (standings f g i false) (standings_all fs hs i false) h k)

  item-uses : (f g : Field) → Beside i lit own file f → OutItem i lit own file n us context named f g → Fine taken (ways f i false) → Uses taken i c own named (standings f g i false)
  item-uses f g b (inl h) fine = import-uses f g h.0 (other-import i lit own file f b h.0).quiet
  item-uses f g b (inr h) fine = uses taken i c own named f g false h.0 fine h.1

  behind-uses : (fs gs : Fields) → Each (Beside i lit own file) fs → PairedAll (OutItem i lit own file n us context named) fs gs → Fine taken (ways_all fs i false) →
      Uses taken i c own named (standings_all fs gs i false)
  unfolding standings ways
  behind-uses none gs b h fine = tt
  behind-uses (more f fs) gs b h fine =
      let k = fine-append taken (ways f i false) (ways_all fs i false) fine in
      both-uses f h.0 fs h.1 gs h.2 (item-uses f h.0 b.0 h.3 k.0) (behind-uses fs h.1 b.1 h.4 k.1)

  around-uses : (k : ℕ) (fs gs : Fields) → Around i lit own file k fs → Outs i lit own file n us context named k fs gs →
      Fine taken (ways_all fs i false) → Uses taken i c own named (standings_all fs gs i false)
  unfolding ways
  around-uses k none gs b h fine = absurd h
  around-uses zero (more f fs) gs b h fine =
      both-uses f h.0 fs h.1 gs h.2 (import-uses f h.0 h.3.0 b.0.quiet)
      (behind-uses fs h.1 b.1 h.4 (fine-append taken (ways f i false) (ways_all fs i false) fine).1)
  around-uses (suc k) (more f fs) gs b h fine =
      let l = fine-append taken (ways f i false) (ways_all fs i false) fine in
      both-uses f h.0 fs h.1 gs h.2 (item-uses f h.0 b.0 h.3 l.0) (around-uses k fs h.1 b.1 h.4 l.1)

  pub uses-end : (k : ℕ) (items outs : Fields) → Around i lit own file k (keep stays items) → Outs i lit own file n us context named k (keep stays items) outs →
      Fine taken (ways_all (keep stays items) i false) → Every (Good taken c) (uses_of items outs i)
  unfolding uses_of
  uses-end k items outs b h fine = every-filter (Good taken c) (standings_all (keep stays items) outs i false) (around-uses k (keep stays items) outs b h fine)

  -- ---- The name is gone

  -- of the imports in *out*: where the id stands in no specifier, it stands nowhere
  abbrev pub Tidy : Field → Type 0
  Tidy g = tag_of g ≡ 0x10 → Each (λ f. ways f i false ≡ []) (specifiers_in (parts_of g)) → ways_all (parts_of g) i false ≡ []

  clean-absent : (fs : Fields) → Each (CleanSpec i own context) fs → Each (λ f. ways f i false ≡ []) fs
  clean-absent none h = tt
  clean-absent (more f fs) h = (h.0.0, clean-absent fs h.1)

  clean-gone : (y : List ℕ) (g : Field) → Tidy g → Clean i own context y g → ways g i false ≡ []
  clean-gone y g t h = import-ways g i h.0 ∙ t h.0 (clean-absent (specifiers_in (parts_of g)) h.2)

  module _ (apart : taken ≡ true) (absent : Each (λ f. ways f i false ≡ []) (property_fields 0x20 c (properties us))) where
    nil-both : (f : Field) (fs gs : Fields) → gs ≡ more f fs → ways f i false ≡ [] → ways_all fs i false ≡ [] → ways_all gs i false ≡ []
    unfolding ways
    nil-both f fs gs e h k = rw e (rw (h, k))

    first-tidy : (g : Field) (hs gs : Fields) → gs ≡ more g hs → Each Tidy gs → Tidy g × Each Tidy hs
    first-tidy g hs gs e t = subst (Each Tidy) e t

    item-gone : (f g : Field) → OutItem i lit own file n us context named f g → Fine taken (ways f i false) → Tidy g → ways g i false ≡ []
    item-gone f g (inl h) fine t = clean-gone (fixed_of f) g t h.1
    item-gone f g (inr h) fine t = gone taken i c own named context apart f g false h.0 fine h.1

    behind-gone : (fs gs : Fields) → PairedAll (OutItem i lit own file n us context named) fs gs → Fine taken (ways_all fs i false) → Each Tidy gs → ways_all gs i false ≡ []
    unfolding ways
    behind-gone none gs h fine t = rw h
    behind-gone (more f fs) gs h fine t =
        let k = first-tidy h.0 h.1 gs h.2 t in
        let l = fine-append taken (ways f i false) (ways_all fs i false) fine in
        nil-both h.0 h.1 gs h.2 (item-gone f h.0 h.3 l.0 k.0) (behind-gone fs h.1 h.4 l.1 k.1)

    own-gone : (g : Field) → Tidy g → OwnOut i lit own file n us context named g → ways g i false ≡ []
    own-gone g t h =
        let q : tag_of g ≡ 0x10 = ap tag_of h.1 in
        import-ways g i q
        ∙ t q
        (subst (Each (λ f. ways f i false ≡ []))
        (sym (ap (λ (g : Field). specifiers_in (parts_of g)) h.1 ∙ h.2 ∙ ap (own_specifiers i lit own file n us context named) apart)) absent)

    around-gone : (k : ℕ) (fs gs : Fields) → Outs i lit own file n us context named k fs gs → Fine taken (ways_all fs i false) → Each Tidy gs → ways_all gs i false ≡ []
    unfolding ways
    around-gone k none gs h fine t = absurd h
    around-gone zero (more f fs) gs h fine t =
        let k = first-tidy h.0 h.1 gs h.2 t in
        nil-both h.0 h.1 gs h.2 (own-gone h.0 k.0 h.3.1) (behind-gone fs h.1 h.4 (fine-append taken (ways f i false) (ways_all fs i false) fine).1 k.1)
    around-gone (suc k) (more f fs) gs h fine t =
        let q = first-tidy h.0 h.1 gs h.2 t in
        let l = fine-append taken (ways f i false) (ways_all fs i false) fine in
        nil-both h.0 h.1 gs h.2 (item-gone f h.0 h.3 l.0 q.0) (around-gone k fs h.1 h.4 l.1 q.1)

    pub gone-end : (k : ℕ) (items outs : Fields) → Outs i lit own file n us context named k items outs → Fine taken (ways_all items i false) → Each Tidy outs → stands outs i ≡ []
    gone-end k items outs h fine t = stands-ways outs i ∙ around-gone k items outs h fine t
