-- A well placed tree within the grammar: what the passes need of the items around a namespace's import.
use Rattle.std.specs.Prelude.{Some}
use Prim.Native.Nat.{ℕ, zero, suc}
use mathlib.Core.Path.{◌≡◌, refl, sym, subst}
use mathlib.Core.Logic.{inl, inr}
use mathlib.Core.Bool.{Bool, true, false, not, ◌&&◌}
use mathlib.Core.List.{List}
use native.Mathlib.Omega.{arith}
use borrow.Author.Tests.{eqb-true, not-true}
use Rattle.scope.specs.Id.{require_atom, local}
use Rattle.tree.proofs.Table.{both-true}
use Rattle.tree.specs.Layout.{same, two, four, name_of, context_of, value_of, id_at}
use Rattle.tree.specs.Tree.{Field, field, Fields, none, more, tag_of, parts_of}
use Rattle.tree.specs.Grammar.{rule_of}
use Rattle.tree.proofs.LayoutLaws.{same-refl}
use Rattle.inputs.specs.Lists.{among}
use Rattle.inputs.specs.Fields.{has}
use Rattle.extraction_rules.specs.First.{specifiers_in}
use Rattle.extraction_rules.proofs.ShapeLaws.{ShapedAll, Shaped, import-parts, shaped-parts, shaped-each}
use Rattle.extraction_rules.proofs.SpaceLaws.{OfImport}
use Rattle.extraction_rules.proofs.KeepLaws.{Each, each-weaken, each-both}
use Rattle.placement.specs.Stands.{How, stands, properties}
use Rattle.placement.specs.Placed.{all, imports_in, shares_none, fit_namespace, item_at, local_ids, own_locals}
use Rattle.placement.proofs.WaysLaws.{ways_all, stands-ways, ways}
use Rattle.placement.proofs.HowLaws.{all_plain, fits, fits-each}
use Rattle.placement.proofs.QuietLaws.{import-ways, import-quiet}
use Rattle.placement.proofs.LocalsLaws.{each-keep, locals-other, locals-all}
use Rattle.placement.proofs.PlacedLaws.{EachImport, EachBut, Apart, shares-apart, but-with, item-regular, tail-shaped, imports-all}
use Rattle.theorems.proofs.FirstPassLaws.{OtherImport, OwnImport, Beside, Around}
use Rattle.theorems.proofs.WorkedLaws.{CleanImport, CleanItem, CleanAround, ReadyItem, Ready}
use Rattle.theorems.proofs.OutFieldLaws.{Fine}
use Rattle.theorems.proofs.ImportedLaws.{OtherSpace, OtherLocal}
use Rattle.theorems.proofs.CleanLaws.{CleanSpec, Whole}
use Rattle.theorems.proofs.SpecifierLaws.{SpecFacts, specs-facts}

-- ---- Imports and other items

module _ (i lit : List ℕ) (own file : ℕ) (context : context_of i ≡ four (local own)) where
  -- all that is asked of another import
  abbrev pub Others : Field → Type 0
  Others f = OtherImport i lit own file f × CleanImport i lit own file context f

  item-placed : (f : Field) (fs : Fields) → ShapedAll (more f fs) (rule_of 0x01) → (tag_of f ≡ 0x10 → Others f) → Beside i lit own file f × CleanItem i lit own file context f
  item-placed f fs h o = go (has 0x10 f) refl
    where
      go : (b : Bool) → has 0x10 f ≡ b → Beside i lit own file f × CleanItem i lit own file context f
      go true q = let t = eqb-true (tag_of f) 0x10 q in let a = o t in (inl a.0, inl (t, a.1))
      go false q = let r = item-regular f fs h q in (inr r, inr r)

  behind-placed : (fs : Fields) → ShapedAll fs (rule_of 0x01) → EachImport Others fs → Each (Beside i lit own file) fs × Each (CleanItem i lit own file context) fs
  behind-placed none h o = (tt, tt)
  behind-placed (more f fs) h o =
      let a = item-placed f fs h o.0 in
      let r = behind-placed fs (tail-shaped f fs h) o.1 in
      ((a.0, r.0), (a.1, r.1))

  pub around-placed : (k : ℕ) (fs : Fields) (cs : Fields) → ShapedAll fs (rule_of 0x01) → item_at k fs ≡ Some (field 0x10 lit cs) →
      OwnImport i lit own file (field 0x10 lit cs) → EachBut Others k fs → Around i lit own file k fs × CleanAround i lit own file context k fs
  around-placed k none cs h e w o = absurd (let z : ◌≡◌ {A = ℕ} 0 1 = cc in omega arith)
  around-placed zero (more f fs) cs h e w o =
      let q : f ≡ field 0x10 lit cs = cc in
      let m = subst (OwnImport i lit own file) (sym q) w in
      let r = behind-placed fs (tail-shaped f fs h) o in
      ((m, r.0), (m, r.1))
  around-placed (suc k) (more f fs) cs h e w o =
      let a = item-placed f fs h o.0 in
      let r = around-placed k fs cs (tail-shaped f fs h) e w o.1 in
      ((a.0, r.0), (a.1, r.1))

  module _ (Space : List ℕ → Type 0) (locals : (j : List ℕ) → Space j → context_of j ≡ four (local own)) where
    pub ready-placed : (fs : Fields) → ShapedAll fs (rule_of 0x01) → EachImport (λ f. Each (OfImport Space own locals) (specifiers_in (parts_of f))) fs →
        Ready i lit own file context Space locals fs
    ready-placed none h o = tt
    ready-placed (more f fs) h o = (go (has 0x10 f) refl, ready-placed fs (tail-shaped f fs h) o.1)
      where
        go : (b : Bool) → has 0x10 f ≡ b → ReadyItem i lit own file context Space locals f
        go true q = let t = eqb-true (tag_of f) 0x10 q in inl (t, o.0 t)
        go false q = inr (item-regular f fs h q)

-- ---- What the second pass needs of the namespace's ways

pub fine-placed : (items : Fields) (i : List ℕ) → fit_namespace (stands items i) i ≡ true → (same (name_of i) (two require_atom) ≡ false)
    × Fine (all_plain (stands items i)) (ways_all items i false)
unfolding fit_namespace
fine-placed items i h =
    let hs = stands items i in
    let a = both-true (fits hs && not (same (name_of i) (two require_atom))) (not (among (two require_atom) (properties hs))) h in
    let b = both-true (fits hs) (not (same (name_of i) (two require_atom))) a.0 in (
      not-true (same (name_of i) (two require_atom)) b.1,
      subst (Fine (all_plain hs)) (stands-ways items i) ((λ t. t), not-true (among (two require_atom) (properties hs)) a.1, λ _. b.0),
    )

-- ---- Around the import of a well placed tree

module _ (i lit : List ℕ) (own file : ℕ) (context : context_of i ≡ four (local own)) where
  -- what is known of every item
  abbrev Known : Field → Type 0
  Known f = Shaped f × ((tag_of f ≡ 0x10 → own_locals own f ≡ true) × (fits (ways f i false) ≡ true))

  import-others : (f : Field) → tag_of f ≡ 0x10 → Apart i (value_of lit) f → Known f → Others i lit own file context f
  unfolding own_locals
  import-others f t a k =
      let s = shaped-parts f 0x10 k.0 t in
      let p = import-parts (parts_of f) s in
      let ws = fits-each (parts_of f) i (subst (λ (l : List How). fits l ≡ true) (import-ways f i t) k.1.1) in
      let w =
      specs-facts i lit own file context (specifiers_in (parts_of f)) p.0 (locals-other i (specifiers_in (parts_of f)) a.1)
      (locals-all (λ i. same (context_of i) (four (local own))) (specifiers_in (parts_of f)) (k.1.0 t))
      (each-keep (λ s. fits (ways s i false) ≡ true) (λ f. not (has 0x2F f)) (parts_of f) ws) in
      let F = SpecFacts i lit own file context in (
        record {
          tag = t;
          source = a.0;
          locals = each-weaken F (OtherLocal i lit own file) (specifiers_in (parts_of f)) (λ s k. k.0) w;
          spaces = each-weaken F (OtherSpace i lit own file) (specifiers_in (parts_of f)) (λ s k. k.1.0) w;
          quiet = import-quiet (parts_of f) s;
        },
        (each-weaken F (CleanSpec i own context) (specifiers_in (parts_of f)) (λ s k. k.1.1.0) w, each-weaken F (Whole i own context) (specifiers_in (parts_of f)) (λ s k. k.1.1.1) w),
      )

  -- the namespace's own id is among its locals
  own-local : (cs : Fields) → specifiers_in cs ≡ more (field 0x22 i none) none → id_at i 0 ≡ i → among i (local_ids (specifiers_in cs)) ≡ true
  unfolding local_ids among
  own-local cs q w = rw (q, w, same-refl i)

  pub around-well : (k : ℕ) (items cs : Fields) → ShapedAll items (rule_of 0x01) → shares_none (imports_in items) ≡ true →
      all (own_locals own) (imports_in items) ≡ true → fits (ways_all items i false) ≡ true → id_at i 0 ≡ i →
      item_at k items ≡ Some (field 0x10 lit cs) → specifiers_in cs ≡ more (field 0x22 i none) none → ShapedAll cs (rule_of 0x10) →
      Around i lit own file k items × CleanAround i lit own file context k items
  around-well k items cs shape share locals fit w e q s =
      around-placed i lit own file context k items cs shape e (record { tag = refl; literal = refl; sole = q; quiet = import-quiet cs s })
      (but-with (Apart i (value_of lit)) Known (Others i lit own file context) k items (λ f t a b. import-others f t a b)
      (shares-apart i k items (field 0x10 lit cs) share e refl (own-local cs q w))
      (each-both Shaped (λ f. (tag_of f ≡ 0x10 → own_locals own f ≡ true) × (fits (ways f i false) ≡ true)) items (shaped-each items (rule_of 0x01) shape)
      (each-both (λ f. tag_of f ≡ 0x10 → own_locals own f ≡ true) (λ f. fits (ways f i false) ≡ true) items (imports-all (own_locals own) items locals) (fits-each items i fit))))
