-- What each clause of 'well placed' says item by item: of each import, of each but one, and of the namespace that one of them declares. That
-- imports precede other items is the premise of one law, `front-imports`: in front of an import stand imports.
use Rattle.std.specs.Prelude.{Option, None, Some}
use Prim.Native.Nat.{ℕ, zero, suc}
use mathlib.Core.Path.{◌≡◌, refl, sym, ap, subst, ◌∙◌}
use mathlib.Core.Logic.{◌⊎◌, inl, inr}
use mathlib.Core.Bool.{Bool, true, false, not, cond, ◌&&◌, ◌||◌, true≢false}
use mathlib.Core.List.{List, [], ◌∷◌}
use native.Mathlib.Omega.{arith}
use borrow.Author.Tests.{eqb-true, eq-eqb, not-true}
use Rattle.scope.specs.Id.{require_atom, local}
use Rattle.tree.proofs.Table.{both-true}
use Rattle.tree.specs.Layout.{same, two, four, name_of, context_of, value_of, id_at}
use Rattle.tree.specs.Tree.{Field, field, Fields, none, more, tag_of, fixed_of}
use Rattle.tree.specs.Grammar.{rule_of}
use Rattle.tree.proofs.LayoutLaws.{same-refl, same-equal}
use Rattle.tree.proofs.FixedLaws.{or-right}
use Rattle.inputs.specs.Lists.{is_some, among}
use Rattle.inputs.specs.Fields.{has, find_field, keep}
use Rattle.extraction_rules.specs.First.{specifiers_in}
use Rattle.extraction_rules.proofs.TestLaws.{or-neither, is-false}
use Rattle.extraction_rules.proofs.ShapeLaws.{ShapedAll, Shaped, import-parts, shaped-parts, shaped-each, Specifiers}
use Rattle.extraction_rules.proofs.AlikeLaws.{Regular}
use Rattle.extraction_rules.proofs.RegularLaws.{regular, item-outer}
use Rattle.extraction_rules.proofs.ReadableLaws.{item-step}
use Rattle.extraction_rules.proofs.KeepLaws.{Each, each-weaken, each-both, keep-specifiers}
use Rattle.placement.specs.Stands.{How, stands, properties}
use Rattle.placement.specs.Placed.{all, imports_in, imports_precede, has_source, has_local, shares_none, locals_of, fit_namespace, item_at, local_ids, own_locals}
use Rattle.placement.specs.Placed.{sole_namespace, fit_namespaces, well_placed}
use Rattle.placement.proofs.WaysLaws.{ways_all, stands-ways}
use Rattle.placement.proofs.HowLaws.{fits}
use Rattle.placement.proofs.LocalsLaws.{locals-all, whole-specifier}

-- ---- Items that are no imports

pub item-regular : (f : Field) (fs : Fields) → ShapedAll (more f fs) (rule_of 0x01) → has 0x10 f ≡ false → Regular f
item-regular f fs h q = regular f (item-outer (tag_of f) (item-step (tag_of f) h.0 h.1).0 q) h.2

not-some : {A : Type 0} (o : Option A) → not (is_some o) ≡ true → o ≡ None
not-some None h = refl
not-some (Some a) h = absurd (true≢false (sym h))

-- ---- Imports and other items

-- P holds of each import, but for the one at a place
abbrev pub EachImport : (Field → Type 0) → Fields → Type 0
EachImport P fs = Each (λ f. tag_of f ≡ 0x10 → P f) fs

abbrev pub EachBut : (Field → Type 0) → ℕ → Fields → Type 0
EachBut P k none = Unit {0}
EachBut P zero (more f fs) = EachImport P fs
EachBut P (suc k) (more f fs) = (tag_of f ≡ 0x10 → P f) × EachBut P k fs

-- what is known of the item at a place
pub each-at : (P : Field → Type 0) (k : ℕ) (fs : Fields) (f : Field) → Each P fs → item_at k fs ≡ Some f → P f
each-at P k none f h e = absurd (let z : ◌≡◌ {A = ℕ} 0 1 = cc in omega arith)
each-at P zero (more g fs) f h e = let q : g ≡ f = cc in subst P q h.0
each-at P (suc k) (more g fs) f h e = each-at P k fs f h.1 e

-- P holds of the item at a place, and Q of the others
abbrev pub Amid : (Field → Type 0) → (Field → Type 0) → ℕ → Fields → Type 0
Amid P Q k none = ⊥
Amid P Q zero (more f fs) = P f × Each Q fs
Amid P Q (suc k) (more f fs) = Q f × Amid P Q k fs

pub amid-each : (P Q S : Field → Type 0) (k : ℕ) (fs : Fields) → ((f : Field) → P f → S f) → ((f : Field) → Q f → S f) → Amid P Q k fs → Each S fs
amid-each P Q S k none p q h = absurd h
amid-each P Q S zero (more f fs) p q h = (p f h.0, each-weaken Q S fs q h.1)
amid-each P Q S (suc k) (more f fs) p q h = (q f h.0, amid-each P Q S k fs p q h.1)

-- what is known of each item, and of each but one, together
pub but-with : (P Q R : Field → Type 0) (k : ℕ) (fs : Fields) → ((f : Field) → tag_of f ≡ 0x10 → P f → Q f → R f) → EachBut P k fs → Each Q fs → EachBut R k fs
but-with P Q R k none j h w = tt
but-with P Q R zero (more f fs) j h w =
    each-weaken (λ f. (tag_of f ≡ 0x10 → P f) × Q f) (λ f. tag_of f ≡ 0x10 → R f) fs (λ f k t. j f t (k.0 t) k.1) (each-both (λ f. tag_of f ≡ 0x10 → P f) Q fs h w.1)
but-with P Q R (suc k) (more f fs) j h w = ((λ t. j f t (h.0 t) w.0), but-with P Q R k fs j h.1 w.1)

-- the items in front of a place are imports
abbrev pub Front : ℕ → Fields → Type 0
Front k none = Unit {0}
Front zero (more f fs) = Unit {0}
Front (suc k) (more f fs) = (tag_of f ≡ 0x10) × Front k fs

-- 'imports precede other items'
precede-cases : (f : Field) (fs : Fields) → imports_precede (more f fs) ≡ true →
    ((tag_of f ≡ 0x10) × (imports_precede fs ≡ true)) ⊎ ((has 0x10 f ≡ false) × (find_field (has 0x10) fs ≡ None))
unfolding imports_precede
precede-cases f fs h = go (has 0x10 f) refl h
  where
    go : (b : Bool) → has 0x10 f ≡ b → cond b (imports_precede fs) (not (is_some (find_field (has 0x10) fs))) ≡ true →
        ((tag_of f ≡ 0x10) × (imports_precede fs ≡ true)) ⊎ ((has 0x10 f ≡ false) × (find_field (has 0x10) fs ≡ None))
    go true q h = inl (eqb-true (tag_of f) 0x10 q, h)
    go false q h = inr (q, not-some (find_field (has 0x10) fs) h)

found-at : (k : ℕ) (fs : Fields) (x : List ℕ) (cs : Fields) → item_at k fs ≡ Some (field 0x10 x cs) → find_field (has 0x10) fs ≡ None → ⊥
unfolding find_field
found-at k none x cs e h = let z : ◌≡◌ {A = ℕ} 0 1 = cc in omega arith
found-at zero (more f fs) x cs e h = let q : f ≡ field 0x10 x cs = cc in let w : find_field (has 0x10) (more f fs) ≡ Some f = rw q in let z : ◌≡◌ {A = ℕ} 0 1 = cc in omega arith
found-at (suc k) (more f fs) x cs e h = go (has 0x10 f) h (found-at k fs x cs e)
  where
    go : (b : Bool) → cond b (Some f) (find_field (has 0x10) fs) ≡ None → (find_field (has 0x10) fs ≡ None → ⊥) → ⊥
    go true h j = let z : ◌≡◌ {A = ℕ} 0 1 = cc in omega arith
    go false h j = j h

-- The one law that needs it: in front of an import stand imports. By induction on the place: an item that is none would have no import behind it
pub front-imports : (k : ℕ) (fs : Fields) (x : List ℕ) (cs : Fields) → imports_precede fs ≡ true → item_at k fs ≡ Some (field 0x10 x cs) → Front k fs
front-imports k none x cs h e = tt
front-imports zero (more f fs) x cs h e = tt
front-imports (suc k) (more f fs) x cs h e = go (precede-cases f fs h) (λ v. front-imports k fs x cs v e)
  where
    go : ((tag_of f ≡ 0x10) × (imports_precede fs ≡ true)) ⊎ ((has 0x10 f ≡ false) × (find_field (has 0x10) fs ≡ None)) →
        (imports_precede fs ≡ true → Front k fs) → (tag_of f ≡ 0x10) × Front k fs
    go (inl v) ih = (v.0, ih v.1)
    go (inr v) ih = absurd (found-at k fs x cs e v.1)

pub tail-shaped : (f : Field) (fs : Fields) → ShapedAll (more f fs) (rule_of 0x01) → ShapedAll fs (rule_of 0x01)
tail-shaped f fs h = subst (ShapedAll fs) (item-step (tag_of f) h.0 h.1).1 h.3

-- ---- 'share no source or local id'

-- another source, and no local id i
abbrev pub Apart : List ℕ → List ℕ → Field → Type 0
Apart i a f = (same (value_of (fixed_of f)) a ≡ false) × (among i (locals_of f) ≡ false)

apart-rest : (i a : List ℕ) (fs : Fields) → has_source a (imports_in fs) ≡ false → has_local i (imports_in fs) ≡ false → EachImport (Apart i a) fs
unfolding imports_in has_source has_local
apart-rest i a none h k = tt
apart-rest i a (more f fs) h k = go (has 0x10 f) refl h k (apart-rest i a fs)
  where
    go : (b : Bool) → has 0x10 f ≡ b → has_source a (cond b (f ∷ imports_in fs) (imports_in fs)) ≡ false → has_local i (cond b (f ∷ imports_in fs) (imports_in fs)) ≡ false →
        (has_source a (imports_in fs) ≡ false → has_local i (imports_in fs) ≡ false → EachImport (Apart i a) fs) → EachImport (Apart i a) (more f fs)
    go true q h k ih =
        let x = or-neither (same (value_of (fixed_of f)) a) (has_source a (imports_in fs)) h in
        let y = or-neither (among i (locals_of f)) (has_local i (imports_in fs)) k in
        ((λ _. (x.0, y.0)), ih x.1 y.1)
    go false q h k ih = ((λ t. absurd (true≢false (sym (eq-eqb (tag_of f) 0x10 t) ∙ q))), ih h k)

-- what a test says of all, it says of one among them
all-among : (t : List ℕ → Bool) (i : List ℕ) (l : List (List ℕ)) → all t l ≡ true → among i l ≡ true → t i ≡ true
unfolding all among
all-among t i [] h k = absurd (true≢false (sym k))
all-among t i (j ∷ l) h k = let a = both-true (t j) (all t l) h in go (same i j) refl k a.0 (all-among t i l a.1)
  where
    go : (b : Bool) → same i j ≡ b → b || among i l ≡ true → t j ≡ true → (among i l ≡ true → t i ≡ true) → t i ≡ true
    go true q k h ih = ap t (same-equal i j q) ∙ h
    go false q k h ih = ih k

-- the import at the place k is among the imports
has-at : (i : List ℕ) (k : ℕ) (fs : Fields) (f : Field) → item_at k fs ≡ Some f → tag_of f ≡ 0x10 → among i (locals_of f) ≡ true →
    (has_source (value_of (fixed_of f)) (imports_in fs) ≡ true) × (has_local i (imports_in fs) ≡ true)
unfolding imports_in has_source has_local
has-at i k none f e t m = absurd (let z : ◌≡◌ {A = ℕ} 0 1 = cc in omega arith)
has-at i zero (more g fs) f e t m =
    let q : g ≡ f = cc in
    rw (q, eq-eqb (tag_of f) 0x10 t)
    (ap (λ (b : Bool). b || has_source (value_of (fixed_of f)) (imports_in fs)) (same-refl (value_of (fixed_of f))), ap (λ (b : Bool). b || has_local i (imports_in fs)) m)
has-at i (suc k) (more g fs) f e t m = go (has 0x10 g) (has-at i k fs f e t m)
  where
    go : (b : Bool) → (has_source (value_of (fixed_of f)) (imports_in fs) ≡ true) × (has_local i (imports_in fs) ≡ true) →
        (has_source (value_of (fixed_of f)) (cond b (g ∷ imports_in fs) (imports_in fs)) ≡ true)
        × (has_local i (cond b (g ∷ imports_in fs) (imports_in fs)) ≡ true)
    go true h = (or-right (same (value_of (fixed_of g)) (value_of (fixed_of f))) _ h.0, or-right (among i (locals_of g)) _ h.1)
    go false h = h

has-source : (b : List ℕ) (a : List ℕ) (l : List Field) → same b a ≡ true → has_source a l ≡ has_source b l
has-source b a l q = ap (λ (x : List ℕ). has_source x l) (sym (same-equal b a q))

pub shares-apart : (i : List ℕ) (k : ℕ) (fs : Fields) (f : Field) → shares_none (imports_in fs) ≡ true → item_at k fs ≡ Some f → tag_of f ≡ 0x10 →
    among i (locals_of f) ≡ true → EachBut (Apart i (value_of (fixed_of f))) k fs
unfolding imports_in shares_none
shares-apart i k none f h e t m = tt
shares-apart i zero (more g fs) f h e t m =
    let q : g ≡ f = cc in
    let a : not (has_source (value_of (fixed_of f)) (imports_in fs)) && all (λ i. not (has_local i (imports_in fs))) (locals_of f) && shares_none
    (imports_in fs) ≡ true = rw (q, eq-eqb (tag_of f) 0x10 t) at h in
    let b = both-true (not (has_source (value_of (fixed_of f)) (imports_in fs)) && all (λ i. not (has_local i (imports_in fs))) (locals_of f)) (shares_none (imports_in fs)) a in
    let c = both-true (not (has_source (value_of (fixed_of f)) (imports_in fs))) (all (λ i. not (has_local i (imports_in fs))) (locals_of f)) b.0 in
    apart-rest i (value_of (fixed_of f)) fs (not-true (has_source (value_of (fixed_of f)) (imports_in fs)) c.0)
    (not-true (has_local i (imports_in fs)) (all-among (λ i. not (has_local i (imports_in fs))) i (locals_of f) c.1 m))
shares-apart i (suc k) (more g fs) f h e t m = go (has 0x10 g) refl h (λ v. shares-apart i k fs f v e t m)
  where
    own : (has_source (value_of (fixed_of f)) (imports_in fs) ≡ true) × (has_local i (imports_in fs) ≡ true)
    own = has-at i k fs f e t m

    go : (b : Bool) → has 0x10 g ≡ b → shares_none (cond b (g ∷ imports_in fs) (imports_in fs)) ≡ true →
        (shares_none (imports_in fs) ≡ true → EachBut (Apart i (value_of (fixed_of f))) k fs) →
        EachBut (Apart i (value_of (fixed_of f))) (suc k) (more g fs)
    go true q h ih =
        let b = both-true (not (has_source (value_of (fixed_of g)) (imports_in fs)) && all (λ i. not (has_local i (imports_in fs))) (locals_of g)) (shares_none (imports_in fs)) h in
        let c = both-true (not (has_source (value_of (fixed_of g)) (imports_in fs))) (all (λ i. not (has_local i (imports_in fs))) (locals_of g)) b.0 in (
          (λ _. (
            is-false (same (value_of (fixed_of g)) (value_of (fixed_of f)))
                (λ z. true≢false
                (sym own.0 ∙ has-source (value_of (fixed_of g)) (value_of (fixed_of f)) (imports_in fs) z
                ∙ not-true (has_source (value_of (fixed_of g)) (imports_in fs)) c.0)),
            is-false (among i (locals_of g)) (λ z. true≢false (sym own.1 ∙ not-true (has_local i (imports_in fs)) (all-among (λ i. not (has_local i (imports_in fs))) i (locals_of g) c.1 z))),
          )),
          ih b.1,
        )
    go false q h ih = ((λ t. absurd (true≢false (sym (eq-eqb (tag_of g) 0x10 t) ∙ q))), ih h)

-- ---- All imports

-- of each import of a list of items
pub imports-all : (t : Field → Bool) (fs : Fields) → all t (imports_in fs) ≡ true → EachImport (λ f. t f ≡ true) fs
unfolding imports_in all
imports-all t none h = tt
imports-all t (more f fs) h = go (has 0x10 f) refl h (imports-all t fs)
  where
    go : (b : Bool) → has 0x10 f ≡ b → all t (cond b (f ∷ imports_in fs) (imports_in fs)) ≡ true →
        (all t (imports_in fs) ≡ true → EachImport (λ f. t f ≡ true) fs) → EachImport (λ f. t f ≡ true) (more f fs)
    go true q h ih = let w = both-true (t f) (all t (imports_in fs)) h in ((λ _. w.0), ih w.1)
    go false q h ih = ((λ z. absurd (true≢false (sym (eq-eqb (tag_of f) 0x10 z) ∙ q))), ih h)

-- ---- 'namespace ids stand elsewhere only as ..'

pub fits-placed : (items : Fields) (i : List ℕ) → fit_namespace (stands items i) i ≡ true → fits (ways_all items i false) ≡ true
unfolding fit_namespace
fits-placed items i h =
    let hs = stands items i in
    let a = both-true (fits hs && not (same (name_of i) (two require_atom))) (not (among (two require_atom) (properties hs))) h in
    subst (λ (l : List How). fits l ≡ true) (stands-ways items i) (both-true (fits hs) (not (same (name_of i) (two require_atom))) a.0).0

-- ---- Well placed, clause by clause

pub record Well (own : ℕ) (items : Fields) : Type 0 where
  pub precede : imports_precede items ≡ true
  pub share : shares_none (imports_in items) ≡ true
  pub locals : all (own_locals own) (imports_in items) ≡ true
  pub soles : all sole_namespace (imports_in items) ≡ true
  pub fit : all (fit_namespaces items) (imports_in items) ≡ true

pub well-of : (own : ℕ) (items : Fields) → well_placed own items ≡ true → Well own items
unfolding well_placed
well-of own items h =
    let fs = imports_in items in
    let a = both-true (imports_precede items && shares_none fs && all (own_locals own) fs && all sole_namespace fs) (all (fit_namespaces items) fs) h in
    let b = both-true (imports_precede items && shares_none fs && all (own_locals own) fs) (all sole_namespace fs) a.0 in
    let c = both-true (imports_precede items && shares_none fs) (all (own_locals own) fs) b.0 in
    let d = both-true (imports_precede items) (shares_none fs) c.0 in
    record { precede = d.0; share = d.1; locals = c.1; soles = b.1; fit = a.1 }

-- the namespace of the declaration
namespaces-own : (cs : Fields) (i : List ℕ) → specifiers_in cs ≡ more (field 0x22 i none) none → keep (has 0x22) cs ≡ more (field 0x22 i none) none
unfolding keep
namespaces-own cs i q = sym (keep-specifiers cs) ∙ ap (keep (has 0x22)) q

-- what the declaration's own clauses of 'well placed' say of i
pub record Mine (own : ℕ) (items : Fields) (i : List ℕ) : Type 0 where
  pub whole : id_at i 0 ≡ i
  pub context : context_of i ≡ four (local own)
  pub fit : fit_namespace (stands items i) i ≡ true

pub mine-of : (own : ℕ) (items : Fields) (k : ℕ) (x i : List ℕ) (cs : Fields) → ShapedAll items (rule_of 0x01) → Well own items →
    item_at k items ≡ Some (field 0x10 x cs) → specifiers_in cs ≡ more (field 0x22 i none) none → Mine own items i
unfolding own_locals fit_namespaces local_ids all
mine-of own items k x i cs shape w e q =
    let f = field 0x10 x cs in
    let s = shaped-parts f 0x10 (each-at Shaped k items f (shaped-each items (rule_of 0x01) shape) e) refl in
    let p = subst Specifiers q (import-parts cs s).0 in
    let whole : id_at i 0 ≡ i = whole-specifier (field 0x22 i none) (inr refl) p.0.1 in
    let loc : all (λ i. same (context_of i) (four (local own))) (local_ids (specifiers_in cs)) ≡ true =
    each-at (λ f. tag_of f ≡ 0x10 → own_locals own f ≡ true) k items f (imports-all (own_locals own) items w.locals) e refl in
    let one =
    locals-all (λ i. same (context_of i) (four (local own))) (more (field 0x22 i none) none)
    (subst (λ (fs : Fields). all (λ i. same (context_of i) (four (local own))) (local_ids fs) ≡ true) q loc) in
    let fit : all (λ i. fit_namespace (stands items i) i) (local_ids (keep (has 0x22) cs)) ≡ true =
    each-at (λ f. tag_of f ≡ 0x10 → fit_namespaces items f ≡ true) k items f (imports-all (fit_namespaces items) items w.fit) e refl in
    let two =
    locals-all (λ i. fit_namespace (stands items i) i) (more (field 0x22 i none) none)
    (subst (λ (fs : Fields). all (λ i. fit_namespace (stands items i) i) (local_ids fs) ≡ true) (namespaces-own cs i q) fit) in
    record {
      whole = whole;
      context = ap context_of (sym whole) ∙ same-equal (context_of (id_at i 0)) (four (local own)) one.0;
      fit = subst (λ (j : List ℕ). fit_namespace (stands items j) j ≡ true) whole two.0;
    }
