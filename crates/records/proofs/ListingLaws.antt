-- The places of imports that a sweep lists: what stands there, and that listing an import, or passing another item, keeps the list true.
use Rattle.std.specs.Prelude.{Option, None, Some}
use Rattle.std.proofs.lemmas.List.{length-map, take_more_set}
use Prim.Native.Nat.{ℕ, zero, suc, ◌+◌, ◌/◌, ◌%◌, ◌≤◌, ◌<◌}
use native.Mathlib.Omega.{arith}
use mathlib.Core.Path.{◌≡◌, refl, sym, ap, ap₂, subst, subst₂, ◌∙◌}
use mathlib.Core.Bool.{Bool, true, false, cond, ◌&&◌}
use mathlib.Core.List.{List, [], ◌∷◌, ◌++◌, append_assoc, append-nil, map-append}
use lib.Dec.{leb, eqb}
use lib.ListN.{length, get_or, get_or-map, set, take, replicate, length-set, length-append, length-replicate, get_or-replicate}
use lib.Seq.{slice, drop-cons, get_or-take, length-take-le}
use borrow.Author.Tests.{le-leb, leb-true, leb-false, eqb-true, eqb-false}
use Rattle.tree.specs.Layout.{same, two, value_of, literal_value, same_literal}
use Rattle.tree.specs.Tree.{Field, none, tag_of, fixed_of, parts_of, encodes}
use Rattle.tree.specs.Access.{extent_at}
use Rattle.tree.specs.Standing.{row_at}
use Rattle.tree.proofs.AccessLaws.{extent-upto}
use Rattle.tree.proofs.FixedLaws.{no-upto}
use Rattle.tree.proofs.LayoutLaws.{same-equal}
use Rattle.inputs.specs.Fields.{has, sole}
use Rattle.writer.proofs.Wrote.{wrote-then, wrote-as}
use Rattle.extraction_rules.specs.First.{specifiers_in}
use Rattle.steps.proofs.SoundLaws.{row-read}
use Rattle.records.specs.Model.{gathered_of, gathered, is_namespace, whole_of, taken_of, taken}
use Rattle.records.specs.Writes.{WroteIf, RowRead, sieve, items_in, item_at, ItemRead}
use Rattle.records.specs.declared.places.Import.{Import}
use Rattle.records.specs.Listing.{
  Place,
  work_of,
  out_of,
  import_bytes,
  pair_bytes,
  spread,
  EachRead,
  Listed,
  Paired,
  chain_at,
  chain_in,
  no_import,
  place_of,
  place_in,
  places_in,
  Unchained,
  ListedBoth,
  Lists,
}
use Rattle.records.proofs.SpecifierLaws.{item-is, item-none, item-read, extent-past, tag-import, import-is}
use Rattle.records.proofs.CollectedLaws.{sieve-nothing, imports-more, pair-other, taken-more}

-- ---- The places in the list

abbrev pub nowhere : Place
nowhere = (0, 0)

pub places-length : (l : List Import) → length (places_in l) ≡ length l
places-length l = length-map l place_of

pub places-at : (l : List Import) (i : ℕ) → get_or (places_in l) i nowhere ≡ place_in l i
places-at l i = get_or-map place_of l i no_import

-- lists that agree in each place, and in the two places of an import
pub places-agree : (a b : List Import) → length a ≡ length b → ((i : ℕ) → i < length a → place_in a i ≡ place_in b i) → places_in a ≡ places_in b
places-agree [] [] e h = refl
places-agree [] (j ∷ b) e h = absurd (omega arith)
places-agree (i ∷ a) [] e h = absurd (omega arith)
places-agree (i ∷ a) (j ∷ b) e h =
    ap₂ (λ (p : Place) (ps : List Place). p ∷ ps) (h zero (omega arith)) (places-agree a b (omega arith) (λ k x. h (suc k) (omega arith)))

pub place-agree : (a b : List Import) (i : ℕ) → (get_or a i no_import).at ≡ (get_or b i no_import).at → (get_or a i no_import).made ≡ (get_or b i no_import).made →
    place_in a i ≡ place_in b i
place-agree a b i e f = ap₂ (λ (x y : ℕ). (x, y)) e f

-- an import more
places-more : (l : List Import) (i : Import) → places_in (l ++ (i ∷ [])) ≡ places_in l ++ (place_of i ∷ [])
places-more l i = map-append place_of l (i ∷ [])

-- ---- The source of an import by its bytes

-- the first two bytes of six
two_bytes : (s : List ℕ) (a : ℕ) → a + 6 ≤ length s → value_of (slice a (a + 6) s) ≡ get_or s a 0 ∷ get_or s (a + 1) 0 ∷ []
two_bytes s a h =
    let l : length (take (a + 6) s) ≡ a + 6 = length-take-le (a + 6) s h in
    let z : suc a ≡ a + 1 = omega arith in
    ap (take 2) (drop-cons (take (a + 6) s) a 0 (omega arith))
    ∙ ap (λ (y : List ℕ). get_or (take (a + 6) s) a 0 ∷ take 1 y) (drop-cons (take (a + 6) s) (suc a) 0 (omega arith))
    ∙ ap (λ (x : ℕ). x ∷ get_or (take (a + 6) s) (suc a) 0 ∷ []) (get_or-take (a + 6) s a 0 (omega arith))
    ∙ ap (λ (y : ℕ). get_or s a 0 ∷ y ∷ []) (get_or-take (a + 6) s (suc a) 0 (omega arith) ∙ ap (λ (i : ℕ). get_or s i 0) z)

-- an import has nine bytes, and its source stands in the fourth and the fifth
abbrev SourceAt : List ℕ → ℕ → Field → Type 0
SourceAt s at f = (at + 9 ≤ length s) × (value_of (fixed_of f) ≡ get_or s (at + 3) 0 ∷ get_or s (at + 4) 0 ∷ [])

item-source : (s : List ℕ) (at : ℕ) → tag_of (item_at s at) ≡ 0x10 → SourceAt s at (item_at s at)
item-source s at h = by (extent_at s at (length s)) refl
  where
    some : (b : Bool) (stop : ℕ) → leb at (length s) ≡ b → extent_at s at (length s) ≡ Some stop → SourceAt s at (item_at s at)
    some true stop q e =
        let i = import-is s at stop (leb-true at (length s) q) e (sym (ap tag_of (item-is s at stop e)) ∙ h) in
        let u = i.0 in
        let v = i.1 in
        let w : at + 3 + 1 ≡ at + 4 = omega arith in (
          omega arith,
          ap (λ (f : Field). value_of (fixed_of f)) i.2 ∙ two_bytes s (at + 3) (omega arith) ∙ ap (λ (j : ℕ). get_or s (at + 3) 0 ∷ get_or s j 0 ∷ []) w,
        )
    some false stop q e = absurd (no-upto (sym (extent-past s at (length s) (let k = leb-false at (length s) q in omega arith)) ∙ e))

    by : (r : Option ℕ) → extent_at s at (length s) ≡ r → SourceAt s at (item_at s at)
    by (Some stop) e = some (leb at (length s)) stop refl e
    by None e = absurd (let z : 0 ≡ 0x10 = sym (ap tag_of (item-none s at e)) ∙ h in omega arith)

-- ---- Items of which nothing is written

import-absent : (b : Bool) (v : List ℕ) (f : Field) → (tag_of f ≡ 0x10 → value_of (fixed_of f) ≡ v → ⊥) → encodes (sieve b (gathered_of v f)) ≡ []
unfolding gathered_of
import-absent b v f h =
    sieve-nothing b (gathered_of v f)
    (ap (λ (c : Bool). cond c (specifiers_in (parts_of f)) none) (by (has 0x10 f) (same (value_of (fixed_of f)) v) refl refl))
  where
    by : (c d : Bool) → has 0x10 f ≡ c → same (value_of (fixed_of f)) v ≡ d → (c && d) ≡ false
    by true true p q = absurd (h (eqb-true (tag_of f) 0x10 p) (same-equal (value_of (fixed_of f)) v q))
    by true false p q = refl
    by false d p q = refl

pair-absent : (b : Bool) (l : List ℕ) (w g : Field) → (tag_of w ≡ 0x10 → value_of (fixed_of w) ≡ value_of l → ⊥) → encodes (sieve b (taken_of l w g)) ≡ []
unfolding whole_of
pair-absent b l w g h =
    pair-other b l w g
    (ap (λ (c : Bool). c && is_namespace (sole (specifiers_in (parts_of w)))) (by (has 0x10 w) (same_literal (fixed_of w) l) refl refl))
  where
    by : (c d : Bool) → has 0x10 w ≡ c → same_literal (fixed_of w) l ≡ d → (c && d) ≡ false
    by true true p q = absurd (h (eqb-true (tag_of w) 0x10 p) (ap value_of (same-equal (fixed_of w) l q)))
    by true false p q = refl
    by false d p q = refl

-- an import of another chain has another source
other-chain : (work : List ℕ) (at a : ℕ) → (chain_at work at ≡ a % 2048 → ⊥) → tag_of (item_at work at) ≡ 0x10 → value_of (fixed_of (item_at work at)) ≡ two a → ⊥
unfolding chain_at
other-chain work at a h t v =
    let i = item-source work at t in
    let k = sym i.1 ∙ v in
    let x : get_or work (at + 3) 0 ≡ a / 256 % 256 = ap (λ (l : List ℕ). get_or l 0 0) k in
    let y : get_or work (at + 4) 0 ≡ a % 256 = ap (λ (l : List ℕ). get_or l 1 0) k in
    let z : at + 3 + 1 ≡ at + 4 = omega arith in
    let w = ap (λ (j : ℕ). get_or work j 0) z in
    let e : literal_value work (at + 3) % 2048 ≡ a % 2048 = omega arith in
    h (rw (le-leb (at + 9) (length work) i.0) e)

module _ (b : Bool) (work : List ℕ) (a : ℕ) (p : Place) (h : chain_in work p ≡ a % 2048 → ⊥) where
  pub import-off : import_bytes b (two a) work p ≡ []
  unfolding import_bytes
  import-off = import-absent b (two a) (item_at work (work_of p)) (other-chain work (work_of p) a h)

  pub pair-off : (out l : List ℕ) → value_of l ≡ two a → pair_bytes b l work out p ≡ []
  unfolding pair_bytes
  pair-off out l q = pair-absent b l (item_at work (work_of p)) (item_at out (out_of p)) (λ t v. other-chain work (work_of p) a h t (v ∙ q))

-- ---- What is written of a place

module _ (b : Bool) (v work : List ℕ) (p : Place) {l l' : List ℕ} {o q at : ℕ} (e : at ≡ work_of p) where
  pub import-placed : WroteIf (ItemRead work at) (encodes (sieve b (gathered_of v (item_at work at)))) l o l' q →
      WroteIf (ItemRead work (work_of p)) (import_bytes b v work p) l o l' q
  unfolding import_bytes
  import-placed w = subst (λ (j : ℕ). WroteIf (ItemRead work j) (encodes (sieve b (gathered_of v (item_at work j)))) l o l' q) e w

  pub pair-placed : {made : ℕ} (out : List ℕ) → made ≡ out_of p → WroteIf (ItemRead out made) (encodes (sieve b (taken_of v (item_at work at) (item_at out made)))) l o l' q →
      WroteIf (ItemRead out (out_of p)) (pair_bytes b v work out p) l o l' q
  unfolding pair_bytes
  pair-placed out f w =
      subst (λ (j : ℕ). WroteIf (ItemRead out (out_of p)) (encodes (sieve b (taken_of v (item_at work j) (item_at out (out_of p))))) l o l' q) e
      (subst (λ (j : ℕ). WroteIf (ItemRead out j) (encodes (sieve b (taken_of v (item_at work at) (item_at out j)))) l o l' q) f w)

-- ---- One place more

spread-append : (f : Place → List ℕ) (ps qs : List Place) → spread f (ps ++ qs) ≡ spread f ps ++ spread f qs
unfolding spread
spread-append f [] qs = refl
spread-append f (p ∷ ps) qs = ap (λ (x : List ℕ). f p ++ x) (spread-append f ps qs) ∙ sym (append_assoc (f p) (spread f ps) (spread f qs))

spread-one : (f : Place → List ℕ) (p : Place) → spread f (p ∷ []) ≡ f p
unfolding spread
spread-one f p = append-nil (f p)

spread-more : (f : Place → List ℕ) (ps : List Place) (p : Place) (x g g' : List ℕ) → x ≡ spread f ps ++ g → g ≡ f p ++ g' → x ≡ spread f (ps ++ (p ∷ [])) ++ g'
spread-more f ps p x g g' e k =
    e ∙ ap (λ (y : List ℕ). spread f ps ++ y) k ∙ sym (append_assoc (spread f ps) (f p) g')
    ∙ ap (λ (y : List ℕ). y ++ g') (ap (λ (y : List ℕ). spread f ps ++ y) (sym (spread-one f p)) ∙ sym (spread-append f ps (p ∷ [])))

each-more : (f : Place → ℕ) (s : List ℕ) (ps : List Place) (p : Place) → EachRead f s ps → ItemRead s (f p) → EachRead f s (ps ++ (p ∷ []))
each-more f s [] p a r = (r, tt)
each-more f s (q ∷ ps) p a r = (a.0, each-more f s ps p a.1 r)

spread-pass : (f : Place → List ℕ) (ps : List Place) (x g h g' : List ℕ) → x ≡ spread f ps ++ g → g ≡ h ++ g' → h ≡ [] → x ≡ spread f ps ++ g'
spread-pass f ps x g h g' e k q = e ∙ ap (λ (y : List ℕ). spread f ps ++ y) (k ∙ ap (λ (y : List ℕ). y ++ g') q)

-- ---- The sweep

listed-start : (work : List ℕ) → Listed work [] 3
unfolding spread
listed-start work = record { is = λ b v. refl; read = λ r. (tt, r) }

paired-start : (work out : List ℕ) → Paired work out [] 3 3
unfolding spread
paired-start work out = record { is = λ b l. refl; read = λ r. (tt, r) }

module _ (work : List ℕ) (at stop : ℕ) (le : at ≤ length work) (e : extent_at work at (length work) ≡ Some stop) where
  not_import : (get_or work at 0 ≡ 0x10 → ⊥) → tag_of (item_at work at) ≡ 0x10 → ⊥
  not_import h t = h (tag-import work at stop (sym (ap tag_of (item-is work at stop e)) ∙ t))

  listed-more : (ps : List Place) (made : ℕ) → Listed work ps at → Listed work (ps ++ ((at, made) ∷ [])) stop
  unfolding import_bytes
  listed-more ps made i =
      record {
        is = λ b v. spread-more (import_bytes b v work) ps (at, made) _ _ _ (i.is b v) (imports-more b v work at stop le e);
        read = λ r.
            let a = i.read r in
            let b = row-read a.1.0 le (omega arith) a.1.1 e in
            (each-more work_of work ps (at, made) a.0 (item-read e b.0), (b.1.0, b.1.2));
      }

  listed-pass : (ps : List Place) → (get_or work at 0 ≡ 0x10 → ⊥) → Listed work ps at → Listed work ps stop
  listed-pass ps h i =
      record {
        is = λ b v.
            spread-pass (import_bytes b v work) ps _ _ _ _ (i.is b v) (imports-more b v work at stop le e)
            (import-absent b v (item_at work at) (λ t _. not_import h t));
        read = λ r. let a = i.read r in let b = row-read a.1.0 le (omega arith) a.1.1 e in (a.0, (b.1.0, b.1.2));
      }

  module _ (out : List ℕ) (made until : ℕ) (le' : made ≤ length out) (e' : extent_at out made (length out) ≡ Some until) where
    paired-more : (ps : List Place) → Paired work out ps at made → Paired work out (ps ++ ((at, made) ∷ [])) stop until
    unfolding pair_bytes
    paired-more ps i =
        record {
          is = λ b l. spread-more (pair_bytes b l work out) ps (at, made) _ _ _ (i.is b l) (taken-more b l work at out made stop until le e le' e');
          read = λ r.
              let a = i.read r in
              let b = row-read a.1.0 le' (omega arith) a.1.1 e' in
              (each-more out_of out ps (at, made) a.0 (item-read e' b.0), (b.1.0, b.1.2));
        }

    paired-pass : (ps : List Place) → (get_or work at 0 ≡ 0x10 → ⊥) → Paired work out ps at made → Paired work out ps stop until
    paired-pass ps h i =
        record {
          is = λ b l.
              spread-pass (pair_bytes b l work out) ps _ _ _ _ (i.is b l) (taken-more b l work at out made stop until le e le' e')
              (pair-absent b l (item_at work at) (item_at out made) (λ t _. not_import h t));
          read = λ r. let a = i.read r in let b = row-read a.1.0 le' (omega arith) a.1.1 e' in (a.0, (b.1.0, b.1.2));
        }

    -- an import more in the list, or an item that is none
    pub lists-more : (l : List Import) (i : Import) → place_of i ≡ (at, made) → ListedBoth work out l at made → ListedBoth work out (l ++ (i ∷ [])) stop until
    lists-more l i q w =
        let e : places_in (l ++ (i ∷ [])) ≡ places_in l ++ ((at, made) ∷ []) = places-more l i ∙ ap (λ (p : Place). places_in l ++ (p ∷ [])) q in (
          subst (λ (ps : List Place). Listed work ps stop) (sym e) (listed-more (places_in l) made w.0),
          subst (λ (ps : List Place). Paired work out ps stop until) (sym e) (paired-more (places_in l) w.1),
        )

    pub lists-pass : (l : List Import) → (get_or work at 0 ≡ 0x10 → ⊥) → ListedBoth work out l at made → ListedBoth work out l stop until
    lists-pass l h w = (listed-pass (places_in l) h w.0, paired-pass (places_in l) h w.1)

    -- one item of each tree: the first n of an array are listed, and so it is if it is an import
    pub lists-step : (a a' : List Import) (n n' : ℕ) → length a ≡ 3641 → n < 3641 → stop ≤ 65536 → until ≤ 65536 → Lists work out (take n a) at made →
        (get_or work at 0 ≡ 0x10 → (n' ≡ n + 1) × ((i : Import) × (place_of i ≡ (at, made)) × (a' ≡ set a n i))) ×
        ((get_or work at 0 ≡ 0x10 → ⊥) → (n' ≡ n) × (a' ≡ a)) → Lists work out (take n' a') stop until × (length a' ≡ 3641)
    lists-step a a' n n' cells few low low' i w = by (eqb (get_or work at 0) 0x10) refl
      where
        reached : Lists work out (take n a) at made → (3 ≤ stop) × (stop ≤ 65536)
        reached l = let x = extent-upto work at (length work) le e in let y = l.low.0 in let z = x.0 in (omega arith, low)

        reached_out : Lists work out (take n a) at made → (3 ≤ until) × (until ≤ 65536)
        reached_out l = let x = extent-upto out made (length out) le' e' in let y = l.low_out.0 in let z = x.0 in (omega arith, low')

        by : (c : Bool) → eqb (get_or work at 0) 0x10 ≡ c → Lists work out (take n' a') stop until × (length a' ≡ 3641)
        by true q =
            let k = w.0 (eqb-true (get_or work at 0) 0x10 q) in
            let j = k.1.0 in
            let m = lists-more (take n a) j k.1.1 (i.listed, i.paired) in
            let t : take n' a' ≡ take n a ++ (j ∷ []) = ap₂ (λ (x : ℕ) (l : List Import). take x l) k.0 k.1.2 ∙ take_more_set a n j (omega arith) in
            let f : length (take n a ++ (j ∷ [])) ≤ 3641 =
            (let x = length-take-le n a (omega arith) in let y = length-append (take n a) (j ∷ []) in omega arith) in (
              subst (λ (l : List Import). Lists work out l stop until) (sym t)
                  (record { few = f; low = reached i; low_out = reached_out i; listed = m.0; paired = m.1 }),
              ap (λ (l : List Import). length l) k.1.2 ∙ length-set a n j ∙ cells,
            )
        by false q =
            let h = eqb-false (get_or work at 0) 0x10 q in
            let k = w.1 h in
            let m = lists-pass (take n a) h (i.listed, i.paired) in
            let t : take n' a' ≡ take n a = ap₂ (λ (x : ℕ) (l : List Import). take x l) k.0 k.1 in (
              subst (λ (l : List Import). Lists work out l stop until) (sym t)
                  (record { few = i.few; low = reached i; low_out = reached_out i; listed = m.0; paired = m.1 }),
              ap (λ (l : List Import). length l) k.1 ∙ cells,
            )

pub lists-start : (work out : List ℕ) → Lists work out [] 3 3
lists-start work out =
    record { few = omega arith; low = (omega arith, omega arith); low_out = (omega arith, omega arith); listed = listed-start work; paired = paired-start work out }

-- with none listed, the places are those of the first items
pub lists-none : (work out : List ℕ) {at made : ℕ} → at ≡ 3 → made ≡ 3 → Lists work out [] at made
lists-none work out e f = subst₂ (Lists work out []) (sym e) (sym f) (lists-start work out)

pub unchained-start : Unchained (replicate 2048 3641)
unchained-start = record { cells = length-replicate {A = ℕ} 2048 3641; ends = λ k h. get_or-replicate 2048 k 3641 0 (omega arith) }

-- ---- With the items behind, all

module _ (b : Bool) (v : List ℕ) {l l' l'' : List ℕ} {o p q : ℕ} where
  pub imports-joined : {work : List ℕ} {ps : List Place} {at : ℕ} → Listed work ps at → WroteIf (EachRead work_of work ps) (spread (import_bytes b v work) ps) l o l' p →
      WroteIf (RowRead work at (length work)) (encodes (sieve b (gathered v (row_at work at (length work))))) l' p l'' q →
      WroteIf (RowRead work 3 (length work)) (encodes (sieve b (gathered v (items_in work)))) l o l'' q
  imports-joined i w x =
      record { size = x.size ∙ w.size; is = λ r. let a = i.read r in wrote-as (wrote-then (w.is a.0) (x.is a.1)) (sym (i.is b v)) }

  pub pairs-joined : {Q : Type 0} {work out : List ℕ} {ps : List Place} {at made : ℕ} → Paired work out ps at made →
      WroteIf (EachRead out_of out ps × Q) (spread (pair_bytes b v work out) ps) l o l' p →
      WroteIf (RowRead out made (length out)) (encodes (sieve b (taken v (row_at work at (length work)) (row_at out made (length out))))) l' p l'' q →
      WroteIf (RowRead out 3 (length out) × Q) (encodes (sieve b (taken v (items_in work) (items_in out)))) l o l'' q
  pairs-joined i w x =
      record { size = x.size ∙ w.size; is = λ r. let a = i.read r.0 in wrote-as (wrote-then (w.is (a.0, r.1)) (x.is a.1)) (sym (i.is b v)) }
