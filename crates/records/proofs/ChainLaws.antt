-- Chains through a list of places: what is written along a chain is what is written of the whole list, since nothing is written of places
-- off the chain; and how chains are made, the last place first.
use Prim.Native.Nat.{ℕ, zero, suc, ◌+◌, ◌-◌, ◌%◌, ◌≤◌, ◌<◌}
use native.Mathlib.Omega.{arith}
use mathlib.Core.Path.{◌≡◌, refl, sym, ap, subst, ◌∙◌}
use mathlib.Core.Bool.{Bool, true, false, cond}
use mathlib.Core.List.{List, [], ◌∷◌, ◌++◌}
use lib.Dec.{eqb}
use lib.ListN.{length, get_or, set, drop, length-set, length-drop, drop_of_length-le}
use lib.Seq.{drop-cons, get_or-set_same, get_or-set_other, map-set_same}
use borrow.Author.Tests.{eq-eqb, ne_eqb, eqb-true, eqb-false}
use Rattle.writer.specs.Wrote.{Wrote}
use Rattle.writer.proofs.Wrote.{wrote-none, wrote-then, wrote-as}
use Rattle.tree.specs.Layout.{two, value_of}
use Rattle.tree.specs.Tree.{encodes}
use Rattle.records.specs.Model.{gathered_of, taken_of}
use Rattle.records.specs.Writes.{WroteIf, sieve, item_at, ItemRead}
use Rattle.std.specs.Prelude.{None, Some}
use Rattle.records.specs.declared.places.Pair.{Pair}
use Rattle.records.specs.declared.places.Import.{Import}
use Rattle.records.specs.declared.places.Imports.{Imports}
use Rattle.records.specs.declared.places.Chain.{Chain}
use Rattle.records.specs.Listing.{
  Place,
  work_of,
  out_of,
  import_bytes,
  pair_bytes,
  spread,
  EachRead,
  chain_in,
  chained,
  no_import,
  place_of,
  place_in,
  places_in,
  next_in,
  listed_in,
  imports_in,
  behind_in,
  behind_out,
  Listed,
  Paired,
  Unchained,
  Lists,
  Linked,
  ChartedBoth,
  LeadsOn,
  GivesNext,
}
use Rattle.records.proofs.ListingLaws.{nowhere, places-length, places-at, import-off, pair-off, import-placed, pair-placed}

-- ---- Along a chain

module _ (g : Place → ℕ) (k : ℕ) where
  chained-spread : (f : Place → List ℕ) → ((p : Place) → (g p ≡ k → ⊥) → f p ≡ []) → (ps : List Place) → spread f (chained g k ps) ≡ spread f ps
  unfolding chained spread
  chained-spread f h [] = refl
  chained-spread f h (p ∷ ps) = by (eqb (g p) k) refl (chained-spread f h ps)
    where
      by : (c : Bool) → eqb (g p) k ≡ c → spread f (chained g k ps) ≡ spread f ps → spread f (cond c (p ∷ ps) (chained g k ps)) ≡ f p ++ spread f ps
      by true q i = refl
      by false q i = i ∙ sym (ap (λ (x : List ℕ). x ++ spread f ps) (h p (eqb-false (g p) k q)))

  chained-length : (ps : List Place) → length (chained g k ps) ≤ length ps
  unfolding chained
  chained-length [] = omega arith
  chained-length (p ∷ ps) = by (eqb (g p) k) (chained-length ps)
    where
      by : (c : Bool) → length (chained g k ps) ≤ length ps → length (cond c (p ∷ ps) (chained g k ps)) ≤ suc (length ps)
      by true i = omega arith
      by false i = omega arith

  -- its first place is on the chain
  chained-first : (ps qs : List Place) (p : Place) → chained g k ps ≡ p ∷ qs → g p ≡ k
  unfolding chained
  chained-first [] qs p e = absurd (let z : ◌≡◌ {A = ℕ} 0 (suc (length qs)) = ap length e in omega arith)
  chained-first (q ∷ ps) qs p e = by (eqb (g q) k) refl e (chained-first ps qs p)
    where
      by : (c : Bool) → eqb (g q) k ≡ c → cond c (q ∷ ps) (chained g k ps) ≡ p ∷ qs → (chained g k ps ≡ p ∷ qs → g p ≡ k) → g p ≡ k
      by true w e i = ap g (sym (ap (λ (l : List Place). get_or l 0 nowhere) e)) ∙ eqb-true (g q) k w
      by false w e i = i e

  chained-here : (p : Place) (ps : List Place) → g p ≡ k → chained g k (p ∷ ps) ≡ p ∷ ps
  unfolding chained
  chained-here p ps e = ap (λ (c : Bool). cond c (p ∷ ps) (chained g k ps)) (eq-eqb (g p) k e)

  chained-pass : (p : Place) (ps : List Place) → (g p ≡ k → ⊥) → chained g k (p ∷ ps) ≡ chained g k ps
  unfolding chained
  chained-pass p ps e = ap (λ (c : Bool). cond c (p ∷ ps) (chained g k ps)) (ne_eqb (g p) k e)

-- the rest of a list from a place on
rest-more : (ps : List Place) (i : ℕ) → i < length ps → drop i ps ≡ get_or ps i nowhere ∷ drop (i + 1) ps
rest-more ps i h = let z : suc i ≡ i + 1 = omega arith in drop-cons ps i nowhere h ∙ ap (λ (j : ℕ). get_or ps i nowhere ∷ drop j ps) z

-- a chain goes on behind
chain-later : (g : Place → ℕ) (k : ℕ) (ps : List Place) (i j : ℕ) → i < length ps → drop j ps ≡ chained g k (drop (i + 1) ps) → i < j
chain-later g k ps i j h e =
    let a = length-drop j ps in
    let b = length-drop (i + 1) ps in
    let c = chained-length g k (drop (i + 1) ps) in
    let d = ap length e in
    omega arith

-- with the places of the chain from i on, all of the list is written
pub record Along (P : Type 0) (g : Place → ℕ) (k : ℕ) (f : Place → List ℕ) (ps : List Place) (l : List ℕ) (o i : ℕ) (l' : List ℕ) (p : ℕ) : Type 0 where
  pub size : length l' ≡ length l
  pub first : i < length ps → g (get_or ps i nowhere) ≡ k
  pub is : P → {l'' : List ℕ} {q : ℕ} → Wrote l' p (spread f (drop i ps)) l'' q → Wrote l o (spread f ps) l'' q

on-chain : (g : Place → ℕ) (k : ℕ) (ps qs : List Place) (i : ℕ) → drop i ps ≡ chained g k qs → i < length ps → g (get_or ps i nowhere) ≡ k
on-chain g k ps qs i e h = chained-first g k qs (drop (i + 1) ps) (get_or ps i nowhere) (sym e ∙ rest-more ps i h)

-- each place of a list that was read
each-at : (f : Place → ℕ) (s : List ℕ) (ps : List Place) (i : ℕ) → i < length ps → EachRead f s ps → ItemRead s (f (get_or ps i nowhere))
each-at f s [] zero h a = absurd (omega arith)
each-at f s [] (suc i) h a = absurd (omega arith)
each-at f s (p ∷ ps) zero h a = a.0
each-at f s (p ∷ ps) (suc i) h a = each-at f s ps i (omega arith) a.1

-- nothing is written of a place off the chain
module _ (P : Type 0) (g : Place → ℕ) (k : ℕ) (f : Place → List ℕ) (off : P → (p : Place) → (g p ≡ k → ⊥) → f p ≡ []) where
  module _ (ps : List Place) where
    pub along-start : {l : List ℕ} {o : ℕ} (i : ℕ) → drop i ps ≡ chained g k ps → Along P g k f ps l o i l o
    along-start i e = record { size = refl; first = on-chain g k ps ps i e; is = λ r w. wrote-as w (ap (spread f) e ∙ chained-spread g k f (off r) ps) }

    along-step : {Q : Type 0} {l l' l'' : List ℕ} {o p q : ℕ} (i j : ℕ) → i < length ps → drop j ps ≡ chained g (g (get_or ps i nowhere)) (drop (i + 1) ps) → (P → Q) →
        Along P g k f ps l o i l' p → WroteIf Q (f (get_or ps i nowhere)) l' p l'' q → Along P g k f ps l o j l'' q
    unfolding spread
    along-step i j h e r a w =
        let z : drop j ps ≡ chained g k (drop (i + 1) ps) = e ∙ ap (λ (c : ℕ). chained g c (drop (i + 1) ps)) (a.first h) in
        record {
          size = w.size ∙ a.size;
          first = on-chain g k ps (drop (i + 1) ps) j z;
          is = λ u v.
              a.is u
              (wrote-as (wrote-then (w.is (r u)) v)
              (ap (λ (x : List ℕ). f (get_or ps i nowhere) ++ x) (ap (spread f) z ∙ chained-spread g k f (off u) (drop (i + 1) ps))
              ∙ ap (spread f) (sym (rest-more ps i h))));
        }

    along-end : {l l' : List ℕ} {o p : ℕ} (i : ℕ) → length ps ≤ i → Along P g k f ps l o i l' p → WroteIf P (spread f ps) l o l' p
    unfolding spread
    along-end i h a = record { size = a.size; is = λ u. a.is u (wrote-as wrote-none (sym (ap (spread f) (drop_of_length-le ps {i = i} h)))) }

  -- the same by the listed imports
  module _ (a : List Import) where
    pub along-next : (m : Place → ℕ) (s : List ℕ) → (P → EachRead m s (places_in a)) → {l l' l'' : List ℕ} {o p q : ℕ} (i j : ℕ) → i < length a →
        drop j (places_in a) ≡ chained g (g (place_in a i)) (drop (i + 1) (places_in a)) → Along P g k f (places_in a) l o i l' p →
        WroteIf (ItemRead s (m (place_in a i))) (f (place_in a i)) l' p l'' q → Along P g k f (places_in a) l o j l'' q
    along-next m s r {l' = l'} {l'' = l''} {p = p} {q = q} i j h e b w =
        let lt : i < length (places_in a) = let z = places-length a in omega arith in
        let here = sym (places-at a i) in
        along-step (places_in a) i j lt (e ∙ ap (λ (x : Place). chained g (g x) (drop (i + 1) (places_in a))) here) (λ u. each-at m s (places_in a) i lt (r u)) b
        (subst (λ (x : Place). WroteIf (ItemRead s (m x)) (f x) l' p l'' q) here w)

    pub along-last : {l l' : List ℕ} {o p : ℕ} (i : ℕ) → length a ≤ i → Along P g k f (places_in a) l o i l' p → WroteIf P (spread f (places_in a)) l o l' p
    along-last i h b = along-end (places_in a) i (let z = places-length a in omega arith) b

-- each chain goes on behind
pub leads-on : {work first : List ℕ} {a : List Import} → Linked work first a 0 → LeadsOn a
leads-on {work} {first} {a} w = λ i h.
    chain-later (chain_in work) (chain_in work (place_in a i)) (places_in a) i (next_in a i) (let z = places-length a in omega arith) (w.goes i (omega arith) h)

-- ---- Along the chain of a source

-- what a chain through a list gives
pub gave-next : (c d : Chain) (p : Pair) (a : List Import) → GivesNext c (Some p) d → c.listed.now ≡ a →
    (c.next < length a) × (p.at ≡ work_of (place_in a c.next)) × (p.made ≡ out_of (place_in a c.next)) × (d.next ≡ next_in a c.next) × (d.listed.now ≡ a)
gave-next c d p a g e =
    subst (λ (l : List Import). (c.next < length l) × (p.at ≡ work_of (place_in l c.next)) × (p.made ≡ out_of (place_in l c.next)) × (d.next ≡ next_in l c.next) × (d.listed.now ≡ l)) e
    (g.0, ap work_of g.1, ap out_of g.1, g.2, g.3)

pub gave-none : (c d : Chain) (a : List Import) → GivesNext c None d → c.listed.now ≡ a → length a ≤ c.next
gave-none c d a g e = subst (λ (l : List Import). length l ≤ c.next) e g.0

-- with the imports of its chain from i on, those of the source v are written
abbrev pub ImportsOn : Bool → ℕ → List ℕ → List Import → List ℕ → ℕ → ℕ → List ℕ → ℕ → Type 0
ImportsOn b v work a l o i l' p =
    Along (EachRead work_of work (places_in a)) (chain_in work) (v % 2048) (import_bytes b (two v) work) (places_in a) l o i l' p

module _ (b : Bool) (v : ℕ) (work first : List ℕ) (a : List Import) (w : Linked work first a 0) where
  import-elsewhere : EachRead work_of work (places_in a) → (p : Place) → (chain_in work p ≡ v % 2048 → ⊥) → import_bytes b (two v) work p ≡ []
  import-elsewhere r p h = import-off b work v p h

  pub imports-start : {l : List ℕ} {o i : ℕ} → i ≡ get_or first (v % 2048) 0 → ImportsOn b v work a l o i l o
  imports-start {i = i} e =
      along-start (EachRead work_of work (places_in a)) (chain_in work) (v % 2048) (import_bytes b (two v) work) import-elsewhere (places_in a) i
      (ap (λ (j : ℕ). drop j (places_in a)) e ∙ w.starts (v % 2048) (omega arith))

  pub imports-next : {l l' l'' : List ℕ} {o p q at i j : ℕ} → i < length a → at ≡ work_of (place_in a i) → j ≡ next_in a i → ImportsOn b v work a l o i l' p →
      WroteIf (ItemRead work at) (encodes (sieve b (gathered_of (two v) (item_at work at)))) l' p l'' q → ImportsOn b v work a l o j l'' q
  imports-next {i = i} {j = j} lt e f u x =
      along-next (EachRead work_of work (places_in a)) (chain_in work) (v % 2048) (import_bytes b (two v) work) import-elsewhere a work_of work (λ r. r) i j lt
      (ap (λ (m : ℕ). drop m (places_in a)) f ∙ w.goes i (omega arith) lt) u (import-placed b (two v) work (place_in a i) e x)

  pub imports-last : {l l' : List ℕ} {o p : ℕ} (i : ℕ) → length a ≤ i → ImportsOn b v work a l o i l' p →
      WroteIf (EachRead work_of work (places_in a)) (spread (import_bytes b (two v) work) (places_in a)) l o l' p
  imports-last i h u = along-last (EachRead work_of work (places_in a)) (chain_in work) (v % 2048) (import_bytes b (two v) work) import-elsewhere a i h u

-- and with the pairs of the chain of its value, those of the literal x
abbrev pub PairsOn : Bool → ℕ → List ℕ → List ℕ → List ℕ → List Import → List ℕ → ℕ → ℕ → List ℕ → ℕ → Type 0
PairsOn b v x work out a l o i l' p =
    Along (EachRead out_of out (places_in a) × (value_of x ≡ two v)) (chain_in work) (v % 2048) (pair_bytes b x work out) (places_in a) l o i l' p

module _ (b : Bool) (v : ℕ) (x work out first : List ℕ) (a : List Import) (w : Linked work first a 0) where
  pair-elsewhere : EachRead out_of out (places_in a) × (value_of x ≡ two v) → (p : Place) → (chain_in work p ≡ v % 2048 → ⊥) → pair_bytes b x work out p ≡ []
  pair-elsewhere r p h = pair-off b work v p h out x r.1

  pub pairs-start : {l : List ℕ} {o i : ℕ} → i ≡ get_or first (v % 2048) 0 → PairsOn b v x work out a l o i l o
  pairs-start {i = i} e =
      along-start (EachRead out_of out (places_in a) × (value_of x ≡ two v)) (chain_in work) (v % 2048) (pair_bytes b x work out) pair-elsewhere
      (places_in a) i (ap (λ (j : ℕ). drop j (places_in a)) e ∙ w.starts (v % 2048) (omega arith))

  pub pairs-next : {l l' l'' : List ℕ} {o p q at made i j : ℕ} → i < length a → at ≡ work_of (place_in a i) → made ≡ out_of (place_in a i) → j ≡ next_in a i →
      PairsOn b v x work out a l o i l' p → WroteIf (ItemRead out made) (encodes (sieve b (taken_of x (item_at work at) (item_at out made)))) l' p l'' q →
      PairsOn b v x work out a l o j l'' q
  pairs-next {i = i} {j = j} lt e d f u y =
      along-next (EachRead out_of out (places_in a) × (value_of x ≡ two v)) (chain_in work) (v % 2048) (pair_bytes b x work out) pair-elsewhere a out_of out (λ r. r.0) i j lt
      (ap (λ (m : ℕ). drop m (places_in a)) f ∙ w.goes i (omega arith) lt) u (pair-placed b x work (place_in a i) e out d y)

  pub pairs-last : {l l' : List ℕ} {o p : ℕ} (i : ℕ) → length a ≤ i → PairsOn b v x work out a l o i l' p →
      WroteIf (EachRead out_of out (places_in a) × (value_of x ≡ two v)) (spread (pair_bytes b x work out) (places_in a)) l o l' p
  pairs-last i h u = along-last (EachRead out_of out (places_in a) × (value_of x ≡ two v)) (chain_in work) (v % 2048) (pair_bytes b x work out) pair-elsewhere a i h u

-- ---- Making chains

-- no import is chained, and every link leads behind the last
pub linked-start : (work first : List ℕ) (a : List Import) → length a ≤ 3641 → Unchained first → Linked work first a (length a)
unfolding chained
linked-start work first a few u =
    let z = places-length a in
    record {
      cells = u.cells;
      starts = λ k h.
          let y = u.ends k h in
          drop_of_length-le (places_in a) {i = get_or first k 0} (omega arith)
          ∙ sym (ap (chained (chain_in work) k) (drop_of_length-le (places_in a) {i = length a} (omega arith)));
      goes = λ j x y. absurd (omega arith);
    }

-- the import in front is put at the start of its chain
module _ (work first : List ℕ) (a : List Import) (i k : ℕ) (x : Import) (fits : i < length a) (low : k < 2048) (here : k ≡ chain_in work (place_in a i))
    (same : place_of x ≡ place_in a i) (leads : x.next ≡ get_or first k 0) where
  pub places-kept : places_in (set a i x) ≡ places_in a
  places-kept = map-set_same place_of a i x no_import same

  place_kept : (j : ℕ) → place_in (set a i x) j ≡ place_in a j
  place_kept j = sym (places-at (set a i x) j) ∙ ap (λ (ps : List Place). get_or ps j nowhere) places-kept ∙ places-at a j

  pub linked-more : Linked work first a (i + 1) → Linked work (set first k i) (set a i x) i
  linked-more w =
      record {
        cells = length-set first k i ∙ w.cells;
        starts = λ j u.
            subst (λ (ps : List Place). drop (get_or (set first k i) j 0) ps ≡ chained (chain_in work) j (drop i ps)) (sym places-kept) (by j u (eqb j k) refl);
        goes = λ j u v.
            subst (λ (p : Place). drop (next_in (set a i x) j) (places_in (set a i x)) ≡ chained (chain_in work) (chain_in work p) (drop (j + 1) (places_in (set a i x))))
            (sym (place_kept j))
            (subst (λ (ps : List Place). drop (next_in (set a i x) j) ps ≡ chained (chain_in work) (chain_in work (place_in a j)) (drop (j + 1) ps)) (sym places-kept)
            (on j u (let z = length-set a i x in omega arith) (eqb j i) refl));
      }
    where
      front : drop i (places_in a) ≡ place_in a i ∷ drop (i + 1) (places_in a)
      front = rest-more (places_in a) i (let z = places-length a in omega arith) ∙ ap (λ (p : Place). p ∷ drop (i + 1) (places_in a)) (places-at a i)

      by : (j : ℕ) → j < 2048 → (c : Bool) → eqb j k ≡ c → drop (get_or (set first k i) j 0) (places_in a) ≡ chained (chain_in work) j (drop i (places_in a))
      by j u true q =
          let z = eqb-true j k q in
          let l = w.cells in
          ap (λ (m : ℕ). drop (get_or (set first k i) m 0) (places_in a)) z
          ∙ ap (λ (m : ℕ). drop m (places_in a)) (get_or-set_same first k i 0 (omega arith))
          ∙ front ∙ sym (chained-here (chain_in work) j (place_in a i) (drop (i + 1) (places_in a)) (sym here ∙ sym z))
          ∙ ap (chained (chain_in work) j) (sym front)
      by j u false q =
          let z = eqb-false j k q in
          ap (λ (m : ℕ). drop m (places_in a)) (get_or-set_other first k j i 0 z)
          ∙ w.starts j u ∙ sym (chained-pass (chain_in work) j (place_in a i) (drop (i + 1) (places_in a)) (λ e. z (sym e ∙ sym here)))
          ∙ ap (chained (chain_in work) j) (sym front)

      on : (j : ℕ) → i ≤ j → j < length a → (c : Bool) → eqb j i ≡ c →
          drop (next_in (set a i x) j) (places_in a) ≡ chained (chain_in work) (chain_in work (place_in a j)) (drop (j + 1) (places_in a))
      on j u v true q =
          let z = eqb-true j i q in
          ap (λ (m : ℕ). drop (next_in (set a i x) m) (places_in a)) z
          ∙ ap (λ (m : ℕ). drop m (places_in a)) (ap (λ (y : Import). y.next) (get_or-set_same a i x no_import fits) ∙ leads)
          ∙ w.starts k low ∙ ap (λ (m : ℕ). chained (chain_in work) m (drop (i + 1) (places_in a))) here
          ∙ ap (λ (m : ℕ). chained (chain_in work) (chain_in work (place_in a m)) (drop (m + 1) (places_in a))) (sym z)
      on j u v false q =
          let z = eqb-false j i q in
          ap (λ (m : ℕ). drop m (places_in a)) (ap (λ (y : Import). y.next) (get_or-set_other a i j x no_import z))
          ∙ w.goes j (omega arith) v

-- as the loop has it, from i down to i - 1
pub linked-step : (work first : List ℕ) (a : List Import) (i k : ℕ) (x : Import) → 0 < i → i ≤ length a → k < 2048 → k ≡ chain_in work (place_in a (i - 1)) →
    place_of x ≡ place_in a (i - 1) → x.next ≡ get_or first k 0 → Linked work first a i →
    Linked work (set first k (i - 1)) (set a (i - 1) x) (i - 1) × (places_in (set a (i - 1) x) ≡ places_in a)
linked-step work first a i k x pos le low e same leads w =
    let y : i ≡ i - 1 + 1 = omega arith in (
      linked-more work first a (i - 1) k x (omega arith) low e same leads (subst (Linked work first a) y w),
      places-kept work first a (i - 1) k x (omega arith) low e same leads,
    )

-- ---- With the items behind

-- what was listed and then chained
pub charted-all : (work out : List ℕ) (l : List Import) (a : Imports) → Lists work out l (behind_in a) (behind_out a) → Linked work a.first.now (listed_in a) 0 →
    imports_in a ≡ places_in l → ChartedBoth work out a
charted-all work out l a i w e =
    record {
      charted = record { listed = subst (λ (ps : List Place). Listed work ps (behind_in a)) (sym e) i.listed; linked = w };
      paired = subst (λ (ps : List Place). Paired work out ps (behind_in a) (behind_out a)) (sym e) i.paired;
    }
