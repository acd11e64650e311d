-- What a store into the arrays of a scope does to the modules that they stand for.
use Prim.Native.Nat.{ℕ, zero, suc, ◌+◌, ◌*◌, ◌/◌, ◌%◌, ◌≤◌, ◌<◌, min}
use native.Mathlib.Omega.{arith}
use native.Mathlib.Nat.{add-zero}
use mathlib.Core.Path.{◌≡◌, refl, sym, ap, ◌∙◌}
use mathlib.Core.Bool.{Bool, true, false, cond}
use mathlib.Core.List.{List, [], ◌∷◌, ◌++◌, map}
use Rattle.std.specs.Prelude.{Option, None, Some, Ok, Err, position}
use Rattle.std.specs.List.{position_from}
use Rattle.std.proofs.lemmas.Iterator.Adapters.{position_from-zero}
use lib.Dec.{eqb}
use borrow.Author.Tests.{eq-eqb, ne_eqb}
use lib.ListN.{length, get_or, take, drop, set, length-set, length-drop}
use lib.Seq.{get_or-set_same, get_or-set_other, drop-cons}
use Rattle.scope.specs.declared.Mark.{Mark}
use Rattle.scope.specs.declared.Mark.TheVariants.{Loaded, Stored, Cjs, Wrapping}
use Rattle.scope.specs.Modules.{Modules, next, place_of, number_of, too_many_files, Generated, generated_by, gen, files_in, request_all, unmarked, with_mark, marked, set_mark, is_marked}
use Rattle.scope.proofs.Laws.{gen-added, request-all-more, request-all-stops, cells-agree, cells-more}
use Rattle.scope.specs.ScopeValue.{rank_of, slot_of, file_number, module_at, stored, modules_from, modules_of, modules_in, generated, file_refusal}
use Rattle.scope.specs.declared.id.FileName.{FileName}
use Rattle.scope.specs.declared.Scope.{Scope}
use Rattle.scope.specs.declared.Gen.{Gen}
use Rattle.scope.specs.declared.Numbers.{Numbers}
use Rattle.scope.specs.declared.TooManyFiles.{TooManyFiles}

pub from-length : (k n : ℕ) (fs : List FileName) (ms : List Bool) → length (modules_from k n fs ms) ≡ k
unfolding modules_from
from-length zero n fs ms = refl
from-length (suc k) n fs ms = ap suc (from-length k (suc n) fs ms)

-- arrays that agree on the modules stand for the same
pub from-agree : (k n : ℕ) (fs fs' : List FileName) (ms ms' : List Bool) → ((j : ℕ) → n ≤ j → j < n + k → module_at fs' ms' j ≡ module_at fs ms j) →
    modules_from k n fs' ms' ≡ modules_from k n fs ms
unfolding modules_from
from-agree zero n fs fs' ms ms' h = refl
from-agree (suc k) n fs fs' ms ms' h =
    let e = h n (omega arith) (omega arith) in
    let es = from-agree k (suc n) fs fs' ms ms' (λ j a b. h j (omega arith) (omega arith)) in
    cc

-- one module more
pub from-more : (k n : ℕ) (fs : List FileName) (ms : List Bool) → modules_from (suc k) n fs ms ≡ modules_from k n fs ms ++ (module_at fs ms (n + k) ∷ [])
unfolding modules_from
from-more zero n fs ms = rw add-zero
from-more (suc k) n fs ms = ap (λ (l : Modules). module_at fs ms n ∷ l) (from-more k (suc n) fs ms ∙ ap (λ (i : ℕ). modules_from k (suc n) fs ms ++ (module_at fs ms i ∷ [])) (omega arith))

pub from-files : (k n : ℕ) (fs : List FileName) (ms : List Bool) → n + k ≤ length fs → map (λ m. m.file) (modules_from k n fs ms) ≡ map file_number (take k (drop n fs))
unfolding modules_from
from-files zero n fs ms h = refl
from-files (suc k) n fs ms h = rw (drop-cons fs n (record { 0 = 0 }) (omega arith)) (ap (λ (l : List ℕ). file_number (get_or fs n (record { 0 = 0 })) ∷ l) (from-files k (suc n) fs ms (omega arith)))

pub from-marked : (c : Mark) (k n i : ℕ) (fs : List FileName) (ms : List Bool) → i < k → is_marked c i (modules_from k n fs ms) ≡ marked c (module_at fs ms (n + i))
unfolding modules_from is_marked
from-marked c zero n i fs ms h = absurd (omega arith)
from-marked c (suc k) n zero fs ms h = rw add-zero
from-marked c (suc k) n (suc i) fs ms h = from-marked c k (suc n) i fs ms (omega arith) ∙ ap (λ (j : ℕ). marked c (module_at fs ms j)) (omega arith)

-- ---- A store of a mark

slot-same : (ms : List Bool) (c : Mark) (n : ℕ) (v : Bool) → length ms ≡ 1024 → n < 256 → rank_of c < 4 → get_or (set ms (slot_of c n) v) (slot_of c n) false ≡ v
slot-same ms c n v l h r = get_or-set_same ms (slot_of c n) v false (omega arith)

slot-other : (ms : List Bool) (c d : Mark) (n j : ℕ) (v : Bool) → n < 256 → j < 256 → ((rank_of d ≡ rank_of c) → j ≡ n → ⊥) →
    get_or (set ms (slot_of c n) v) (slot_of d j) false ≡ get_or ms (slot_of d j) false
slot-other ms c d n j v a b h = get_or-set_other ms (slot_of c n) (slot_of d j) v false (λ e. h (omega arith) (omega arith))

module-other : (fs : List FileName) (ms : List Bool) (c : Mark) (n j : ℕ) (v : Bool) → n < 256 → j < 256 → (j ≡ n → ⊥) →
    module_at fs (set ms (slot_of c n) v) j ≡ module_at fs ms j
module-other fs ms c n j v a b h =
    cc (slot-other ms c Loaded n j v a b (λ _. h), slot-other ms c Stored n j v a b (λ _. h), slot-other ms c Cjs n j v a b (λ _. h), slot-other ms c Wrapping n j v a b (λ _. h))

module-marked : (fs : List FileName) (ms : List Bool) (c : Mark) (n : ℕ) → length ms ≡ 1024 → n < 256 → module_at fs (set ms (slot_of c n) true) n ≡ with_mark c (module_at fs ms n)
module-marked fs ms Loaded n l a =
    cc (
      slot-same ms Loaded n true l a (omega arith),
      slot-other ms Loaded Stored n n true a a (λ e _. omega arith),
      slot-other ms Loaded Cjs n n
          true a a (λ e _. omega arith),
      slot-other ms Loaded Wrapping n n true a a (λ e _. omega arith),
    )
module-marked fs ms Stored n l a =
    cc (
      slot-other ms Stored Loaded n n true a a (λ e _. omega arith),
      slot-same ms Stored n true l a (omega arith),
      slot-other ms Stored Cjs n n
          true a a (λ e _. omega arith),
      slot-other ms Stored Wrapping n n true a a (λ e _. omega arith),
    )
module-marked fs ms Cjs n l a =
    cc (
      slot-other ms Cjs Loaded n n true a a (λ e _. omega arith),
      slot-other ms Cjs Stored n n true a a (λ e _. omega arith),
      slot-same ms Cjs n
          true l a (omega arith),
      slot-other ms Cjs Wrapping n n true a a (λ e _. omega arith),
    )
module-marked fs ms Wrapping n l a =
    cc (
      slot-other ms Wrapping Loaded n n true a a (λ e _. omega arith),
      slot-other ms Wrapping Stored n n true a a (λ e _. omega arith),
      slot-other
          ms Wrapping Cjs n n true a a (λ e _. omega arith),
      slot-same ms Wrapping n true l a (omega arith),
    )

pub from-set : (c : Mark) (k n i : ℕ) (fs : List FileName) (ms : List Bool) → length ms ≡ 1024 → i < k → n + k ≤ 256 →
    modules_from k n fs (set ms (slot_of c (n + i)) true) ≡ set_mark c i (modules_from k n fs ms)
unfolding modules_from set_mark
from-set c zero n i fs ms l h b = absurd (omega arith)
from-set c (suc k) n zero fs ms l h b =
    let e = module-marked fs ms c n l (omega arith) in
    let es = from-agree k (suc n) fs fs ms (set ms (slot_of c n) true) (λ j p q. module-other fs ms c n j true (omega arith) (omega arith) (λ z. omega arith)) in
    rw add-zero (cc)
from-set c (suc k) n (suc i) fs ms l h b =
    let e = module-other fs ms c (n + suc i) n true (omega arith) (omega arith) (λ z. omega arith) in
    let es = from-set c k (suc n) i fs ms l (omega arith) (omega arith) in
    let z : suc n + i ≡ n + suc i = omega arith in
    cc

-- ---- One module more

-- the marks with module n's set to these
abbrev pub remarked : List Bool → ℕ → Bool → Bool → Bool → Bool → List Bool
remarked ms n a b c d = set (set (set (set ms (slot_of Loaded n) a) (slot_of Stored n) b) (slot_of Cjs n) c) (slot_of Wrapping n) d

module _ (ms : List Bool) (n : ℕ) (a b c d : Bool) (l : length ms ≡ 1024) (h : n < 256) where
  abbrev one : List Bool
  one = set ms (slot_of Loaded n) a

  abbrev two : List Bool
  two = set one (slot_of Stored n) b

  abbrev three : List Bool
  three = set two (slot_of Cjs n) c

  abbrev four : List Bool
  four = remarked ms n a b c d

  mark-cjs : get_or four (slot_of Cjs n) false ≡ c
  mark-cjs = slot-other three Wrapping Cjs n n d h h (λ e _. omega arith) ∙ slot-same two Cjs n c (simp length-set l) h (omega arith)

  mark-stored : get_or four (slot_of Stored n) false ≡ b
  mark-stored =
      slot-other three Wrapping Stored n n d h h (λ e _. omega arith) ∙
      slot-other two Cjs Stored n n c h h (λ e _. omega arith) ∙
      slot-same one Stored n b (simp length-set l) h (omega arith)

  mark-loaded : get_or four (slot_of Loaded n) false ≡ a
  mark-loaded =
      slot-other three Wrapping Loaded n n d h h (λ e _. omega arith) ∙
      slot-other two Cjs Loaded n n c h h (λ e _. omega arith) ∙
      slot-other one Stored Loaded n n b h h (λ e _. omega arith) ∙
      slot-same ms Loaded n a l h (omega arith)

  module-put : (fs : List FileName) (f : FileName) → n < length fs → module_at (set fs n f) four n ≡ record { file = f.0; loaded = a; stored = b; cjs = c; wrapping = d }
  module-put fs f k = cc (get_or-set_same fs n f (record { 0 = 0 }) k, mark-loaded, mark-stored, mark-cjs, slot-same three Wrapping n d (simp length-set l) h (omega arith))

  module-kept : (fs : List FileName) (f : FileName) (j : ℕ) → j < n → module_at (set fs n f) four j ≡ module_at fs ms j
  module-kept fs f j k =
      let e : j ≡ n → ⊥ = λ z. omega arith in
      let g = get_or-set_other fs n j f (record { 0 = 0 }) e in
      let p = module-other fs ms Loaded n j a h (omega arith) e in
      let q = module-other fs one Stored n j b h (omega arith) e in
      let r = module-other fs two Cjs n j c h (omega arith) e in
      let w = module-other fs three Wrapping n j d h (omega arith) e in
      ap (λ (x : FileName). record {
        file = x.0;
        loaded = get_or four (slot_of Loaded j) false;
        stored = get_or four (slot_of Stored j) false;
        cjs =
            get_or four (slot_of Cjs j) false;
        wrapping = get_or four (slot_of Wrapping j) false;
      }) g ∙ w ∙ r ∙ q ∙ p

  pub from-put : (fs : List FileName) (f : FileName) → n < length fs →
      modules_from (suc n) 0 (set fs n f) four ≡ modules_from n 0 fs ms ++ (record { file = f.0; loaded = a; stored = b; cjs = c; wrapping = d } ∷ [])
  from-put fs f k =
      let m = from-more n 0 (set fs n f) four in
      let o = from-agree n 0 fs (set fs n f) ms four (λ j p q. module-kept fs f j (omega arith)) in
      let u = module-put fs f k in
      let z : 0 + n ≡ n = omega arith in
      cc

pub from-added : (ms : List Bool) (n : ℕ) → length ms ≡ 1024 → n < 256 → (fs : List FileName) (f : FileName) → n < length fs →
    modules_from (min (n + 1) 256) 0 (set fs n f) (remarked ms n false false false false) ≡ modules_from n 0 fs ms ++ (unmarked f.0 ∷ [])
from-added ms n l h fs f k =
    let e : min (n + 1) 256 ≡ suc n = omega arith in
    let m = from-put ms n false false false false l h fs f k in
    cc

-- ---- Modules in cells

-- a module is taken from its two cells
pub cells-taken : (t : List ℕ) (fs : List FileName) (ms : List Bool) (base n : ℕ) (f : FileName) (p q r s : ℕ) (a b c d : Bool) → length fs ≡ 256 → length ms ≡ 1024 → n < 256 →
    f.0 ≡ get_or t (base + 2 * n) 0 % 65536 →
    a ≡ eqb (get_or t (base + 2 * n + 1) 0 % 2) 1 →
    b ≡ eqb (get_or t (base + 2 * n + 1) 0 / 2 % 2) 1 →
    c ≡ eqb (get_or t (base + 2 * n + 1) 0 / 4 % 2) 1 →
    d ≡ eqb (get_or t (base + 2 * n + 1) 0 / 8 % 2) 1 →
    p ≡ slot_of Loaded n → q ≡ slot_of Stored n → r ≡ slot_of Cjs n → s ≡ slot_of Wrapping n →
    modules_from n 0 fs ms ≡ modules_in n base t →
    modules_from (n + 1) 0 (set fs n f) (set (set (set (set ms p a) q b) r c) s d) ≡ modules_in (n + 1) base t
cells-taken t fs ms base n f p q r s a b c d lf lm h ef ea eb ec ed ep eq er es e =
    let m = from-put ms n a b c d lm h fs f (omega arith) in
    let o = cells-more n base t in
    let z : n + 1 ≡ suc n = omega arith in
    cc

-- a module is put into its two cells
pub cells-put : (t : List ℕ) (fs : List FileName) (ms : List Bool) (base n f m p q r s : ℕ) → base + 2 * n + 2 ≤ length t → f ≡ file_number (get_or fs n (record { 0 = 0 })) → f < 65536 →
    eqb (m % 2) 1 ≡ get_or ms p false →
    eqb (m / 2 % 2) 1 ≡ get_or ms q false →
    eqb (m / 4 % 2) 1 ≡ get_or ms r false →
    eqb (m / 8 % 2) 1 ≡ get_or ms s false →
    p ≡ slot_of Loaded n → q ≡ slot_of Stored n → r ≡ slot_of Cjs n → s ≡ slot_of Wrapping n →
    modules_in n base t ≡ modules_from n 0 fs ms →
    modules_in (n + 1) base (set (set t (base + 2 * n) f) (base + 2 * n + 1) m) ≡ modules_from (n + 1) 0 fs ms
cells-put t fs ms base n f m p q r s h ef hf ea eb ec ed ep eq er es e =
    let t' = set t (base + 2 * n) f in
    let o = cells-more n base (set t' (base + 2 * n + 1) m) in
    let g =
    cells-agree n base t (set t' (base + 2 * n + 1) m)
    (λ j lo hi. get_or-set_other t' (base + 2 * n + 1) j m 0 (λ x. omega arith) ∙ get_or-set_other t (base + 2 * n) j f 0 (λ x. omega arith)) in
    let x = get_or-set_other t' (base + 2 * n + 1) (base + 2 * n) m 0 (λ w. omega arith) ∙ get_or-set_same t (base + 2 * n) f 0 (omega arith) in
    let y = get_or-set_same t' (base + 2 * n + 1) m 0 (simp length-set (omega arith)) in
    let v : f % 65536 ≡ f = omega arith in
    let k = from-more n 0 fs ms in
    let z : n + 1 ≡ suc n = omega arith in
    let u : 0 + n ≡ n = omega arith in
    cc

low-bit : (a : Bool) (x y : ℕ) → x ≡ cond a 1 0 → eqb ((x + 2 * y) % 2) 1 ≡ a
low-bit true x y e = eq-eqb ((x + 2 * y) % 2) 1 (omega arith)
low-bit false x y e = ne_eqb ((x + 2 * y) % 2) 1 (λ w. omega arith)

-- four bits are read back
pub bits-back : (a b c d : Bool) (x y z w r : ℕ) → x ≡ cond a 1 0 → x ≤ 1 → y ≡ cond b 1 0 → y ≤ 1 → z ≡ cond c 1 0 → z ≤ 1 → w ≡ cond d 1 0 → w ≤ 1 →
    r ≡ x + 2 * y + 4 * z + 8 * w → (eqb (r % 2) 1 ≡ a) × (eqb (r / 2 % 2) 1 ≡ b) × (eqb (r / 4 % 2) 1 ≡ c) × (eqb (r / 8 % 2) 1 ≡ d) × (r < 16)
bits-back a b c d x y z w r ex hx ey hy ez hz ew hw e =
    let i : r ≡ x + 2 * (y + 2 * z + 4 * w) = omega arith in
    let j : r / 2 ≡ y + 2 * (z + 2 * w) = omega arith in
    let k : r / 4 ≡ z + 2 * w = omega arith in
    let l : r / 8 ≡ w + 2 * 0 = omega arith in
    (rw i (low-bit a x _ ex), rw j (low-bit b y _ ey), rw k (low-bit c z _ ez), rw l (low-bit d w 0 ew), omega arith)

-- ---- The place of a file

abbrev pub shifted : ℕ → Option ℕ → Option ℕ
shifted i None = None
shifted i (Some n) = Some (i + n)

pub shifted-none : (o : Option ℕ) → shifted 0 o ≡ o
shifted-none None = refl
shifted-none (Some n) = ap Some (omega arith)

shifted-next : (i : ℕ) (o : Option ℕ) → shifted i (next o) ≡ shifted (i + 1) o
shifted-next i None = refl
shifted-next i (Some n) = ap Some (omega arith)

-- the place by the rule is the first position at which an equal file stands
placed-from : (f : FileName) (i : ℕ) (l : List FileName) → position_from (λ g. eqb f.0 g.0) i l ≡ shifted i (place_of f.0 (map file_number l))
unfolding place_of
placed-from f i [] = refl
placed-from f i (g ∷ l) = by (eqb f.0 g.0) (placed-from f (i + 1) l)
  where
    by : (b : Bool) → position_from (λ g. eqb f.0 g.0) (i + 1) l ≡ shifted (i + 1) (place_of f.0 (map file_number l)) →
        cond b (Some i) (position_from (λ g. eqb f.0 g.0) (i + 1) l) ≡ shifted i (cond b (Some zero) (next (place_of f.0 (map file_number l))))
    by true e = ap Some (omega arith)
    by false e = e ∙ sym (shifted-next i (place_of f.0 (map file_number l)))

pub placed : (f : FileName) (l : List FileName) → position (λ g. eqb f.0 g.0) l ≡ place_of f.0 (map file_number l)
placed f l = position_from-zero (λ g. eqb f.0 g.0) l ∙ placed-from f 0 l ∙ shifted-none (place_of f.0 (map file_number l))

-- ---- A whole scope

pub modules-length : (s : Scope) → length (modules_of s) ≡ min s.count 256
unfolding modules_of
modules-length s = from-length (min s.count 256) 0 s.files s.marks

modules-number : (s : Scope) (f : ℕ) → length s.files ≡ 256 → number_of f (modules_of s) ≡ place_of f (map file_number (take (min s.count 256) s.files))
unfolding modules_of number_of
modules-number s f l = ap (place_of f) (from-files (min s.count 256) 0 s.files s.marks (omega arith))

-- what the search among the files found is the file's number
pub found-number : (s : Scope) (f n : ℕ) (p : Option ℕ) → length s.files ≡ 256 → n ≡ min s.count 256 → p ≡ place_of f (map file_number (take n s.files)) →
    number_of f (modules_of s) ≡ p
found-number s f n p l e h = modules-number s f l ∙ ap (λ (k : ℕ). place_of f (map file_number (take k s.files))) (sym e) ∙ sym h

kept-mark : (k : Mark) (fs : List FileName) (ms : List Bool) (n : ℕ) → marked k (module_at fs ms n) ≡ get_or ms (slot_of k n) false
kept-mark Loaded fs ms n = refl
kept-mark Stored fs ms n = refl
kept-mark Cjs fs ms n = refl
kept-mark Wrapping fs ms n = refl

pub modules-marked : (s : Scope) (k : Mark) (n : ℕ) → n < min s.count 256 → is_marked k n (modules_of s) ≡ get_or s.marks (slot_of k n) false
unfolding modules_of
modules-marked s k n h =
    from-marked k (min s.count 256) 0 n s.files s.marks h ∙
    kept-mark k s.files s.marks (0 + n) ∙
    ap (λ (i : ℕ). get_or s.marks (slot_of k i) false) (omega arith)

pub modules-set : (s : Scope) (k : Mark) (n : ℕ) → length s.marks ≡ 1024 → n < min s.count 256 → modules_of (stored s k n true) ≡ set_mark k n (modules_of s)
unfolding modules_of
modules-set s k n l h =
    ap (λ (i : ℕ). modules_from (min s.count 256) 0 s.files (set s.marks (slot_of k i) true)) (omega arith) ∙
    from-set k (min s.count 256) 0 n s.files s.marks l h (omega arith)

pub modules-first : (s : Scope) (n : ℕ) → n ≡ min s.count 256 → modules_from n 0 s.files s.marks ≡ modules_of s
unfolding modules_of
modules-first s n e = ap (λ (k : ℕ). modules_from k 0 s.files s.marks) e

pub modules-added : (s a : Scope) (f : FileName) (n : ℕ) → n ≡ min s.count 256 → n < 256 → number_of f.0 (modules_of s) ≡ None →
    modules_of a ≡ modules_from n 0 s.files s.marks ++ (unmarked f.0 ∷ []) → generated_by (Some (n, modules_of a)) [] ≡ gen f (modules_of s)
modules-added s a f n e h o m =
    let l = modules-length s in
    let w : modules_from n 0 s.files s.marks ≡ modules_of s = modules-first s n e in
    let g = gen-added f (modules_of s) o (omega arith) in
    cc

-- ---- Files of a list

pub files-two : (l : List ℕ) (i : ℕ) → i + 2 ≤ length l → files_in (drop i l) ≡ (get_or l i 0 * 256 + get_or l (i + 1) 0) ∷ files_in (drop (i + 2) l)
unfolding files_in
files-two l i h =
    let one = drop-cons l i 0 (omega arith) in
    let two = drop-cons l (suc i) 0 (omega arith) in
    let a : suc i ≡ i + 1 = omega arith in
    let b : suc (suc i) ≡ i + 2 = omega arith in
    rw (one, two) (cc)

short-none : (l : List ℕ) → length l < 2 → files_in l ≡ []
unfolding files_in
short-none [] h = refl
short-none (a ∷ []) h = refl
short-none (a ∷ (b ∷ l)) h = absurd (omega arith)

pub files-none : (l : List ℕ) (i : ℕ) → length l < i + 2 → files_in (drop i l) ≡ []
files-none l i h = short-none (drop i l) (simp length-drop (omega arith))

module _ (l : List ℕ) (i : ℕ) (f : FileName) (ms : Modules) (g : Gen) (h : i + 2 ≤ length l) (w : f.0 ≡ get_or l i 0 * 256 + get_or l (i + 1) 0) (e : generated g ≡ gen f ms) where
  here : request_all (files_in (drop i l)) ms ≡ request_all (f.0 ∷ files_in (drop (i + 2) l)) ms
  here = rw (files-two l i h, ← w)

  pub list-goes-on : {n : Numbers} → g.answer ≡ Ok n → request_all (files_in (drop i l)) ms ≡ request_all (files_in (drop (i + 2) l)) (modules_of g.scope)
  list-goes-on {n} a =
      let r : (gen f ms).refusal ≡ None = ap (λ (x : Generated). x.refusal) (sym e) ∙ ap file_refusal a in
      let m : (gen f ms).modules ≡ modules_of g.scope = ap (λ (x : Generated). x.modules) (sym e) in
      here ∙ request-all-more f (files_in (drop (i + 2) l)) ms r ∙ ap (request_all (files_in (drop (i + 2) l))) m

  pub list-stops : {t : TooManyFiles} → g.answer ≡ Err t → request_all (files_in (drop i l)) ms ≡ record { modules = modules_of g.scope; refusal = Some too_many_files }
  list-stops {t} a =
      let r : (gen f ms).refusal ≡ Some too_many_files = ap (λ (x : Generated). x.refusal) (sym e) ∙ ap file_refusal a in
      let m : (gen f ms).modules ≡ modules_of g.scope = ap (λ (x : Generated). x.modules) (sym e) in
      here ∙ request-all-stops f (files_in (drop (i + 2) l)) ms r ∙ ap (λ (x : Modules). record { modules = x; refusal = Some too_many_files }) m

pub list-ends : (l : List ℕ) (i : ℕ) (ms : Modules) → length l < i + 2 → request_all (files_in (drop i l)) ms ≡ record { modules = ms; refusal = None }
unfolding request_all
list-ends l i ms h = rw (files-none l i h)
