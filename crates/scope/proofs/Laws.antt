-- Laws of a scope's modules, for whoever calls the scope: requests never renumber and keep marks, marks keep numbers, one mark changes no other,
-- contexts tell modules apart, and what stands in cells.
use Prim.Native.Nat.{ℕ, zero, suc, ◌+◌, ◌*◌, ◌≤◌, ◌<◌}
use native.Mathlib.Omega.{arith}
use native.Mathlib.Nat.{add-zero}
use mathlib.Core.Path.{◌≡◌, refl, sym, ap, subst, ◌∙◌}
use mathlib.Core.Bool.{Bool, true, false, cond}
use mathlib.Core.List.{List, [], ◌∷◌, ◌++◌, map}
use Rattle.std.specs.Prelude.{Option, None, Some}
use lib.Dec.{ltb, eqb}
use lib.ListN.{length, length-append, get_or, set, length-set}
use lib.Seq.{get_or-set_same, get_or-set_other}
use borrow.Author.Tests.{lt-ltb, le-ltb, eq-eqb, ltb-true, ltb-false}
use Rattle.scope.specs.declared.id.ModuleId.{ModuleId}
use Rattle.scope.specs.declared.id.FileName.{FileName}
use Rattle.scope.specs.declared.id.Id.{Id}
use Rattle.scope.specs.declared.Mark.{Mark}
use Rattle.scope.specs.declared.Mark.TheVariants.{Loaded, Stored, Cjs, Wrapping}
use Rattle.scope.specs.Id.{local, export}
use Rattle.scope.specs.Modules.{Module, Modules, next, place_of, number_of, unmarked, request_by, request, too_many_files, generated_by, gen, Left, go_on}
use Rattle.scope.specs.Modules.{request_all, marked, with_mark, is_marked, set_mark, given, not_given, marking, done, refused, read_mark, esm_id, wrapped_esm_id}
use Rattle.scope.specs.ScopeValue.{module_by, modules_in, Rewrites}

-- ---- Contexts: distinct modules have distinct contexts, and local and export contexts never meet each other or 0

pub local-apart : (m n : ℕ) → local m ≡ local n → m ≡ n
local-apart m n e = omega arith

pub export-apart : (m n : ℕ) → export m ≡ export n → m ≡ n
export-apart m n e = omega arith

pub local-not-export : (m n : ℕ) → local m ≡ export n → ⊥
local-not-export m n e = omega arith

pub local-not-empty : (n : ℕ) → local n ≡ 0 → ⊥
local-not-empty n e = omega arith

pub export-not-empty : (n : ℕ) → export n ≡ 0 → ⊥
export-not-empty n e = omega arith

-- ---- Places of files

pub none-some : {A B : Type 0} {b : B} → None ≡ Some b → A
none-some {b = b} e = absurd (let z : ◌≡◌ {A = ℕ} 0 1 = cc in omega arith)

-- the first place, or one behind a place further on
here-or-on : (P : ℕ → Type 0) (b : Bool) (o : Option ℕ) → P zero → ((m : ℕ) → o ≡ Some m → P (suc m)) → {n : ℕ} → cond b (Some zero) (next o) ≡ Some n → P n
here-or-on P true o z s {n} e = subst P (let q : zero ≡ n = cc in q) z
here-or-on P false None z s e = none-some e
here-or-on P false (Some m) z s {n} e = subst P (let q : suc m ≡ n = cc in q) (s m refl)

-- a file's place is below the number of files
pub place-below : (f : ℕ) (l : List ℕ) {n : ℕ} → place_of f l ≡ Some n → n < length l
unfolding place_of
place-below f [] e = none-some e
place-below f (g ∷ l) e = here-or-on (λ n. n < suc (length l)) (eqb f g) (place_of f l) (omega arith) (λ m q. let h = place-below f l q in omega arith) e

placed-on : (b : Bool) (o o' : Option ℕ) → ((n : ℕ) → o ≡ Some n → o' ≡ Some n) → {n : ℕ} → cond b (Some zero) (next o) ≡ Some n → cond b (Some zero) (next o') ≡ Some n
placed-on true o o' h e = e
placed-on false None o' h e = none-some e
placed-on false (Some m) o' h e = ap next (h m refl) ∙ e

-- a place stays where files are appended
pub place-stays : (f : ℕ) (l r : List ℕ) {n : ℕ} → place_of f l ≡ Some n → place_of f (l ++ r) ≡ Some n
unfolding place_of
place-stays f [] r e = none-some e
place-stays f (g ∷ l) r e = placed-on (eqb f g) (place_of f l) (place_of f (l ++ r)) (λ n q. place-stays f l r q) e

placed-last : (b : Bool) (o o' : Option ℕ) (n : ℕ) → (o ≡ None → o' ≡ Some n) → cond b (Some zero) (next o) ≡ None → cond b (Some zero) (next o') ≡ Some (suc n)
placed-last true o o' n h e = none-some (sym e)
placed-last false None o' n h e = ap next (h refl)
placed-last false (Some m) o' n h e = none-some (sym e)

-- a file that stands nowhere stands where it is appended
pub place-last : (f : ℕ) (l : List ℕ) → place_of f l ≡ None → place_of f (l ++ (f ∷ [])) ≡ Some (length l)
unfolding place_of
place-last f [] e = rw (eq-eqb f f refl)
place-last f (g ∷ l) e = placed-last (eqb f g) (place_of f l) (place_of f (l ++ (f ∷ []))) (length l) (λ q. place-last f l q) e

-- ---- Requests

files-append : (ms : Modules) (m : Module) → map (λ k. k.file) (ms ++ (m ∷ [])) ≡ map (λ k. k.file) ms ++ (m.file ∷ [])
files-append [] m = refl
files-append (k ∷ ms) m = ap (λ (l : List ℕ). k.file ∷ l) (files-append ms m)

files-length : (ms : Modules) → length (map (λ m. m.file) ms) ≡ length ms
files-length [] = refl
files-length (m ∷ ms) = ap suc (files-length ms)

-- a number is below the count
pub number-below : (f : ℕ) (ms : Modules) {n : ℕ} → number_of f ms ≡ Some n → n < length ms
unfolding number_of
number-below f ms e = let h = place-below f (map (λ m. m.file) ms) e in let l = files-length ms in omega arith

-- a request finds the file's number, or gives the next one, or is refused: whatever holds in these three cases holds of it
request_by-cases : (o : Option ℕ) (f : ℕ) (ms : Modules) (P : Option (ℕ × Modules) → Type 0) →
    ((n : ℕ) → o ≡ Some n → P (Some (n, ms))) →
    (o ≡ None → length ms < 256 → P (Some (length ms, ms ++ (unmarked f ∷ [])))) →
    (o ≡ None → 256 ≤ length ms → P None) → P (request_by o f ms)
request_by-cases (Some n) f ms P found more full = found n refl
request_by-cases None f ms P found more full = room (ltb (length ms) 256) refl
  where
    room : (b : Bool) → ltb (length ms) 256 ≡ b → P (cond b (Some (length ms, ms ++ (unmarked f ∷ []))) None)
    room true t = more refl (ltb-true (length ms) 256 t)
    room false t = full refl (ltb-false (length ms) 256 t)

pub request-cases : (f : ℕ) (ms : Modules) (P : Option (ℕ × Modules) → Type 0) →
    ((n : ℕ) → number_of f ms ≡ Some n → P (Some (n, ms))) →
    (number_of f ms ≡ None → length ms < 256 → P (Some (length ms, ms ++ (unmarked f ∷ [])))) →
    (number_of f ms ≡ None → 256 ≤ length ms → P None) → P (request f ms)
unfolding request
request-cases f ms P found more full = request_by-cases (number_of f ms) f ms P found more full

-- a law of an accepted request: it is shown for a file that has a number and for one that gets the next
accepted : (f : ℕ) (ms : Modules) (Q : ℕ → Modules → Type 0) →
    ((n : ℕ) → number_of f ms ≡ Some n → Q n ms) →
    (number_of f ms ≡ None → length ms < 256 → Q (length ms) (ms ++ (unmarked f ∷ []))) → {n : ℕ} {ms' : Modules} → request f ms ≡ Some (n, ms') → Q n ms'
accepted f ms Q found more {n} {ms'} =
    request-cases f ms (λ r. r ≡ Some (n, ms') → Q n ms')
    (λ m e q. subst (λ (x : ℕ × Modules). Q x.0 x.1) (let z : (m, ms) ≡ (n, ms') = cc in z) (found m e))
    (λ e h q. subst (λ (x : ℕ × Modules). Q x.0 x.1) (let z : (length ms, ms ++ (unmarked f ∷ [])) ≡ (n, ms') = cc in z) (more e h))
    (λ e h q. absurd (let z : ◌≡◌ {A = ℕ} 0 1 = cc in omega arith))

-- a number given is below the count, and the count at most 256
pub request-below : (f : ℕ) (ms : Modules) {n : ℕ} {ms' : Modules} → request f ms ≡ Some (n, ms') → n < length ms'
request-below f ms =
    accepted f ms (λ n ms'. n < length ms') (λ n e. number-below f ms e) (λ e h. let l = length-append ms (unmarked f ∷ []) in omega arith)

pub request-count : (f : ℕ) (ms : Modules) {n : ℕ} {ms' : Modules} → request f ms ≡ Some (n, ms') → length ms ≤ 256 → length ms' ≤ 256
request-count f ms =
    accepted f ms (λ n ms'. length ms ≤ 256 → length ms' ≤ 256) (λ n e b. b) (λ e h b. let l = length-append ms (unmarked f ∷ []) in omega arith)

-- a request never renumbers
pub request-keeps-numbers : (f : ℕ) (ms : Modules) {n : ℕ} {ms' : Modules} → request f ms ≡ Some (n, ms') → (g k : ℕ) → number_of g ms ≡ Some k → number_of g ms' ≡ Some k
unfolding number_of
request-keeps-numbers f ms =
    accepted f ms (λ n ms'. (g k : ℕ) → number_of g ms ≡ Some k → number_of g ms' ≡ Some k)
    (λ n e g k q. q)
    (λ e h g k q. rw (files-append ms (unmarked f)) (place-stays g (map (λ m. m.file) ms) (f ∷ []) q))

-- a requested file is found again with the same number, and asking again changes nothing
pub request-numbers : (f : ℕ) (ms : Modules) {n : ℕ} {ms' : Modules} → request f ms ≡ Some (n, ms') → number_of f ms' ≡ Some n
unfolding number_of
request-numbers f ms =
    accepted f ms (λ n ms'. number_of f ms' ≡ Some n)
    (λ n e. e)
    (λ e h. rw (files-append ms (unmarked f)) (place-last f (map (λ m. m.file) ms) e ∙ ap Some (files-length ms)))

pub request-again : (f : ℕ) (ms : Modules) {n : ℕ} → number_of f ms ≡ Some n → request f ms ≡ Some (n, ms)
unfolding request
request-again f ms e = rw e

-- ---- Marks

pub marks-append : (k : Mark) (n : ℕ) (ms : Modules) (f : ℕ) → is_marked k n (ms ++ (unmarked f ∷ [])) ≡ is_marked k n ms
unfolding is_marked
marks-append Loaded zero [] f = refl
marks-append Stored zero [] f = refl
marks-append Cjs zero [] f = refl
marks-append Wrapping zero [] f = refl
marks-append k (suc n) [] f = refl
marks-append k zero (m ∷ ms) f = refl
marks-append k (suc n) (m ∷ ms) f = marks-append k n ms f

-- a request keeps marks
pub request-keeps-marks : (f : ℕ) (ms : Modules) {n : ℕ} {ms' : Modules} → request f ms ≡ Some (n, ms') → (k : Mark) (m : ℕ) → is_marked k m ms' ≡ is_marked k m ms
request-keeps-marks f ms =
    accepted f ms (λ n ms'. (k : Mark) (m : ℕ) → is_marked k m ms' ≡ is_marked k m ms) (λ n e k m. refl) (λ e h k m. marks-append k m ms f)

-- marks keep files, and so numbers and their count
mark-keeps-file : (k : Mark) (m : Module) → (with_mark k m).file ≡ m.file
mark-keeps-file Loaded m = refl
mark-keeps-file Stored m = refl
mark-keeps-file Cjs m = refl
mark-keeps-file Wrapping m = refl

mark-keeps-files : (k : Mark) (n : ℕ) (ms : Modules) → map (λ m. m.file) (set_mark k n ms) ≡ map (λ m. m.file) ms
unfolding set_mark
mark-keeps-files k n [] = refl
mark-keeps-files k zero (m ∷ ms) = ap (λ (f : ℕ). f ∷ map (λ m. m.file) ms) (mark-keeps-file k m)
mark-keeps-files k (suc n) (m ∷ ms) = ap (λ (l : List ℕ). m.file ∷ l) (mark-keeps-files k n ms)

pub mark-keeps-numbers : (k : Mark) (n : ℕ) (ms : Modules) (f : ℕ) → number_of f (set_mark k n ms) ≡ number_of f ms
unfolding number_of
mark-keeps-numbers k n ms f = ap (place_of f) (mark-keeps-files k n ms)

pub mark-keeps-count : (k : Mark) (n : ℕ) (ms : Modules) → length (set_mark k n ms) ≡ length ms
mark-keeps-count k n ms = sym (files-length (set_mark k n ms)) ∙ ap length (mark-keeps-files k n ms) ∙ files-length ms

-- the mark that was set is read back
with_mark-marked : (k : Mark) (m : Module) → marked k (with_mark k m) ≡ true
with_mark-marked Loaded m = refl
with_mark-marked Stored m = refl
with_mark-marked Cjs m = refl
with_mark-marked Wrapping m = refl

pub mark-marks : (k : Mark) (n : ℕ) (ms : Modules) → n < length ms → is_marked k n (set_mark k n ms) ≡ true
unfolding is_marked set_mark
mark-marks k n [] h = absurd (omega arith)
mark-marks k zero (m ∷ ms) h = with_mark-marked k m
mark-marks k (suc n) (m ∷ ms) h = mark-marks k n ms (omega arith)

-- no other mark changes: none of another module, and none of another kind
pub mark-keeps-modules : (k j : Mark) (n i : ℕ) (ms : Modules) → (i ≡ n → ⊥) → is_marked j i (set_mark k n ms) ≡ is_marked j i ms
unfolding is_marked set_mark
mark-keeps-modules k j n i [] d = refl
mark-keeps-modules k j zero zero (m ∷ ms) d = absurd (d refl)
mark-keeps-modules k j zero (suc i) (m ∷ ms) d = refl
mark-keeps-modules k j (suc n) zero (m ∷ ms) d = refl
mark-keeps-modules k j (suc n) (suc i) (m ∷ ms) d = mark-keeps-modules k j n i ms (λ e. d (ap suc e))

marked-other : (k j : Mark) (m : Module) → (j ≡ k → ⊥) → marked j (with_mark k m) ≡ marked j m
marked-other Loaded Loaded m d = absurd (d refl)
marked-other Loaded Stored m d = refl
marked-other Loaded Cjs m d = refl
marked-other Loaded Wrapping m d = refl
marked-other Stored Loaded m d = refl
marked-other Stored Stored m d = absurd (d refl)
marked-other Stored Cjs m d = refl
marked-other Stored Wrapping m d = refl
marked-other Cjs Loaded m d = refl
marked-other Cjs Stored m d = refl
marked-other Cjs Cjs m d = absurd (d refl)
marked-other Cjs Wrapping m d = refl
marked-other Wrapping Loaded m d = refl
marked-other Wrapping Stored m d = refl
marked-other Wrapping Cjs m d = refl
marked-other Wrapping Wrapping m d = absurd (d refl)

pub mark-keeps-kinds : (k j : Mark) (n i : ℕ) (ms : Modules) → (j ≡ k → ⊥) → is_marked j i (set_mark k n ms) ≡ is_marked j i ms
unfolding is_marked set_mark
mark-keeps-kinds k j n i [] d = refl
mark-keeps-kinds k j zero zero (m ∷ ms) d = marked-other k j m d
mark-keeps-kinds k j zero (suc i) (m ∷ ms) d = refl
mark-keeps-kinds k j (suc n) zero (m ∷ ms) d = refl
mark-keeps-kinds k j (suc n) (suc i) (m ∷ ms) d = mark-keeps-kinds k j n i ms d

-- ---- The calls, case by case

pub gen-known : (f : FileName) (ms : Modules) {n : ℕ} → number_of f.0 ms ≡ Some n → gen f ms ≡ generated_by (Some (n, ms)) ms
unfolding gen request
gen-known f ms e = rw e

pub gen-added : (f : FileName) (ms : Modules) → number_of f.0 ms ≡ None → length ms < 256 → gen f ms ≡ generated_by (Some (length ms, ms ++ (unmarked f.0 ∷ []))) ms
unfolding gen request
gen-added f ms e h = rw (e, lt-ltb (length ms) 256 h)

pub gen-refused : (f : FileName) (ms : Modules) → number_of f.0 ms ≡ None → 256 ≤ length ms → gen f ms ≡ generated_by None ms
unfolding gen request
gen-refused f ms e h = rw (e, le-ltb (length ms) 256 h)

-- a list of files goes on behind a file that is given, and ends at one that is refused
onward : (o : Option (ℕ × Modules)) (rest : Modules → Left) (ms : Modules) → (generated_by o ms).refusal ≡ None → go_on o rest ms ≡ rest (generated_by o ms).modules
onward (Some r) rest ms e = refl
onward None rest ms e = absurd (let z : ◌≡◌ {A = ℕ} 0 1 = cc in omega arith)

pub request-all-more : (f : FileName) (fs : List ℕ) (ms : Modules) → (gen f ms).refusal ≡ None → request_all (f.0 ∷ fs) ms ≡ request_all fs (gen f ms).modules
unfolding request_all gen
request-all-more f fs ms e = onward (request f.0 ms) (λ r. request_all fs r) ms e

stopped : (o : Option (ℕ × Modules)) (rest : Modules → Left) (ms : Modules) → (generated_by o ms).refusal ≡ Some too_many_files →
    go_on o rest ms ≡ record { modules = (generated_by o ms).modules; refusal = Some too_many_files }
stopped (Some r) rest ms e = absurd (let z : ◌≡◌ {A = ℕ} 0 1 = cc in omega arith)
stopped None rest ms e = refl

pub request-all-stops : (f : FileName) (fs : List ℕ) (ms : Modules) → (gen f ms).refusal ≡ Some too_many_files →
    request_all (f.0 ∷ fs) ms ≡ record { modules = (gen f ms).modules; refusal = Some too_many_files }
unfolding request_all gen
request-all-stops f fs ms e = stopped (request f.0 ms) (λ r. request_all fs r) ms e

pub marking-given : (k : Mark) (m : ModuleId) (ms : Modules) → m.0 < length ms → marking k m ms ≡ record { modules = set_mark k m.0 ms; refusal = None }
unfolding marking
marking-given k m ms h = rw (lt-ltb m.0 (length ms) h)

pub marking-refused : (k : Mark) (m : ModuleId) (ms : Modules) → length ms ≤ m.0 → marking k m ms ≡ record { modules = ms; refusal = Some not_given }
unfolding marking
marking-refused k m ms h = rw (le-ltb m.0 (length ms) h)

pub read-given : (k : Mark) (m : ModuleId) (ms : Modules) → m.0 < length ms → read_mark k m ms ≡ done (is_marked k m.0 ms)
unfolding read_mark
read-given k m ms h = rw (lt-ltb m.0 (length ms) h)

pub read-refused : (k : Mark) (m : ModuleId) (ms : Modules) → length ms ≤ m.0 → read_mark k m ms ≡ refused not_given
unfolding read_mark
read-refused k m ms h = rw (le-ltb m.0 (length ms) h)

-- the id of a wrapped module is what reading its two marks says
esm-by : (b x y w v : Bool) (m : ModuleId) → cond b (done x) (refused not_given) ≡ done w → cond b (done y) (refused not_given) ≡ done v →
    cond b (done (esm_id x y m)) (refused not_given) ≡ done (esm_id w v m)
esm-by true x y w v m p q = let a : x ≡ w = cc in let c : y ≡ v = cc in rw (a, c)
esm-by false x y w v m p q = absurd (let z : ◌≡◌ {A = ℕ} 0 1 = cc in omega arith)

pub esm-read : (m : ModuleId) (ms : Modules) (w v : Bool) → read_mark Wrapping m ms ≡ done w → read_mark Stored m ms ≡ done v → wrapped_esm_id m ms ≡ done (esm_id w v m)
unfolding read_mark wrapped_esm_id
esm-read m ms w v p q = esm-by (given m ms) (is_marked Wrapping m.0 ms) (is_marked Stored m.0 ms) w v m p q

esm-none : (b x : Bool) (o : Option Id) → cond b (done x) (refused not_given) ≡ refused not_given → cond b (done o) (refused not_given) ≡ refused not_given
esm-none true x o e = absurd (let z : ◌≡◌ {A = ℕ} 0 1 = cc in omega arith)
esm-none false x o e = refl

pub esm-refused : (k : Mark) (m : ModuleId) (ms : Modules) → read_mark k m ms ≡ refused not_given → wrapped_esm_id m ms ≡ refused not_given
unfolding read_mark wrapped_esm_id
esm-refused k m ms e = esm-none (given m ms) (is_marked k m.0 ms) (esm_id (is_marked Wrapping m.0 ms) (is_marked Stored m.0 ms) m) e

-- ---- Modules in cells

-- cells that agree on the modules stand for the same
pub cells-agree : (k at : ℕ) (t t' : List ℕ) → ((i : ℕ) → at ≤ i → i < at + 2 * k → get_or t' i 0 ≡ get_or t i 0) → modules_in k at t' ≡ modules_in k at t
unfolding modules_in
cells-agree zero at t t' h = refl
cells-agree (suc k) at t t' h =
    let f = h at (omega arith) (omega arith) in
    let m = h (at + 1) (omega arith) (omega arith) in
    let e = cells-agree k (at + 2) t t' (λ i a b. h i (omega arith) (omega arith)) in
    cc

-- one module more
pub cells-more : (k at : ℕ) (t : List ℕ) → modules_in (suc k) at t ≡ modules_in k at t ++ (module_by (get_or t (at + 2 * k) 0) (get_or t (at + 2 * k + 1) 0) ∷ [])
unfolding modules_in
cells-more zero at t = rw add-zero
cells-more (suc k) at t =
    let e = cells-more k (at + 2) t in
    let a : at + 2 + 2 * k ≡ at + 2 * suc k = omega arith in
    cc

-- files in cells are of two bytes, marks of four bits
pub small-put : (t : List ℕ) (base n f m : ℕ) → base + 2 * n + 2 ≤ length t → f < 65536 → m < 16 →
    ((i : ℕ) → i < n → (get_or t (base + 2 * i) 0 < 65536) × (get_or t (base + 2 * i + 1) 0 < 16)) → (i : ℕ) → i < n + 1 →
    (get_or (set (set t (base + 2 * n) f) (base + 2 * n + 1) m) (base + 2 * i) 0 < 65536) × (get_or (set (set t (base + 2 * n) f) (base + 2 * n + 1) m) (base + 2 * i + 1) 0 < 16)
small-put t base n f m h hf hm b i k = by (ltb i n) refl
  where
    by : (c : Bool) → ltb i n ≡ c → (get_or (set (set t (base + 2 * n) f) (base + 2 * n + 1) m) (base + 2 * i) 0 < 65536)
        × (get_or (set (set t (base + 2 * n) f) (base + 2 * n + 1) m) (base + 2 * i + 1) 0 < 16)
    by true e =
        let one = set t (base + 2 * n) f in
        let l = ltb-true i n e in
        let o = b i l in
        let p = get_or-set_other one (base + 2 * n + 1) (base + 2 * i) m 0 (λ x. omega arith) ∙ get_or-set_other t (base + 2 * n) (base + 2 * i) f 0 (λ x. omega arith) in
        let q = get_or-set_other one (base + 2 * n + 1) (base + 2 * i + 1) m 0 (λ x. omega arith) ∙ get_or-set_other t (base + 2 * n) (base + 2 * i + 1) f 0 (λ x. omega arith) in
        omega arith
    by false e =
        let l = ltb-false i n e in
        let z : i ≡ n = omega arith in
        let one = set t (base + 2 * n) f in
        let s = length-set t (base + 2 * n) f in
        let p = get_or-set_other one (base + 2 * n + 1) (base + 2 * n) m 0 (λ x. omega arith) ∙ get_or-set_same t (base + 2 * n) f 0 (omega arith) in
        let q = get_or-set_same one (base + 2 * n + 1) m 0 (omega arith) in
        rw z (omega arith)

-- ---- Cells that are written in one part

pub rewrites-none : (lo hi : ℕ) (t : List ℕ) → Rewrites lo hi t t
rewrites-none lo hi t = record { size = refl; below = λ i h. refl; above = λ i h. refl }

-- one store more
pub rewrites-set : {lo hi : ℕ} {t t' : List ℕ} (i v : ℕ) → lo ≤ i → i < hi → Rewrites lo hi t t' → Rewrites lo hi t (set t' i v)
rewrites-set {t' = t'} i v a b r =
    record {
      size = length-set t' i v ∙ r.size;
      below = λ j h. get_or-set_other t' i j v 0 (λ e. omega arith) ∙ r.below j h;
      above = λ j h. get_or-set_other t' i j v 0 (λ e. omega arith) ∙ r.above j h;
    }
