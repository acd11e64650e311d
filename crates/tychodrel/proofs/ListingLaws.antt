-- A scope's bytes as they are written, cell by cell.
use Prim.Native.Nat.{ℕ, zero, suc, ◌+◌, ◌-◌, ◌*◌, ◌/◌, ◌%◌, ◌≤◌, ◌<◌}
use native.Mathlib.Omega.{arith}
use mathlib.Core.Path.{◌≡◌, refl, sym, ap, ◌∙◌}
use mathlib.Core.List.{List, [], ◌∷◌, ◌++◌}
use mathlib.Core.Logic.{⊎_elim, ◌⊎◌, inl, inr}
use lib.Dec.{eqb}
use lib.ListN.{length, get_or, drop, replicate}
use lib.Seq.{sets, sets-eq}
use borrow.Author.Tests.{eq-eqb, ne_eqb}
use Rattle.scope.specs.Modules.{Modules}
use Rattle.scope.specs.ScopeValue.{modules_in, module_by}
use Rattle.writer.specs.Bytes.{two_bytes}
use Rattle.writer.specs.Wrote.{Wrote}
use Rattle.writer.proofs.Wrote.{wrote-none, wrote-then, wrote-as}
use Rattle.tychodrel.specs.Answer.{bit, marks_of, modules_bytes, listed, scope_bytes}

-- ---- A number's bits

bit-zero : (k : ℕ) → k % 2 ≡ 0 → bit (eqb (k % 2) 1) ≡ k % 2
bit-zero k e = ap bit (ne_eqb (k % 2) 1 (omega arith)) ∙ sym e

bit-one : (k : ℕ) → k % 2 ≡ 1 → bit (eqb (k % 2) 1) ≡ k % 2
bit-one k e = ap bit (eq-eqb (k % 2) 1 e) ∙ sym e

zero-one : (k : ℕ) → k < 2 → (k ≡ 0) ⊎ (k ≡ 1)
zero-one zero h = inl refl
zero-one (suc k) h = inr (omega arith)

bit-is : (k : ℕ) → bit (eqb (k % 2) 1) ≡ k % 2
bit-is k = ⊎_elim (bit-zero k) (bit-one k) (zero-one (k % 2) (omega arith))

marks-are : (f m : ℕ) → marks_of (module_by f m) ≡ m % 16
marks-are f m =
    let a = bit-is m in
    let b = bit-is (m / 2) in
    let c = bit-is (m / 4) in
    let d = bit-is (m / 8) in
    let e : m / 2 ≡ 2 * (m / 4) + m / 2 % 2 = omega arith in
    let g : m / 4 ≡ 2 * (m / 8) + m / 4 % 2 = omega arith in
    let h : m / 8 ≡ 2 * (m / 16) + m / 8 % 2 = omega arith in
    omega arith

-- ---- Modules in cells

pub cells-more : (t : List ℕ) (n i : ℕ) → i < n →
    (two_bytes (get_or t (2 * i) 0 % 65536) ++ (get_or t (2 * i + 1) 0 % 16 ∷ [])) ++ modules_bytes (modules_in (n - (i + 1)) (2 * (i + 1)) t)
    ≡ modules_bytes (modules_in (n - i) (2 * i) t)
unfolding modules_in modules_bytes
cells-more t n i h =
    let e : n - i ≡ suc (n - (i + 1)) = omega arith in
    let f : 2 * (i + 1) ≡ 2 * i + 2 = omega arith in
    rw (e, f, marks-are (get_or t (2 * i) 0) (get_or t (2 * i + 1) 0))

pub cells-end : (t : List ℕ) (n i : ℕ) → n ≤ i → [] ≡ modules_bytes (modules_in (n - i) (2 * i) t)
unfolding modules_in modules_bytes
cells-end t n i h =
    let e : n - i ≡ 0 = omega arith in
    rw e

-- a module is written, and then those behind it
pub module-written : (t : List ℕ) (n i : ℕ) {a b : ℕ} {l m k z : List ℕ} {o p q r : ℕ} → i < n → a ≡ get_or t (2 * i) 0 % 65536 → b ≡ get_or t (2 * i + 1) 0 % 16 →
    Wrote l o (two_bytes a) m p → Wrote m p (b ∷ []) k q → Wrote k q (modules_bytes (modules_in (n - (i + 1)) (2 * (i + 1)) t)) z r →
    Wrote l o (modules_bytes (modules_in (n - i) (2 * i) t)) z r
module-written t n i {a} {b} h e f x y w =
    wrote-as (wrote-then (wrote-then x y) w)
    (ap (λ (v : ℕ). (two_bytes v ++ (b ∷ [])) ++ modules_bytes (modules_in (n - (i + 1)) (2 * (i + 1)) t)) e
    ∙ ap (λ (v : ℕ). (two_bytes (get_or t (2 * i) 0 % 65536) ++ (v ∷ [])) ++ modules_bytes (modules_in (n - (i + 1)) (2 * (i + 1)) t)) f
    ∙ cells-more t n i h)

pub all-left : (t : List ℕ) (n : ℕ) {l m : List ℕ} {o p : ℕ} → Wrote l o (modules_bytes (modules_in (n - 0) 0 t)) m p → Wrote l o (modules_bytes (modules_in n 0 t)) m p
all-left t n w =
    let e : n - 0 ≡ n = omega arith in
    wrote-as w (ap (λ (k : ℕ). modules_bytes (modules_in k 0 t)) e)

pub none-left : (t : List ℕ) (n i : ℕ) {l : List ℕ} {o : ℕ} → n ≤ i → Wrote l o (modules_bytes (modules_in (n - i) (2 * i) t)) l o
none-left t n i h = wrote-as wrote-none (cells-end t n i h)

-- ---- The 770 bytes

modules-size : (ms : Modules) → length (modules_bytes ms) ≡ 3 * length ms
unfolding modules_bytes
modules-size [] = refl
modules-size (m ∷ ms) =
    let e = modules-size ms in
    omega arith

listed-size : (ms : Modules) → length (listed ms) ≡ 2 + 3 * length ms
unfolding listed
listed-size ms =
    let e = modules-size ms in
    omega arith

drop-zeros : (k n : ℕ) → drop {A = ℕ} k (replicate n 0) ≡ replicate (n - k) 0
drop-zeros zero n =
    let e : n - 0 ≡ n = omega arith in
    rw e
drop-zeros (suc k) zero =
    let e : 0 - suc k ≡ 0 = omega arith in
    rw e
drop-zeros (suc k) (suc n) =
    let e : suc n - suc k ≡ n - k = omega arith in
    rw e (drop-zeros k n)

zeros-behind : (bs : List ℕ) → length bs ≤ 770 → sets (replicate 770 0) 0 bs ≡ bs ++ replicate (770 - length bs) 0
zeros-behind bs h =
    let e : 0 + length bs ≡ length bs = omega arith in
    sets-eq bs (replicate 770 0) 0 (omega arith)
    ∙ ap (λ (k : ℕ). bs ++ drop k (replicate 770 0)) e
    ∙ ap (λ (l : List ℕ). bs ++ l) (drop-zeros (length bs) 770)

pub scope-written : {b c : List ℕ} {n o p : ℕ} (ms ns : Modules) → n ≡ length ms → n ≤ 256 → ns ≡ ms →
    Wrote (replicate 770 0) 0 (two_bytes n) b o → Wrote b o (modules_bytes ns) c p → c ≡ scope_bytes ms
unfolding listed scope_bytes
scope-written {b} {c} {n} {o} {p} ms ns e h f x y =
    let w : Wrote (replicate 770 0) 0 (listed ms) c p =
    wrote-as (wrote-then x y) (ap (λ (k : ℕ). two_bytes k ++ modules_bytes ns) e ∙ ap (λ (k : Modules). two_bytes (length ms) ++ modules_bytes k) f)
    in
    let g = listed-size ms in
    w.bytes (omega arith) ∙ zeros-behind (listed ms) (omega arith)
