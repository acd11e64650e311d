-- Parts of a list: joined, split, and their elements.
use Prim.Native.Nat.{ℕ, ◌+◌, ◌-◌, ◌≤◌, ◌<◌}
use mathlib.Core.Path.{◌≡◌, refl, sym, ap, ◌∙◌}
use mathlib.Core.List.{List, ◌++◌}
use native.Mathlib.Omega.{arith}
use lib.ListN.{length, get_or, take, drop, take-append-drop, length-append}
use lib.Seq.{slice, length-slice, length-take-le, take-take, drop-append-le, take_at, drop_at, get_or-take, get_or-drop, drop-drop}

pub slice-join : (a b c : ℕ) (s : List ℕ) → a ≤ b → b ≤ c → c ≤ length s → slice a b s ++ slice b c s ≡ slice a c s
slice-join a b c s h k hc =
    let l = take c s in
    let n : length (take b l) ≡ b = length-take-le b l (simp (length-take-le c s hc) k) in
    ap (λ (x : List ℕ). drop a x ++ drop b l) (sym (take-take b c s k))
    ∙ sym (drop-append-le a (take b l) (drop b l) (omega arith)) ∙ ap (drop a) (take-append-drop b l)

append-parts : (a b c d : List ℕ) → length a ≡ length b → a ++ c ≡ b ++ d → (a ≡ b) × (c ≡ d)
append-parts a b c d n e = (
  sym (take_at a c (length b) n) ∙ ap (take (length b)) e ∙ take_at b d (length b) refl,
  sym (drop_at a c (length b) n) ∙ ap (drop (length b)) e ∙ drop_at b d (length b) refl,
)

-- a part that is two runs
pub slice-split : (at end : ℕ) (s l r : List ℕ) → at ≤ end → end ≤ length s → slice at end s ≡ l ++ r →
    (at + length l ≤ end) × (slice at (at + length l) s ≡ l) × (slice (at + length l) end s ≡ r)
slice-split at end s l r h k e =
    let n : end - at ≡ length l + length r = sym (length-slice at end s k) ∙ ap length e ∙ length-append l r in
    let m : at + length l ≤ end = omega arith in
    let w : length (slice at (at + length l) s) ≡ length l = length-slice at (at + length l) s (omega arith) ∙ omega arith in
    let p = append-parts (slice at (at + length l) s) l (slice (at + length l) end s) r w (slice-join at (at + length l) end s (omega arith) m k ∙ e) in
    (m, p.0, p.1)

pub get_d-slice : (at end : ℕ) (s : List ℕ) (k : ℕ) → at + k < end → get_or (slice at end s) k 0 ≡ get_or s (at + k) 0
get_d-slice at end s k h = get_or-drop at (take end s) k 0 ∙ get_or-take end s (at + k) 0 h

-- the front and the back of a part
pub take-slice : (n a b : ℕ) (s : List ℕ) → a + n ≤ b → b ≤ length s → take n (slice a b s) ≡ slice a (a + n) s
take-slice n a b s h k =
    let w : length (slice a (a + n) s) ≡ n = length-slice a (a + n) s (omega arith) ∙ omega arith in
    ap (take n) (sym (slice-join a (a + n) b s (omega arith) h k)) ∙ take_at (slice a (a + n) s) (slice (a + n) b s) n w

pub drop-slice : (n a b : ℕ) (s : List ℕ) → drop n (slice a b s) ≡ slice (a + n) b s
drop-slice n a b s = drop-drop n a (take b s)
