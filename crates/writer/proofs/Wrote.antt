-- The algebra of writing: nothing, one run after another, and a field whose length is filled in once its content is written.
-- That only the whole output's length is tested, at the end, rests on these: where the whole is short enough each part is.
use mathlib.Core.Bool.{Bool, true, false, cond}
use mathlib.Core.List.{List, [], ◌∷◌, ◌++◌, append_assoc}
use mathlib.Core.Path.{◌≡◌, refl, ap, sym, ◌∙◌}
use Prim.Native.Nat.{ℕ, suc, ◌+◌, ◌-◌, ◌≤◌, ◌<◌}
use native.Mathlib.Nat.{add-zero}
use native.Mathlib.Numerals.{add-one}
use native.Mathlib.Omega.{arith}
use borrow.Author.Tests.{le-leb, leb-true}
use lib.Dec.{leb}
use lib.ListN.{length, take, drop, get_or, set, length-append, length-set, length-take, length-drop, drop_of_length-le}
use lib.Seq.{sets, sets-eq, length-sets, set_comm, slice, slice-cons, drop-drop}
use borrow.Rule.Slice.PartMut.{put_mid, same_len_mid, mid_len}
use Rattle.std.specs.List.{between}
use Rattle.std.proofs.lemmas.Slice.{between_is}
use Rattle.writer.specs.Bytes.{two_bytes, framed}
use Rattle.writer.specs.Wrote.{capped, Wrote, Opened, closed}

-- a run of stores is one part of it after the other
pub sets-append : (xs ys l : List ℕ) (i : ℕ) → sets l i (xs ++ ys) ≡ sets (sets l i xs) (i + length xs) ys
sets-append [] ys l i = rw add-zero
sets-append (x ∷ xs) ys l i =
    sets-append xs ys (set l i x) (suc i) ∙ ap (λ (n : ℕ). sets (sets (set l i x) (suc i) xs) n ys) (omega arith)

-- a store before a run may come first
pub set-sets : (vs l : List ℕ) (i j b : ℕ) → j < i → set (sets l i vs) j b ≡ sets (set l j b) i vs
set-sets [] l i j b h = refl
set-sets (a ∷ vs) l i j b h =
    set-sets vs (set l i a) (suc i) j b (omega arith)
    ∙ ap (λ (x : List ℕ). sets x (suc i) vs) (set_comm l i j a b (omega arith))

-- a tag, the content behind two bytes, and then these two: the same as all in order
sets-patch : (l body : List ℕ) (o t hi lo : ℕ) →
    sets (sets (set l o t) (o + 3) body) (o + 1) (hi ∷ lo ∷ []) ≡ sets l o (t ∷ hi ∷ lo ∷ body)
sets-patch l body o t hi lo =
    ap (λ (x : List ℕ). set x (suc (o + 1)) lo) (set-sets body (set l o t) (o + 3) (o + 1) hi (omega arith))
    ∙ set-sets body (set (set l o t) (o + 1) hi) (o + 3) (suc (o + 1)) lo (omega arith)
    ∙ ap (λ (n : ℕ). sets (set (set (set l o t) n hi) (suc n) lo) (o + 3) body) (add-one o)
    ∙ ap (λ (n : ℕ). sets (set (set (set l o t) (suc o) hi) (suc (suc o)) lo) n body) (omega arith)

-- nothing is written
pub wrote-none : {l : List ℕ} {o : ℕ} → Wrote l o [] l o
wrote-none = record { at = omega arith; bytes = λ h. refl; size = refl }

-- a byte is stored
pub wrote-byte : (l : List ℕ) (o b : ℕ) → Wrote l o (b ∷ []) (set l o b) (o + 1)
wrote-byte l o b = record { at = refl; bytes = λ h. refl; size = length-set l o b }

-- a run, and one from where it ends
pub wrote-then : {l m k xs ys : List ℕ} {o p q : ℕ} → Wrote l o xs m p → Wrote m p ys k q → Wrote l o (xs ++ ys) k q
wrote-then {l} {m} {k} {xs} {ys} {o} {p} {q} v w =
    let e = length-append xs ys in
    let a = v.at in
    let b = w.at in
    record {
      at = rw e (omega arith);
      bytes = λ h.
          let d : p ≡ o + length xs = omega arith in
          w.bytes (omega arith)
          ∙ ap (λ (x : List ℕ). sets x p ys) (v.bytes (omega arith))
          ∙ ap (λ (i : ℕ). sets (sets l o xs) i ys) d
          ∙ sym (sets-append xs ys l o);
      size = w.size ∙ v.size;
    }

-- the same bytes, said otherwise
pub wrote-as : {l m xs ys : List ℕ} {o p : ℕ} → Wrote l o xs m p → xs ≡ ys → Wrote l o ys m p
wrote-as w e = rw e at w

-- the position is exact where the output is not too long
pub wrote-end : {l m bs : List ℕ} {o p : ℕ} → Wrote l o bs m p → p ≤ 65538 → p ≡ o + length bs
wrote-end w h = let a = w.at in omega arith

length-cond : (b : Bool) (x y : List ℕ) {n : ℕ} → length x ≡ n → length y ≡ n → length (cond b x y) ≡ n
length-cond true x y e f = e
length-cond false x y e f = f

pub length-closed : (l : List ℕ) (o p : ℕ) → length (closed l o p) ≡ length l
unfolding closed
length-closed l o p =
    length-cond (leb (o + 3) p) _ l
    (length-cond (leb p 65538) _ l (length-sets l (o + 1) (two_bytes (p - (o + 3)))) refl) refl

-- the content starts at c: its length is what lies between c and p
pub closed-fills : (l : List ℕ) (o c p : ℕ) → capped c ≡ capped (o + 3) → c ≤ p → p ≤ 65538 →
    closed l o p ≡ sets l (o + 1) (two_bytes (p - c))
unfolding closed
closed-fills l o c p a g h =
    let e : c ≡ o + 3 = omega arith in rw (le-leb (o + 3) p (omega arith), le-leb p 65538 h, e)

-- a field that is too long
pub closed-long : (l : List ℕ) (o p : ℕ) → (o + 3 ≤ p → p ≤ 65538 → ⊥) → closed l o p ≡ l
unfolding closed
closed-long l o p h = by (leb (o + 3) p) (leb p 65538) refl refl
  where
    by : (a b : Bool) → leb (o + 3) p ≡ a → leb p 65538 ≡ b →
        cond a (cond b (sets l (o + 1) (two_bytes (p - (o + 3)))) l) l ≡ l
    by true true e f = absurd (h (leb-true (o + 3) p e) (leb-true p 65538 f))
    by true false e f = refl
    by false b e f = refl

-- a field is opened, its content is written, and it is closed
pub wrote-field : {l m n k body : List ℕ} {o t c p : ℕ} →
    Opened l o t m c → Wrote m c body n p → k ≡ closed n o p → Wrote l o (framed t body) k p
unfolding framed
wrote-field {l} {m} {n} {k} {body} {o} {t} {c} {p} u v w =
    let a = u.at in
    let b = v.at in
    record {
      at = omega arith;
      bytes = λ h.
          let d : c ≡ o + 3 = omega arith in
          let e : p - c ≡ length body = omega arith in
          w ∙ closed-fills n o c p a (omega arith) (omega arith)
          ∙ ap (λ (i : ℕ). sets n (o + 1) (two_bytes i)) e
          ∙ ap (λ (x : List ℕ). sets x (o + 1) (two_bytes (length body)))
          (v.bytes (omega arith) ∙ ap (λ (i : ℕ). sets m i body) d
          ∙ ap (λ (x : List ℕ). sets x (o + 3) body) u.tag)
          ∙ sets-patch l body o t _ _;
      size = ap length w ∙ length-closed n o p ∙ v.size ∙ ap length u.tag ∙ length-set l o t;
    }

-- of a part of s no byte is left
pub slice-none : (s : List ℕ) (at end : ℕ) → end ≤ at → slice at end s ≡ []
slice-none s at end h = drop_of_length-le (take end s) {i = at} (simp length-take (omega arith))

-- of a part of s a byte is written, and then the rest
pub wrote-slice : (s : List ℕ) (at end : ℕ) {l m k : List ℕ} {o p q : ℕ} → at < end → end ≤ length s →
    Wrote l o (get_or s at 0 ∷ []) m p → Wrote m p (slice (at + 1) end s) k q → Wrote l o (slice at end s) k q
wrote-slice s at end h g v w = rw (slice-cons at end s 0 h g, ← add-one at) (wrote-then v w)

-- a part of s is stored as a whole
module _ (l m s : List ℕ) (o from end : ℕ) (g : end ≤ length s) (h : o + (end - from) ≤ length l) (e : m ≡ between from end s) where
  stored : m ≡ slice from end s
  stored = e ∙ between_is s from end

  long : length (slice from end s) ≡ end - from
  long = simp (length-drop, length-take) (omega arith)

  pub wrote-whole : Wrote l o (slice from end s) (put_mid o (o + (end - from) - o) l m) (o + (end - from))
  wrote-whole =
      let p = o + (end - from) in
      let n = long in
      record {
        at = omega arith;
        bytes = λ f.
            let z : o + (p - o) ≡ o + length (slice from end s) = omega arith in
            let b : take o l ++ (m ++ drop (p - o) (drop o l)) ≡ take o l ++ (slice from end s ++ drop (o + length (slice from end s)) l) = cc (drop-drop (p - o) o l, stored) in
            b ∙ sym (rw append_assoc at (sets-eq (slice from end s) l o (omega arith)));
        size = same_len_mid o (p - o) l m (ap length stored ∙ long ∙ (omega arith) ∙ sym (mid_len o p l h));
      }
