-- The callee of a call that stands written gets another context by four stores: a run of stores over another, and where a callee's context stands.
use Prim.Native.Nat.{ℕ, zero, suc, ◌+◌, ◌/◌, ◌%◌, ◌≤◌, ◌<◌}
use mathlib.Core.Path.{◌≡◌, refl, sym, ap, ◌∙◌}
use mathlib.Core.List.{List, [], ◌∷◌, ◌++◌}
use native.Mathlib.Omega.{arith}
use lib.ListN.{length, set, length-append, length-set}
use lib.Seq.{sets, length-sets, set_out}
use Rattle.scope.specs.Id.{export}
use Rattle.writer.specs.Bytes.{four_bytes}
use Rattle.writer.specs.Wrote.{capped, Wrote}
use Rattle.writer.proofs.Wrote.{sets-append, set-sets}
use Rattle.tree.specs.Layout.{four}
use Rattle.tree.specs.Tree.{Field, field, Fields, more, framed, encode, encodes}
use Rattle.extraction_rules.specs.First.{with_callee}
use Rattle.expressions.specs.Require.{CalleeSet}

-- ---- Runs of stores

set-twice : (l : List ℕ) (i a b : ℕ) → set (set l i a) i b ≡ set l i b
set-twice [] i a b = refl
set-twice (x ∷ l) zero a b = refl
set-twice (x ∷ l) (suc i) a b = ap (λ (m : List ℕ). x ∷ m) (set-twice l i a b)

-- one part of a run after the other
-- a store before a run may come first
-- a run over the start of another
sets-over : (ds cs vs l : List ℕ) (i : ℕ) → length ds ≡ length cs → sets (sets l i (cs ++ vs)) i ds ≡ sets l i (ds ++ vs)
sets-over [] [] vs l i h = refl
sets-over [] (c ∷ cs) vs l i h = absurd (omega arith)
sets-over (d ∷ ds) [] vs l i h = absurd (omega arith)
sets-over (d ∷ ds) (c ∷ cs) vs l i h =
    ap (λ (x : List ℕ). sets x (suc i) ds)
    (set-sets (cs ++ vs) (set l i c) (suc i) i d (omega arith) ∙ ap (λ (x : List ℕ). sets x (suc i) (cs ++ vs)) (set-twice l i c d))
    ∙ sets-over ds cs vs (set l i d) (suc i) (omega arith)

-- a run past the end
sets-past : (vs l : List ℕ) (i : ℕ) → length l ≤ i → sets l i vs ≡ l
sets-past [] l i h = refl
sets-past (v ∷ vs) l i h = let e = length-set l i v in sets-past vs (set l i v) (suc i) (omega arith) ∙ set_out l i v h

-- ---- The bytes of a callee

pub four-written : (n : ℕ) → n < 4294967296 → four_bytes n ≡ four n
four-written n h =
    let b₀ : n / 65536 / 256 ≡ n / 16777216 % 256 = omega arith in
    let b₂ : n % 65536 / 256 ≡ n / 256 % 256 = omega arith in
    let b₃ : n % 65536 % 256 ≡ n % 256 = omega arith in
    cc

-- a call on a 60, with bytes behind it: its context is four bytes behind eight, and the callee's other context changes just these
record Parts (n : ℕ) (f : Field) (bs : List ℕ) : Type 0 where
  head : List ℕ
  old : List ℕ
  tail : List ℕ
  before : encode f ++ bs ≡ head ++ (old ++ tail)
  after : encode (with_callee n f) ++ bs ≡ head ++ (four (export n) ++ tail)
  eight : length head ≡ 8
  wide : length old ≡ 4

-- the heads of the call and of its callee, and the callee's name: x are the bytes of the callee's parts, z those of the arguments
abbrev head_of : ℕ → ℕ → List ℕ → List ℕ → List ℕ
head_of a b x z =
    let m = length (a ∷ b ∷ 0 ∷ 0 ∷ 0 ∷ 0 ∷ x) in
    let k = length (0x60 ∷ 0 ∷ 0 ∷ a ∷ b ∷ 0 ∷ 0 ∷ 0 ∷ 0 ∷ (x ++ z)) in
    0x65 ∷ k / 256 ∷ k % 256 ∷ 0x60 ∷ m / 256 ∷ m % 256 ∷ a ∷ b ∷ []

split-callee : (n : ℕ) (y bs : List ℕ) (ds gs : Fields) → length y ≡ 6 → Parts n (field 0x65 [] (more (field 0x60 y ds) gs)) bs
unfolding encode framed with_callee
split-callee n [] bs ds gs h = absurd (omega arith)
split-callee n (a ∷ []) bs ds gs h = absurd (omega arith)
split-callee n (a ∷ (b ∷ [])) bs ds gs h = absurd (omega arith)
split-callee n (a ∷ (b ∷ (c ∷ []))) bs ds gs h = absurd (omega arith)
split-callee n (a ∷ (b ∷ (c ∷ (d ∷ [])))) bs ds gs h = absurd (omega arith)
split-callee n (a ∷ (b ∷ (c ∷ (d ∷ (e ∷ []))))) bs ds gs h = absurd (omega arith)
split-callee n (a ∷ (b ∷ (c ∷ (d ∷ (e ∷ (f ∷ [])))))) bs ds gs h =
    record {
      head = head_of a b (encodes ds) (encodes gs);
      old = c ∷ d ∷ e ∷ f ∷ [];
      tail = (encodes ds ++ encodes gs) ++ bs;
      before = refl;
      after = refl;
      eight = refl;
      wide = refl;
    }
split-callee n (a ∷ (b ∷ (c ∷ (d ∷ (e ∷ (f ∷ (g ∷ y))))))) bs ds gs h = absurd (omega arith)

-- ---- The stores

module _ {n : ℕ} {f : Field} {bs : List ℕ} (w : Parts n f bs) where
  as-long : length (encode (with_callee n f) ++ bs) ≡ length (encode f ++ bs)
  as-long =
      let a = length-append w.head (w.old ++ w.tail) in
      let b = length-append w.old w.tail in
      let c = length-append w.head (four (export n) ++ w.tail) in
      let d = w.wide in
      ap length w.after ∙ (omega arith) ∙ sym (ap length w.before)

  long : 12 ≤ length (encode f ++ bs)
  long =
      let a = length-append w.head (w.old ++ w.tail) in
      let b = length-append w.old w.tail in
      let c = w.wide in
      let d = w.eight in
      let e = ap length w.before in
      omega arith

  -- up to the context, and from there
  from-eight : (l : List ℕ) (o : ℕ) (vs : List ℕ) → sets l o (w.head ++ vs) ≡ sets (sets l o w.head) (o + 8) vs
  from-eight l o vs = sets-append w.head vs l o ∙ ap (λ (k : ℕ). sets (sets l o w.head) (o + k) vs) w.eight

  stored : (l : List ℕ) (o : ℕ) → sets (sets l o (encode f ++ bs)) (o + 8) (four (export n)) ≡ sets l o (encode (with_callee n f) ++ bs)
  stored l o =
      ap (λ (x : List ℕ). sets (sets l o x) (o + 8) (four (export n))) w.before
      ∙ ap (λ (x : List ℕ). sets x (o + 8) (four (export n))) (from-eight l o (w.old ++ w.tail))
      ∙ sets-over (four (export n)) w.old w.tail (sets l o w.head) (o + 8) (sym w.wide)
      ∙ sym (from-eight l o (four (export n) ++ w.tail)) ∙ ap (sets l o) (sym w.after)

  past : (l : List ℕ) (o : ℕ) → length l ≤ o + 8 → sets l o (encode f ++ bs) ≡ sets l o (encode (with_callee n f) ++ bs)
  past l o h =
      let e = length-sets l o w.head in
      ap (sets l o) w.before ∙ from-eight l o (w.old ++ w.tail) ∙ sets-past (w.old ++ w.tail) (sets l o w.head) (o + 8) (omega arith)
      ∙ sym (ap (sets l o) w.after ∙ from-eight l o (four (export n) ++ w.tail) ∙ sets-past (four (export n) ++ w.tail) (sets l o w.head) (o + 8) (omega arith))

  wrote-stored : {l out out' : List ℕ} {o p q : ℕ} → Wrote l o (encode f ++ bs) out p → Wrote out (o + 8) (four (export n)) out' q → Wrote l o (encode (with_callee n f) ++ bs) out' p
  wrote-stored {l} {out} {out'} {o} {p} {q} u v =
      let e = as-long in
      let g = long in
      record {
        at = u.at ∙ ap (λ (k : ℕ). capped (o + k)) (sym e);
        bytes = λ h. v.bytes (omega arith) ∙ ap (λ (x : List ℕ). sets x (o + 8) (four (export n))) (u.bytes (omega arith)) ∙ stored l o;
        size = v.size ∙ u.size;
      }

  wrote-past : {l out : List ℕ} {o p : ℕ} → length out ≤ o + 8 → Wrote l o (encode f ++ bs) out p → Wrote l o (encode (with_callee n f) ++ bs) out p
  wrote-past {l} {out} {o} {p} k u =
      let e = as-long in
      let z = u.size in
      record {
        at = u.at ∙ ap (λ (k : ℕ). capped (o + k)) (sym e);
        bytes = λ h. u.bytes (omega arith) ∙ past l o (omega arith);
        size = u.size;
      }

pub callee-past : (n o : ℕ) {out : List ℕ} → length out ≤ o + 8 → CalleeSet n o out out
callee-past n o k =
    record { size = refl; writes = λ l p y bs ds gs h u. let w = split-callee n y bs ds gs h in wrote-past w k u }

pub callee-set : (n o : ℕ) {c q : ℕ} {out out' : List ℕ} → c ≡ export n → c < 4294967296 → Wrote out (o + 8) (four_bytes c) out' q → CalleeSet n o out out'
callee-set n o {c} {q} {out} {out'} e k v =
    let b : four_bytes c ≡ four (export n) = four-written c k ∙ ap four e in
    let v' : Wrote out (o + 8) (four (export n)) out' q = rw b at v in
    record { size = v.size; writes = λ l p y bs ds gs h u. let w = split-callee n y bs ds gs h in wrote-stored w u v' }
