-- Digits, and reading bytes pair by pair.
use Rattle.std.proofs.Common.{ℕ, suc, ◌+◌, ◌-◌, ◌*◌, ◌/◌, ◌%◌, ◌≤◌, ◌<◌, ◌≡◌, List, [], ◌∷◌, ◌++◌, length, get_or, take, drop, Bool, true, false, ltb}
use Rattle.std.proofs.Common.{refl, sym, ap, ap₂, ◌∙◌, inl, inr, ⊎_elim, ◌⊎◌, arith, append_assoc}
use Rattle.std.specs.Prelude.{None}
use Rattle.std.proofs.lemmas.Bool.{ltb-true, ltb-false, lt-ltb, le-ltb}
use Rattle.std.proofs.lemmas.List.{append-nil, nil_from_length, take_all, take_more}
use Rattle.text.specs.Digits.{hex_digit_ascii}
use Rattle.text.specs.Write.{Written}
use Rattle.text.specs.Hex.{ByteIs, hexed, spelt, Small, NotSpelt}

pub glyph-low : (v : ℕ) → v < 10 → hex_digit_ascii v ≡ 48 + v
glyph-low v h = rw (lt-ltb v 10 h)

pub glyph-high : (v : ℕ) → 10 ≤ v → hex_digit_ascii v ≡ 87 + v
glyph-high v h = rw (le-ltb v 10 h)

glyph-cases : (t : Bool) (v : ℕ) → ltb v 10 ≡ t → v < 16 → ((v < 10) × (hex_digit_ascii v ≡ 48 + v)) ⊎ ((10 ≤ v) × (hex_digit_ascii v ≡ 87 + v))
glyph-cases true v e h = let l = ltb-true v 10 e in inl (l, glyph-low v l)
glyph-cases false v e h = let l = ltb-false v 10 e in inr (l, glyph-high v l)

glyph-once : (v w : ℕ) → v < 16 → w < 16 → hex_digit_ascii v ≡ hex_digit_ascii w → v ≡ w
glyph-once v w h k e =
    ⊎_elim
    (λ x. ⊎_elim (λ y. omega (arith, x.1, y.1)) (λ y. omega (arith, x.1, y.1)) (glyph-cases (ltb w 10) w refl k))
    (λ x. ⊎_elim (λ y. omega (arith, x.1, y.1)) (λ y. omega (arith, x.1, y.1)) (glyph-cases (ltb w 10) w refl k))
    (glyph-cases (ltb v 10) v refl h)

-- `-` is no digit
pub dash-other : (v : ℕ) → v < 16 → 45 ≡ hex_digit_ascii v → ⊥
dash-other v h e = ⊎_elim (λ x. omega (arith, x.1)) (λ x. omega (arith, x.1)) (glyph-cases (ltb v 10) v refl h)

-- a text is the spelling of one list of bytes at most, so reading what was written gives the bytes back
pub hexed-once : (a b : List ℕ) → Small a → Small b → hexed a ≡ hexed b → a ≡ b
hexed-once [] [] h k e = refl
hexed-once [] (y ∷ b) h k e = absurd (let z = ap length e in omega arith)
hexed-once (x ∷ a) [] h k e = absurd (let z = ap length e in omega arith)
hexed-once (x ∷ a) (y ∷ b) h k e =
    let high : hex_digit_ascii (x / 16) ≡ hex_digit_ascii (y / 16) = cc in
    let low : hex_digit_ascii (x % 16) ≡ hex_digit_ascii (y % 16) = cc in
    let p = glyph-once (x / 16) (y / 16) (omega (arith, h.0)) (omega (arith, k.0)) high in
    let q = glyph-once (x % 16) (y % 16) (omega arith) (omega arith) low in
    let r : x ≡ y = omega arith in
    ap₂ ◌∷◌ r (hexed-once a b h.1 k.1 (cc))

pub hexed-append : (a b : List ℕ) → hexed (a ++ b) ≡ hexed a ++ hexed b
hexed-append [] b = refl
hexed-append (x ∷ a) b = ap (λ l. hex_digit_ascii (x / 16) ∷ hex_digit_ascii (x % 16) ∷ l) (hexed-append a b)

pub length-hexed : (bs : List ℕ) → length (hexed bs) ≡ 2 * length bs
length-hexed [] = refl
length-hexed (b ∷ bs) = let h = length-hexed bs in omega arith

-- the digits of a chunk have room in an empty text
pub chunk-written : (room : ℕ) (old bs new : List ℕ) → old ≡ [] → 2 * length bs ≤ room → Written room old (hexed bs) new → new ≡ hexed bs
chunk-written room [] bs new e h w = let l = length-hexed bs in w ∙ take_all (room - 0) (hexed bs) (omega arith)
chunk-written room (x ∷ old) bs new e h w = cc

pub hexed-more : (bs : List ℕ) (i : ℕ) → i < length bs →
    hexed (take (i + 1) bs) ≡ hexed (take i bs) ++ hex_digit_ascii (get_or bs i 0 / 16) ∷ hex_digit_ascii (get_or bs i 0 % 16) ∷ []
hexed-more bs i h = ap hexed (take_more bs i 0 h) ∙ hexed-append (take i bs) (get_or bs i 0 ∷ [])

pub small-more : (a : List ℕ) (b : ℕ) → Small a → b < 256 → Small (a ++ b ∷ [])
small-more [] b h k = (k, tt)
small-more (x ∷ a) b h k = (h.0, small-more a b h.1 k)

pair-first : (rest : List ℕ) (x y : ℕ) → 2 ≤ length rest → get_or rest 0 0 ≡ x → get_or rest 1 0 ≡ y → rest ≡ x ∷ y ∷ take (length rest - 2) (drop 2 rest)
pair-first [] x y h d e = absurd (omega arith)
pair-first (a ∷ []) x y h d e = absurd (omega arith)
pair-first (a ∷ b ∷ r) x y h d e = let k : length r ≤ suc (suc (length r)) - 2 = omega arith in rw (take_all (suc (suc (length r)) - 2) r k) cc

pub hex-more : (s done rest : List ℕ) (b : ℕ) → s ≡ hexed done ++ rest → 2 ≤ length rest → get_or rest 0 0 ≡ hex_digit_ascii (b / 16) → get_or rest 1 0 ≡ hex_digit_ascii (b % 16) →
    s ≡ hexed (done ++ b ∷ []) ++ take (length rest - 2) (drop 2 rest)
hex-more s done rest b text h d e =
    text ∙ ap (λ l. hexed done ++ l) (pair-first rest (hex_digit_ascii (b / 16)) (hex_digit_ascii (b % 16)) h d e)
    ∙ sym (ap (λ l. l ++ take (length rest - 2) (drop 2 rest)) (hexed-append done (b ∷ [])) ∙ append_assoc (hexed done) (hexed (b ∷ [])) (take (length rest - 2) (drop 2 rest)))

-- the text is the digits of the bytes `done`, and `rest` is left of it
module _ (s done rest : List ℕ) (text : s ≡ hexed done ++ rest) where
  pub hex-done : length rest ≡ 0 → s ≡ hexed done
  hex-done h = text ∙ ap (λ l. hexed done ++ l) (nil_from_length rest h) ∙ append-nil (hexed done)

none-behind : (done rest bs : List ℕ) → Small done → Small bs → NotSpelt hexed rest → hexed done ++ rest ≡ hexed bs → ⊥
none-behind [] rest bs h k n e = n bs k e
none-behind (x ∷ done) rest [] h k n e = cc
none-behind (x ∷ done) rest (y ∷ bs) h k n e = none-behind done rest bs h.1 k.1 n (cc)

-- where what is left is spelt by no bytes, the text is not
pub not-spelt-behind : (s done rest : List ℕ) → s ≡ hexed done ++ rest → Small done → NotSpelt hexed rest → NotSpelt hexed s
not-spelt-behind s done rest text h n bs k e = none-behind done rest bs h k n (sym text ∙ e)

pub not-spelt-pair : (s : List ℕ) → 2 ≤ length s → ByteIs (get_or s 0 0) (get_or s 1 0) None → NotSpelt hexed s
not-spelt-pair [] h n bs k e = omega arith
not-spelt-pair (x ∷ []) h n bs k e = omega arith
not-spelt-pair (x ∷ y ∷ s) h n [] k e = cc
not-spelt-pair (x ∷ y ∷ s) h n (b ∷ bs) k e = n b k.0 (cc) (cc)

pub not-spelt-one : (s : List ℕ) → length s < 2 → (length s ≡ 0 → ⊥) → NotSpelt hexed s
not-spelt-one s h n [] k e = n (ap length e)
not-spelt-one s h n (b ∷ bs) k e = let l = ap length e in omega arith

-- a field that is not `-` is spelt as its digits are
pub not-spelt-field : (s : List ℕ) → (s ≡ 45 ∷ [] → ⊥) → NotSpelt hexed s → NotSpelt spelt s
not-spelt-field s d n [] k e = d e
not-spelt-field s d n (b ∷ bs) k e = n (b ∷ bs) k e

pub spelt-field : (s bytes : List ℕ) → (length s ≡ 0 → ⊥) → s ≡ hexed bytes → s ≡ spelt bytes
spelt-field s [] n e = absurd (n (ap length e))
spelt-field s (b ∷ bytes) n e = e
