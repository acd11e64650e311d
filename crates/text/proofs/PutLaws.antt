-- Reading bytes pair by pair: the digits of the bytes `done` are read, `rest` is left of the text s, and the bytes stand at the front of `out`.
use Rattle.std.proofs.Common.{ℕ, suc, ◌+◌, ◌-◌, ◌/◌, ◌%◌, ◌≤◌, ◌<◌, ◌≡◌, Bool, true, false, cond, List, [], ◌∷◌, ◌++◌, length, get_or, take, drop, set}
use Rattle.std.proofs.Common.{None, Some, refl, sym, ap, subst, ◌∙◌, arith, append_assoc, append-nil, length-append}
use Rattle.std.proofs.Math.Seq.{drop-cons, set-append_seam, take-append_seam}
use Rattle.std.proofs.lemmas.List.{length-drop, drop_all}
use Rattle.text.specs.Digits.{hex_digit_ascii}
use Rattle.text.specs.Hex.{hexed, Small, NotSpelt, IsSpelt, Spelling, Put, BytesPut}
use Rattle.text.proofs.HexLaws.{hex-more, small-more, hex-done, length-hexed, not-spelt-behind, not-spelt-one}

pub record Reading (s rest : List ℕ) : Type 0 where
  pub done : List ℕ
  pub text : s ≡ hexed done ++ rest
  pub small : Small done

abbrev pub reading-start : (s : List ℕ) → Reading s s
reading-start s = record { done = []; text = refl; small = tt }

module _ (s rest : List ℕ) (r : Reading s rest) where
  abbrev pub reading-more : (b : ℕ) → 2 ≤ length rest → b < 256 → get_or rest 0 0 ≡ hex_digit_ascii (b / 16) → get_or rest 1 0 ≡ hex_digit_ascii (b % 16) →
      Reading s (take (length rest - 2) (drop 2 rest))
  reading-more b h k d e = record {
    done = r.done ++ b ∷ [];
    text = hex-more s r.done rest b r.text h d e;
    small = small-more r.done b r.small k;
  }

  pub reading-none : NotSpelt hexed rest → NotSpelt hexed s
  reading-none n = not-spelt-behind s r.done rest r.text r.small n

  pub reading-ends : (t : Bool) → (t ≡ true → length rest ≡ 0) → (t ≡ false → length rest ≡ 0 → ⊥) → length rest < 2 → cond t (IsSpelt hexed s) (NotSpelt hexed s)
  reading-ends true y n k = (r.done, record { small = r.small; text = hex-done s r.done rest r.text (y refl) })
  reading-ends false y n k = reading-none (not-spelt-one rest k (n refl))

-- n bytes are put
pub record Putting (s rest out : List ℕ) (n : ℕ) (new : List ℕ) : Type 0 where
  pub reading : Reading s rest
  pub count : n ≡ length reading.done
  pub fits : n ≤ length out
  pub put : new ≡ reading.done ++ drop n out

pub putting-start : (s out : List ℕ) → Putting s s out 0 out
putting-start s out = record { reading = reading-start s; count = refl; fits = omega arith; put = refl }

set-next : (done out new : List ℕ) (n b : ℕ) → n ≡ length done → n < length out → new ≡ done ++ drop n out → set new n b ≡ (done ++ b ∷ []) ++ drop (n + 1) out
set-next done out new n b c h p =
    let e : n + 1 ≡ suc n = omega arith in
    ap (λ l. set l n b) (p ∙ ap (λ l. done ++ l) (drop-cons out n 0 h)) ∙ ap (λ k. set (done ++ get_or out n 0 ∷ drop (suc n) out) k b) c
    ∙ set-append_seam done (get_or out n 0) (drop (suc n) out) b ∙ sym (append_assoc done (b ∷ []) (drop (suc n) out)) ∙ sym (ap (λ k. (done ++ b ∷ []) ++ drop k out) e)

module _ (s rest out : List ℕ) (n : ℕ) (new : List ℕ) (p : Putting s rest out n new) where
  same-length : length new ≡ length out
  same-length = omega (arith, ap length p.put, length-append p.reading.done (drop n out), length-drop n out, p.count, p.fits)

  pub putting-more : (b : ℕ) → 2 ≤ length rest → n < length new → b < 256 → get_or rest 0 0 ≡ hex_digit_ascii (b / 16) → get_or rest 1 0 ≡ hex_digit_ascii (b % 16) →
      Putting s (take (length rest - 2) (drop 2 rest)) out (n + 1) (set new n b)
  putting-more b h f k d e =
      let l = same-length in
      record {
        reading = reading-more s rest p.reading b h k d e;
        count = omega (arith, p.count, length-append p.reading.done (b ∷ []));
        fits = omega arith;
        put = set-next p.reading.done out new n b p.count (omega arith) p.put;
      }

  pub putting-full : 2 ≤ length rest → length new ≤ n → BytesPut hexed s out None new
  putting-full h f bs k l e =
      omega (arith, same-length, length-hexed bs, ap length e, ap length p.reading.text, length-append (hexed p.reading.done) rest, length-hexed p.reading.done, p.count)

  pub putting-none : NotSpelt hexed rest → BytesPut hexed s out None new
  putting-none none bs k l e = reading-none s rest p.reading none bs k e

  pub putting-ends : length rest ≡ 0 → BytesPut hexed s out (Some n) new
  putting-ends h = record {
    bytes = p.reading.done;
    spelling = record { small = p.reading.small; text = hex-done s p.reading.done rest p.reading.text h };
    count = p.count;
    fits = p.fits;
    put = p.put;
  }

-- a buffer that is half as long as the text
module _ (s out new : List ℕ) (half : length out ≡ length s / 2) where
  pub put-whole : (n m : ℕ) (behind : List ℕ) → m ≡ length out → Put hexed s out n new → Spelling hexed s (take m (new ++ behind))
  put-whole n m behind h p =
      let l = length-hexed p.bytes in
      let t = ap length p.spelling.text in
      let all : n ≡ length out = omega (arith, p.count) in
      let k : m ≡ length p.bytes = omega (arith, p.count) in
      let e : new ≡ p.bytes = p.put ∙ ap (λ l. p.bytes ++ l) (drop_all n out (omega arith)) ∙ append-nil p.bytes in
      let same : take m (new ++ behind) ≡ p.bytes = ap (λ l. take m (l ++ behind)) e ∙ ap (λ k. take k (p.bytes ++ behind)) k ∙ take-append_seam p.bytes behind in
      subst (λ (l : List ℕ). Spelling hexed s l) (sym same) p.spelling

  pub none-whole : BytesPut hexed s out None new → NotSpelt hexed s
  none-whole n bs k e = n bs k (omega (arith, length-hexed bs, ap length e)) e
