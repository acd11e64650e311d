-- Writes behind a text, one after another, are the write of one text after the other.
use Rattle.std.proofs.Common.{ℕ, zero, suc, ◌-◌, ◌≡◌, List, [], ◌∷◌, ◌++◌, length, take, sym, ap, ◌∙◌, arith, append_assoc, length-append}
use Rattle.std.proofs.lemmas.List.{length-take}
use Rattle.text.specs.Write.{Written}

take-both : (k : ℕ) (xs ys : List ℕ) → take k (xs ++ ys) ≡ take k xs ++ take (k - length xs) ys
take-both zero xs ys = let e : 0 - length xs ≡ 0 = omega arith in rw e
take-both (suc k) [] ys = let e : suc k - 0 ≡ suc k = omega arith in rw e
take-both (suc k) (x ∷ xs) ys = let e : suc k - suc (length xs) ≡ k - length xs = omega arith in rw e (ap (λ l. x ∷ l) (take-both k xs ys))

pub written-then : (room : ℕ) (old xs mid ys new : List ℕ) → Written room old xs mid → Written room mid ys new → Written room old (xs ++ ys) new
written-then room old xs mid ys new w v =
    let e : room - length mid ≡ room - length old - length xs = omega (arith, ap length w, length-append old (take (room - length old) xs), length-take (room - length old) xs) in
    v ∙ ap (λ k. mid ++ take k ys) e ∙ ap (λ l. l ++ take (room - length old - length xs) ys) w
    ∙ append_assoc old (take (room - length old) xs) (take (room - length old - length xs) ys) ∙ sym (ap (λ l. old ++ l) (take-both (room - length old) xs ys))

-- two characters more, in one write or in two
pub written-two : (room : ℕ) (old xs mid new : List ℕ) (x y p q : ℕ) → x ≡ p → y ≡ q →
    Written room old xs mid → Written room mid (x ∷ y ∷ []) new → Written room old (xs ++ p ∷ q ∷ []) new
written-two room old xs mid new x y p q d e w v = rw (← d, ← e) (written-then room old xs mid (x ∷ y ∷ []) new w v)

pub written-pair : (room : ℕ) (old xs mid m new : List ℕ) (x y p q : ℕ) → x ≡ p → y ≡ q →
    Written room old xs mid → Written room mid (x ∷ []) m → Written room m (y ∷ []) new → Written room old (xs ++ p ∷ q ∷ []) new
written-pair room old xs mid m new x y p q d e w u v = written-two room old xs mid new x y p q d e w (written-then room mid (x ∷ []) m (y ∷ []) new u v)
