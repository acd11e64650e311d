-- The text of a refusal by the halves of an answer, and that of metadata by what its bytes are.
use Rattle.std.proofs.Common.{ℕ, ◌+◌, ◌*◌, ◌<◌, ◌≤◌, ◌/◌, ◌%◌, ◌≡◌, true, false, List, [], ◌∷◌, ◌++◌, codes, slice_index, refl, sym, ap, ◌∙◌, arith, append-nil, append_assoc}
use Rattle.std.proofs.lemmas.Bool.{le-ltb, ne_eqb}
use Rattle.std.specs.Fmt.{decimal}
use Rattle.text.specs.Hex.{spelt}
use Rattle.answer_text.specs.Left.{zeros}
use Rattle.requests.specs.Plain.{by_halves, context_in, metadata_text}

-- the answer a is the number n and the place p of a refusal
module _ (a n p : ℕ) (some : 0 < n) (place : p < 0x1_0000_0000) (answer : a ≡ n * 0x1_0000_0000 + p) (ok : List ℕ) where
  told : (behind : List ℕ) → by_halves a ok behind ≡ codes "no " ++ (decimal n ++ 32 ∷ (decimal p ++ behind))
  told behind =
      let l : 0x1_0000_0000 ≤ a = omega arith in
      let high : a / 0x1_0000_0000 ≡ n = omega arith in
      let low : a % 0x1_0000_0000 ≡ p = omega arith in
      rw (le-ltb a 0x1_0000_0000 l, high, low) refl

  pub told-alone : codes "no " ++ (decimal n ++ 32 ∷ decimal p) ≡ by_halves a ok []
  told-alone = sym (told [] ∙ ap (λ l. codes "no " ++ (decimal n ++ 32 ∷ l)) (append-nil (decimal p)))

  pub told-left : (l behind : List ℕ) → l ≡ behind → codes "no " ++ ((decimal n ++ 32 ∷ decimal p) ++ l) ≡ by_halves a ok behind
  told-left l behind e =
      ap (λ m. codes "no " ++ ((decimal n ++ 32 ∷ decimal p) ++ m)) e ∙ ap (λ m. codes "no " ++ m) (append_assoc (decimal n) (32 ∷ decimal p) behind) ∙ sym (told behind)

module _ (b : List ℕ) where
  pub no-context : slice_index b 1 ≡ 0 → zeros (context_in b) ≡ true → metadata_text b ≡ decimal (slice_index b 0) ++ 32 ∷ codes "-"
  no-context k z = rw (k, z) refl

  pub some-context : slice_index b 1 ≡ 1 → metadata_text b ≡ decimal (slice_index b 0) ++ 32 ∷ spelt (context_in b)
  some-context k = rw k (ap (λ l. decimal (slice_index b 0) ++ 32 ∷ l) (append-nil (spelt (context_in b))))

  pub not-zero : slice_index b 1 ≡ 0 → zeros (context_in b) ≡ false → metadata_text b ≡ decimal (slice_index b 0) ++ 32 ∷ (spelt (context_in b) ++ codes " without a context")
  not-zero k z = rw (k, z) refl

  pub not-known : (slice_index b 1 ≡ 0 → ⊥) → (slice_index b 1 ≡ 1 → ⊥) →
      metadata_text b ≡ decimal (slice_index b 0) ++ 32 ∷ (spelt (context_in b) ++ codes " without a context")
  not-known k z = rw (ne_eqb (slice_index b 1) 0 k, ne_eqb (slice_index b 1) 1 z) refl
