-- The place that the library finds is the one that the definition counts to, and its parts between single spaces are the fields.
use Rattle.std.proofs.Common.{ℕ, zero, suc, ◌+◌, ◌<◌, ◌≤◌, ◌≡◌, Bool, true, false, cond, List, [], ◌∷◌, ◌++◌, length, take, drop, eqb, not, None, Some, refl, sym, append_assoc, ◌∙◌, ap, ⊎_elim, arith}
use Rattle.std.specs.Prelude.{IfSome, IfNone, Option, slice_get}
use Rattle.std.specs.List.{position, position_or_len, slice_split, onto_first}
use Rattle.std.proofs.lemmas.List.{take_all, take-append-drop}
use Rattle.std.specs.Str.Iter.{HasSubslice}
use Rattle.std.proofs.lemmas.Bool.{cases_lt, eq-eqb, ne_eqb}
use Rattle.std.proofs.lemmas.Bool.Decides.{nat_tests}
use Rattle.std.proofs.lemmas.List.Recursion.{is_position_or_len}
use Rattle.std.proofs.lemmas.List.Sums.{prefix_len-le-length}
use Rattle.std.proofs.lemmas.List.Splits.{slice_split_first}
use Rattle.text.specs.Fields.{first_of, end_at, field_at}

pub first_of-position : (b : ℕ) (s : List ℕ) → first_of b s ≡ position_or_len (λ x. eqb x b) s
first_of-position b s = is_position_or_len (first_of b) (λ x. eqb x b) refl (λ x l. ap (cond (eqb x b) 0) (omega arith)) s

module _ (b : ℕ) (s : List ℕ) where
  pub found-first : (r : Option ℕ) → r ≡ position (λ x. eqb x b) s → IfSome r (λ i. i ≡ first_of b s)
  found-first r e = rw (e, first_of-position b s) (grind (arith, nat_tests))

  pub none-first : (r : Option ℕ) → r ≡ position (λ x. eqb x b) s → IfNone r (first_of b s ≡ length s)
  none-first r e = rw (e, first_of-position b s) (grind (arith, nat_tests, prefix_len-le-length (λ x. not (eqb x b)) s))

-- where no b stands, there is one part
part-cons : (t : Bool) (b x : ℕ) (s : List ℕ) → eqb x b ≡ t → (length s ≤ first_of b s → slice_split (λ y. eqb y b) s ≡ s ∷ []) → suc (length s) ≤ cond t 0 (suc (first_of b s)) →
    cond t ([] ∷ slice_split (λ y. eqb y b) s) (onto_first x (slice_split (λ y. eqb y b) s)) ≡ (x ∷ s) ∷ []
part-cons true b x s e r h = absurd (omega arith)
part-cons false b x s e r h = rw (r (omega arith))

no-part : (b : ℕ) (s : List ℕ) → length s ≤ first_of b s → slice_split (λ x. eqb x b) s ≡ s ∷ []
no-part b [] h = refl
no-part b (x ∷ s) h = part-cons (eqb x b) b x s refl (no-part b s) h

first_of-le : (b : ℕ) (s : List ℕ) → first_of b s ≤ length s
first_of-le b s = omega (arith, first_of-position b s, prefix_len-le-length (λ x. not (eqb x b)) s)

first-part : (s : List ℕ) → first_of 32 s < length s → slice_split (λ x. eqb x 32) s ≡ take (first_of 32 s) s ∷ slice_split (λ x. eqb x 32) (drop (first_of 32 s + 1) s)
first-part s h = rw (first_of-position 32 s) (slice_split_first (λ x. eqb x 32) s 0 (let e = first_of-position 32 s in omega arith))

pub field-parts : (k : ℕ) (s : List ℕ) → field_at k s ≡ slice_get (slice_split (λ b. eqb b 32) s) k
unfolding field_at end_at
field-parts zero s =
    ⊎_elim
    (λ (h : first_of 32 s < length s). rw (first-part s h))
    (λ (h : length s ≤ first_of 32 s). rw (no-part 32 s h) (ap Some (take_all (first_of 32 s) s h)))
    (cases_lt (first_of 32 s) (length s))
field-parts (suc k) s =
    ⊎_elim
    (λ (h : first_of 32 s < length s). rw (first-part s h, ne_eqb (first_of 32 s) (length s) (λ e. omega arith)) (field-parts k (drop (first_of 32 s + 1) s)))
    (λ (h : length s ≤ first_of 32 s). rw (no-part 32 s h, eq-eqb (first_of 32 s) (length s) (omega (arith, first_of-le 32 s))))
    (cases_lt (first_of 32 s) (length s))

behind : (t : Bool) (i : ℕ) (s : List ℕ) (r : Option (List ℕ)) → IfSome r (HasSubslice (drop i s)) → IfSome (cond t None r) (HasSubslice s)
behind true i s r h = tt
behind false i s None h = tt
behind false i s (Some f) h = (take i s ++ h.0, h.1, sym (take-append-drop i s) ∙ ap (λ l. take i s ++ l) h.2 ∙ sym (append_assoc (take i s) h.0 (f ++ h.1)))

-- a field stands in the text
pub field-within : (k : ℕ) (s : List ℕ) → IfSome (field_at k s) (HasSubslice s)
unfolding field_at end_at
field-within zero s = ([], drop (first_of 32 s) s, sym (take-append-drop (first_of 32 s) s))
field-within (suc k) s = behind (eqb (first_of 32 s) (length s)) (first_of 32 s + 1) s (field_at k (drop (first_of 32 s + 1) s)) (field-within k (drop (first_of 32 s + 1) s))
