-- What is shown of a buffer: the laws of `shown` at a buffer of which a field and what stands behind it are known.
use Rattle.std.proofs.Common.{ℕ, ◌≡◌, ◌++◌, ◌↔◌, Bool, true, false, cond, eqb, List, length, take, drop, Option, None, Some, All, IsTrue, refl, sym, ap, ◌∙◌}
use Rattle.std.proofs.Math.Seq.{take-append_seam, drop-append_seam}
use Rattle.std.proofs.lemmas.Bool.Decides.{same_from_decides, Decides-by_and, Decides-eqb}
use Rattle.tree.specs.Access.{extent_at}
use Rattle.answer_text.specs.Left.{zeros, shown_to, shown}

-- the test that a program makes
pub zeros_is : (r : Bool) (s : List ℕ) → IsTrue r ↔ All (λ b. b ≡ 0) s → r ≡ zeros s
zeros_is r s h =
    same_from_decides r (zeros s) h (Decides-by_and (λ b. eqb b 0) (λ b. b ≡ 0) zeros (λ b. Decides-eqb b 0) refl (λ _ _. refl) s)

-- a field, and what stands behind it
cut : (field behind : List ℕ) (b : Bool) → zeros behind ≡ b → shown_to (Some (length field)) (field ++ behind) ≡ cond b field (field ++ behind)
cut field behind b z = rw (drop-append_seam field behind, take-append_seam field behind, z) refl

pub shown-field : (s field behind : List ℕ) → extent_at s 0 (length s) ≡ Some (length field) → s ≡ field ++ behind → zeros behind ≡ true → shown s ≡ field
shown-field s field behind e p z =
    ap (λ (o : Option ℕ). shown_to o s) e ∙ ap (λ (t : List ℕ). shown_to (Some (length field)) t) p ∙ cut field behind true z

pub shown-all : (s field behind : List ℕ) → extent_at s 0 (length s) ≡ Some (length field) → s ≡ field ++ behind → zeros behind ≡ false → shown s ≡ s
shown-all s field behind e p z =
    ap (λ (o : Option ℕ). shown_to o s) e ∙ ap (λ (t : List ℕ). shown_to (Some (length field)) t) p ∙ cut field behind false z ∙ sym p

pub shown-none : (s : List ℕ) → extent_at s 0 (length s) ≡ None → shown s ≡ s
shown-none s e = ap (λ (o : Option ℕ). shown_to o s) e
