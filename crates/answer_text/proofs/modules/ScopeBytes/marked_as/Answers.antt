-- `marked_as`: each byte is what the closure computes of its place.
use Rattle.std.proofs.Common.{ℕ, zero, suc, ◌≡◌, ◌+◌, ◌<◌, ◌≤◌, Bool, List, get_or, slice_index, subst, sym, ◌∙◌, inl, inr, arith, rules}
use Rattle.std.specs.Array.{IsFromFnResultFrom}
use Rattle.std.specs.Fn.{Called}
use denote.Param.Members.{Mut}
use Rattle.std.proofs.lemmas.Bool.{cases_lt}
use Rattle.answer_text.specs.Modules.{is_marks, marked}
use Rattle.answer_text.proofs.modules.ScopeBytes.marked_as.Goals as goal

-- calls that leave the closure as it is gave its values
values : {F : Type 0} (g : Mut F (ℕ × Unit {0}) ℕ) (f : F) (h : ℕ → ℕ) → ((i y : ℕ) (q : F) → Called g f (i, tt) y q → (q ≡ f) × (y ≡ h i))
    → (ys : List ℕ) (n i : ℕ) → IsFromFnResultFrom g f ys i n → (k : ℕ) → i ≤ k → k < i + n → get_or ys k 0 ≡ h k
values g f h same ys zero i each k low high = absurd (omega arith)
values g f h same ys (suc n) i each k low high =
    let called : (each.0 ≡ f) × (each.1 ≡ h i) = same i each.1 each.0 each.3 in
    elim (cases_lt i k) [
      | inl later ↦ values g f h same ys n (i + 1) (subst (λ q. IsFromFnResultFrom g q ys (i + 1) n) called.0 each.4) k (omega arith) (omega arith)
      | inr here ↦ let at : k ≡ i = omega arith in rw at (each.2.1 0 ∙ called.1)
    ]

pub returns : goal.returns
returns c = λ k small. let each = c.from_fn.ensures.items.each in
    values _ _ (λ (i : ℕ). marked (is_marks i) (slice_index c.args.self.now.0 i) (slice_index c.args.earlier.now.0 i)) (λ i y q e. search rules) c.from_fn.result 770 0 each k (omega arith) (omega arith)
