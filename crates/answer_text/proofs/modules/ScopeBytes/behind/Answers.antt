-- `behind`: what stands behind the modules is tested; behind the end there is nothing.
use Rattle.std.proofs.Common.{ℕ, ◌≡◌, ◌+◌, ◌*◌, ◌-◌, List, Bool, cond, [], codes, length, take, drop, ap, ◌∙◌, sym, true, false, arith, rules}
use Rattle.std.proofs.lemmas.List.{take_all, length-drop}
use Rattle.answer_text.specs.Left.{zeros}
use Rattle.answer_text.specs.Modules.{count_of, behind_text}
use Rattle.answer_text.proofs.LeftLaws.{zeros_is}
use Rattle.answer_text.proofs.modules.ScopeBytes.behind.Goals as goal
use Rattle.answer_text.proofs.modules.ScopeBytes.behind.Goals.{else-end-lt770-via-then-end-lt770+else-not-is_zero, else-end-lt770-via-else-end-lt770}

abbrev words : Bool → List ℕ
words b = cond b [] (codes " with bytes behind the scope")

-- the test of the rest of 770 bytes is that of what stands behind the modules
told : (s : List ℕ) (n : ℕ) (r : Bool) → length s ≡ 770 → n ≡ count_of s → r ≡ zeros (take (770 - (2 + 3 * n)) (drop (2 + 3 * n) s)) → words r ≡ behind_text s
told s n r len is e =
    let whole : take (770 - (2 + 3 * n)) (drop (2 + 3 * n) s) ≡ drop (2 + 3 * n) s =
    take_all (770 - (2 + 3 * n)) (drop (2 + 3 * n) s) (simp length-drop (omega arith)) in
    ap words (e ∙ ap zeros whole ∙ ap (λ (m : ℕ). zeros (drop (2 + 3 * m) s)) is)

pub returns-then-not-is_zero : goal.returns-then-not-is_zero
returns-then-not-is_zero c =
    let e = zeros_is _ _ c.is_zero.ensures in
    ap words (sym c.if-not-is_zero.true) ∙ told c.args.self.now.0 c.count.result c.is_zero.result (omega arith) c.count.ensures.value e

pub returns-else-end-lt770 : goal.returns-else-end-lt770
returns-else-end-lt770 c =
    let s : List ℕ = c.args.self.now.0 in
    let n : ℕ = c.count.result in
    elim c.else-end-lt770.branch [
      | else-end-lt770-via-then-end-lt770+else-not-is_zero w ↦
          ap words (sym w.if-not-is_zero.false) ∙ told s n w.is_zero.result (omega arith) c.count.ensures.value (zeros_is _ _ w.is_zero.ensures)
      | else-end-lt770-via-else-end-lt770 w ↦
          let none : 0 ≡ 770 - (2 + 3 * n) = omega arith in
          told s n true (omega arith) c.count.ensures.value (ap (λ (m : ℕ). zeros (take m (drop (2 + 3 * n) s))) none)
    ]
