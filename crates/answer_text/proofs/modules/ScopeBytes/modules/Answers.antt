-- `modules`: no more are there than have room.
use Rattle.std.proofs.Common.{ℕ, ◌≡◌, ◌/◌, List, length, take, drop, ap, ◌∙◌, arith}
use Rattle.std.specs.Simd.{first_chunks}
use Rattle.std.proofs.lemmas.List.{take_all, take_min, length-drop}
use Rattle.answer_text.specs.Modules.{count_of}
use Rattle.answer_text.proofs.modules.ScopeBytes.modules.Goals as goal

-- of 770 bytes all but the first two make 256 modules
chunks : (s : List ℕ) → length s ≡ 770 → first_chunks 3 (length (take 768 (drop 2 s)) / 3) (take 768 (drop 2 s)) ≡ first_chunks 3 256 (drop 2 s)
chunks s len =
    let all : length (drop 2 s) ≡ 768 = simp length-drop (omega arith) in
    let whole : take 768 (drop 2 s) ≡ drop 2 s = take_all 768 (drop 2 s) (omega arith) in
    ap (λ (t : List ℕ). first_chunks 3 (length t / 3) t) whole ∙ ap (λ (n : ℕ). first_chunks 3 (n / 3) (drop 2 s)) all

pub returns-clause-value : goal.returns-clause-value
returns-clause-value c =
    let s : List ℕ = c.args.self.now.0 in
    let ms : List (List ℕ) = c.as_chunks.result.0.now in
    ap (λ (n : ℕ). take n ms) c.min-count.ensures
    ∙ take_min c.count.result ms
    ∙ ap (λ (n : ℕ). take n ms) c.count.ensures.value
    ∙ ap (λ (xs : List (List ℕ)). take (count_of s) xs) (c.as_chunks.ensures.front ∙ chunks s (omega arith))
