-- `context_in`: the four bytes that were read are those of the number that they make.
use Rattle.std.proofs.Common.{ℕ, zero, suc, ◌≡◌, ◌<◌, List, [], ◌∷◌, subst, sym, ap, ◌∙◌, arith, rules, get_or}
use Rattle.std.proofs.lemmas.Nat.{be_bytes_4}
use Rattle.std.specs.Int.{w32, to_be_bytes, from_be_bytes}
use Rattle.text.specs.Hex.{Spelling, spelt, Small}
use Rattle.request_fields.proofs.fields.context_in.Goals as goal

small_at : (bs : List ℕ) → Small bs → (i : ℕ) → get_or bs i 0 < 256
small_at [] s i = omega arith
small_at (b ∷ bs) s zero = s.0
small_at (b ∷ bs) s (suc i) = small_at bs s.1 i

pub returns-in-len4 : goal.returns-in-len4
returns-in-len4 c =
    let bs : List ℕ = c.in_ok-read_bytes.field-0.items in
    let n : ℕ = c.from_be_bytes.result in
    let read : Spelling spelt c.args.field.now bs = search rules in
    let h : to_be_bytes w32 n ≡ bs = be_bytes_4 bs n (omega arith) (small_at bs read.small) (c.from_be_bytes.ensures ∙ ap (from_be_bytes w32) c.as_slice.ensures.value) in
    subst (λ (xs : List ℕ). Spelling spelt c.args.field.now xs) (sym h) read
