-- `parse`: without the last of ten fields, the fields are the first nine.
use Rattle.std.proofs.Common.{ℕ, ◌≡◌, ◌-◌, List, [], length, take, get_or, sym, ap, ◌∙◌, subst, arith}
use Rattle.std.proofs.lemmas.List.{take-map, get_or-map, length-map, length-take}
use Rattle.std.specs.Borrow.{Bor}
use Rattle.request_fields.specs.Spelled.{IsLength}
use Rattle.request_fields.specs.Asked.{values, at, AsksExtract}
use Rattle.request_fields.proofs.BothRequest.parse.Goals as goal

pub returns : goal.returns
returns c =
    let fs : List (Bor (List ℕ)) = c.args.fields.now in
    let d : Bor (List ℕ) = record { ref_ptr = (0, 0); now = [] } in
    let asked : AsksExtract (values (take (length fs - 1) fs)) c.in_ok-parse.field-0 = c.in_ok-parse.ensures in
    let nine : length fs - 1 ≡ 9 = omega (arith, simp (length-map, length-take) at asked.count) in
    let front : values (take (length fs - 1) fs) ≡ take 9 (values fs) =
    ap (λ (n : ℕ). values (take n fs)) nine ∙ sym (take-map (λ (f : Bor (List ℕ)). f.now) 9 fs) in
    let back : (get_or fs (length fs - 1) d).now ≡ at (values fs) 9 =
    ap (λ (n : ℕ). (get_or fs n d).now) nine ∙ sym (get_or-map (λ (f : Bor (List ℕ)). f.now) fs 9 d [] (omega arith)) in
    record {
      count = simp length-map (omega arith);
      extract = subst (λ (xs : List (List ℕ)). AsksExtract xs c.in_ok-parse.field-0) front asked;
      list = subst (λ (s : List ℕ). IsLength s c.in_ok-length_in.field-0) back c.in_ok-length_in.ensures;
    }
