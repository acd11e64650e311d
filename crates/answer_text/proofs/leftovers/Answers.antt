-- `leftovers`: all the buffers pass the test of zeros, or one does not.
use Rattle.std.proofs.Common.{ℕ, ◌≡◌, Bool, cond, List, [], map, codes, sym, ap, ◌∙◌, rules}
use Rattle.std.specs.Borrow.{Bor}
use Rattle.std.specs.List.{list_all}
use Rattle.std.proofs.lemmas.Iterator.{YieldsList-from_slice}
use Rattle.std.proofs.lemmas.Iterator.Search.{all_from_yields_List}
use Rattle.std.proofs.lemmas.List.Folds.{list_all-map}
use Rattle.answer_text.specs.Left.{zeros}
use Rattle.answer_text.proofs.LeftLaws.{zeros_is}
use Rattle.answer_text.proofs.leftovers.Goals as goal

abbrev words : Bool → List ℕ
words b = cond b [] (codes " with bytes left in a buffer")

pub returns-then-all : goal.returns-then-all
returns-then-all c =
    let bs : List (Bor (List ℕ)) = c.args.buffers.now in
    let clear = all_from_yields_List (λ (b : Bor (List ℕ)). zeros b.now) _ _ c.all.result c.all.ensures.ran (YieldsList-from_slice bs cc) (λ x b q k. (search rules, zeros_is b x.now.now (search rules))) in
    ap words (sym c.if-all.true ∙ clear ∙ sym (list_all-map zeros (λ (b : Bor (List ℕ)). b.now) bs))

pub returns-else-all : goal.returns-else-all
returns-else-all c =
    let bs : List (Bor (List ℕ)) = c.args.buffers.now in
    let clear = all_from_yields_List (λ (b : Bor (List ℕ)). zeros b.now) _ _ c.all.result c.all.ensures.ran (YieldsList-from_slice bs cc) (λ x b q k. (search rules, zeros_is b x.now.now (search rules))) in
    ap words (sym c.if-all.false ∙ clear ∙ sym (list_all-map zeros (λ (b : Bor (List ℕ)). b.now) bs))
