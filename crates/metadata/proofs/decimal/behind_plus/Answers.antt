-- `behind_plus`: `unsigned-stripped`, of what the library strips.
use mathlib.Core.Path.{refl, ap, ◌∙◌}
use denote.Ref.{Bor}
use mathlib.Core.List.{List, [], ◌∷◌}
use Prim.Native.Nat.{ℕ}
use Rattle.std.proofs.lemmas.Bool.Decides.{Decides-eqb}
use Rattle.std.proofs.lemmas.Slice.Eq.{strip_prefix_is}
use Rattle.metadata.proofs.DecimalLaws.{unsigned-stripped}
use Rattle.metadata.proofs.decimal.behind_plus.Goals as goal

pub returns : goal.returns
returns c =
    let text = c.args.text.now in
    let stripped = strip_prefix_is Decides-eqb text (43 ∷ []) c.strip_prefix.result c.strip_prefix.ensures.cases in
    ap (λ (b : Bor (List ℕ)). b.now) c.unwrap_or.ensures ∙ unsigned-stripped text c.strip_prefix.result stripped c.args.text refl
