-- `same_literal`: the test of two slices, item by item, is that of the definition.
use Prim.Native.Nat.{◌+◌, ◌-◌}
use mathlib.Core.Path.{◌≡◌, sym, ap₂, ◌∙◌}
use native.Mathlib.Omega.{arith}
use Rattle.std.proofs.lemmas.List.{drop-take}
use Rattle.tree.specs.Layout.{same}
use Rattle.tree.proofs.LayoutLaws.{same-pointwise}
use Rattle.records.proofs.literals.same_literal.Goals as goal

pub returns : goal.returns
returns c =
    let a = c.args in
    let e : a.at + 6 - a.at ≡ 6 = omega arith in
    (rw e at c.eq.ensures) ∙ same-pointwise _ _ ∙ ap₂ same (sym (drop-take a.at 6 a.work.now)) c.literal.ensures
