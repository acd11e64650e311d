-- `same_run`: the test of two slices, item by item, is that of the definition.
use Prim.Native.Nat.{◌+◌, ◌-◌}
use mathlib.Core.Path.{◌≡◌, sym, ap₂, ◌∙◌}
use native.Mathlib.Omega.{arith}
use Rattle.std.proofs.lemmas.List.{drop-take}
use Rattle.tree.specs.Layout.{same}
use Rattle.tree.proofs.LayoutLaws.{same-pointwise}
use Rattle.tree.proofs.layout.same_run.Goals as goal

pub returns : goal.returns
returns c =
    let a = c.args in
    let e : a.a + a.n - a.a ≡ a.n = omega arith in
    let f : a.b + a.n - a.b ≡ a.n = omega arith in
    (rw (e, f) at c.eq.ensures) ∙ same-pointwise _ _ ∙ ap₂ same (sym (drop-take a.a a.n a.s.now)) (sym (drop-take a.b a.n a.t.now))
