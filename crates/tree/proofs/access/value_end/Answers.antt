-- `value_end`: a value is skipped by its width (`value-skips`).
use mathlib.Core.Path.{sym, ap, ◌∙◌}
use Prim.Native.Nat.{ℕ}
use Rattle.tree.specs.Layout.{skip_at}
use Rattle.tree.proofs.WidthLaws.{value-skips}
use Rattle.tree.proofs.access.value_end.Goals as goal

pub returns : goal.returns
returns c =
    let a = c.args in
    c.skip.ensures ∙ ap (λ (n : ℕ). skip_at a.at n a.stop) c.value_width.ensures ∙ sym (value-skips a.v a.at a.stop)
