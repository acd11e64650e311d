-- `fixed`: a width below 9 is the number of bytes to skip; else the pieces are gone through.
use mathlib.Core.Path.{sym, ap, ◌∙◌, subst}
use Prim.Native.Nat.{ℕ, ◌<◌}
use Rattle.tree.specs.Layout.{skip_at}
use Rattle.tree.proofs.TagWidthLaws.{fixed-skip}
use Rattle.tree.proofs.access.fixed.Goals as goal

pub returns-then-width-lt9 : goal.returns-then-width-lt9
returns-then-width-lt9 c =
    let a = c.args in
    let w = c.width_of-width.ensures in
    c.skip.ensures
    ∙ ap (λ (n : ℕ). skip_at a.at n a.stop) w
    ∙ sym (fixed-skip a.s.now a.at a.stop c.requires.0 a.tag (subst (λ (n : ℕ). n < 9) w c.if-width-lt9.true))
