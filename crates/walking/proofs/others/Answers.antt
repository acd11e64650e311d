-- `others`: by the way.
use mathlib.Core.Path.{sym, ap}
use mathlib.Core.Logic.{⊎_elim}
use Rattle.walking.specs.Walking.{others_by}
use Rattle.walking.proofs.others.Goals as goal

pub returns-in-Children : goal.returns-in-Children
unfolding others_by
returns-in-Children c =
    ⊎_elim (λ e. sym (ap others_by e)) (λ e. sym (ap others_by e)) c.in-Children.is

pub returns-in-Children-2 : goal.returns-in-Children-2
unfolding others_by
returns-in-Children-2 c =
    ⊎_elim (λ e. sym (ap others_by e)) (λ e. sym (ap others_by e)) c.in-Children.is

pub returns-in-Member : goal.returns-in-Member
unfolding others_by
returns-in-Member c =
    sym (ap others_by c.in-Member.is)
