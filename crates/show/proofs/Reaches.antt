-- An end that was found lies within what it was looked for in.
use Rattle.std.proofs.Common.{ℕ, ◌≤◌, List, IfSome, Option, None, Some}
use Rattle.tree.specs.Access.{fixed_at}
use Rattle.tree.proofs.AccessLaws.{ReachIn, fixed-in}

reach-some : (at stop : ℕ) (r : Option ℕ) → ReachIn at stop r → IfSome r (λ end. (at ≤ end) × (end ≤ stop))
reach-some at stop None h = tt
reach-some at stop (Some end) h = h

pub fixed-some : (s : List ℕ) (tag at stop : ℕ) → at ≤ stop → IfSome (fixed_at s tag at stop) (λ end. (at ≤ end) × (end ≤ stop))
fixed-some s tag at stop h = reach-some at stop (fixed_at s tag at stop) (fixed-in s tag at stop h)
