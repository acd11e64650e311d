-- `put_fields`: what is left is no longer than what was there, and a field's inside is shorter than the field.
use Rattle.std.proofs.Common.{length, ◌≤◌}
use Rattle.show.proofs.fields.+put_fields.Given as goal

abbrev pub decreases-put_fields : goal.decreases-put_fields
decreases-put_fields g l = length l.s.now

abbrev pub invariant-loop-rest : goal.invariant-loop-rest
invariant-loop-rest g l = length l.rest ≤ length l.s

abbrev pub decreases-loop-rest : goal.decreases-loop-rest
decreases-loop-rest g l = length l.rest
