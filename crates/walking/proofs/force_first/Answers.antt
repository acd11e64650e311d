-- `force_first`: by *object* and by the pass; `forced-object`, `forced-again` and `forced-first` say what the rule does then.
use Rattle.state.specs.Cells.{id_by}
use Rattle.walking.proofs.ExpressionLaws.{pass-second, pass-first, forced-object, forced-again, forced-first}
use Rattle.walking.proofs.force_first.Goals.{else-not-object-via-else-not-object, else-not-object-via-then-not-object+else-not-is_second}
use Rattle.walking.proofs.force_first.Goals as goal

pub returns-else-not-object : goal.returns-else-not-object
returns-else-not-object c =
    elim c.else-not-object.branch [
      | else-not-object-via-else-not-object w ↦ forced-object (id_by c.args.id) w.if-not-object.false
      | else-not-object-via-then-not-object+else-not-is_second w ↦
          forced-again (id_by c.args.id) c.args.object (pass-second w.is_second.ensures w.if-not-is_second.false)
    ]

pub returns-then-not-is_second : goal.returns-then-not-is_second
returns-then-not-is_second c =
    forced-first (id_by c.args.id) c.if-not-object.true (pass-first c.is_second.ensures c.if-not-is_second.true) c.force_id.ensures
