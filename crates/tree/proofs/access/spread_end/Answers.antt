-- `spread_end`: the byte is there and 0 or 1, or it is none of these, or it is not there.
use mathlib.Core.Path.{sym}
use Rattle.tree.proofs.TagWidthLaws.{spread-upto, spread-bad, spread-cut}
use Rattle.tree.proofs.access.spread_end.Goals as goal
use Rattle.tree.proofs.access.spread_end.Goals.{else-at-stop-via-then-at-stop+else-s-at-lt2, else-at-stop-via-else-at-stop}

pub returns-then-s-at-lt2 : goal.returns-then-s-at-lt2
returns-then-s-at-lt2 c =
    sym (spread-upto c.args.s.now c.args.at c.args.stop c.if-at-stop.true c.if-s-at-lt2.true)

pub returns-else-at-stop : goal.returns-else-at-stop
returns-else-at-stop c =
    elim c.else-at-stop.branch [
      | else-at-stop-via-then-at-stop+else-s-at-lt2 w ↦ sym (spread-bad c.args.s.now c.args.at c.args.stop w.if-at-stop.true w.if-s-at-lt2.false)
      | else-at-stop-via-else-at-stop w ↦ sym (spread-cut c.args.s.now c.args.at c.args.stop w.if-at-stop.false)
    ]
