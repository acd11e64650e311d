-- `resolve_imports`: a call that turns back before its list leaves the scope and zeros (`refused-early`). One that does not has read its records
-- (`given-read`), and each of their sources has its number (`given-all`), as `listing` asks; what it leaves is what the list leaves (`answers-list`).
use lib.ListN.{length}
use mathlib.Core.Path.{ap, ◌∙◌}
use Rattle.report.specs.declared.Report.{Report}
use Rattle.scope.specs.ScopeValue.{modules_of}
use Rattle.writer.specs.Finished.{zeroed}
use Rattle.resolving.specs.Answer.{left_by}
use Rattle.resolving.proofs.AnswerLaws.{given-read, given-all, refused-early, answers-list}
use Rattle.resolving.proofs.resolve_imports.Goals as goal

pub listing-requires : goal.listing-requires
listing-requires c =
    let a = c.args in
    let given = c.in-Ok.ensures.rules a.modes in (
      given-read a.modes a.table.now a.records.now (modules_of a.scope) given,
      given-all a.modes a.table.now a.records.now (modules_of a.scope) given,
    )

pub returns-in-Ok : goal.returns-in-Ok
returns-in-Ok c =
    let a = c.args in
    let given = c.in-Ok.ensures.rules a.modes in
    let k = c.listing in (
      ap (λ (n : Report). left_by k.result (modules_of c.in-Ok.new) n k.new.list) c.no_counts.ensures
          ∙ k.ensures.list ∙ answers-list a.modes a.table.now a.records.now (modules_of a.scope) (length a.list.now) given,
      k.ensures.read,
    )

pub returns-in-Err : goal.returns-in-Err
unfolding zeroed
returns-in-Err c =
    let a = c.args in
    let turned = c.in-Err.ensures in
    let early = refused-early a.modes a.table.now a.records.now (modules_of a.scope) (length a.list.now) c.in-Err.error (turned.rules a.modes) c.refuse.ensures.1 in
    rw c.refuse.ensures.0 (early, turned.unread)
