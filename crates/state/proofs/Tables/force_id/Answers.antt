-- `force_id`: an id without a hint is in no table, and nothing changes (`forced-nowhere`). Else by what `holder` found after the id was
-- forgotten: no record, and this is all (`forced-none`), or a record, whose source is forced (`forced-some`).
use mathlib.Core.Path.{sym, ap, subst, ◌∙◌}
use Rattle.inputs.specs.Lists.{find}
use Rattle.extraction_rules.specs.First.{holds_namespace}
use Rattle.state.specs.Cells.{id_by}
use Rattle.state.specs.Does.{Tells, source_of, source_by}
use Rattle.state.proofs.ForcedLaws.{forced-none, forced-some, forced-nowhere}
use Rattle.state.proofs.Tables.force_id.Goals as goal

pub returns-then-hint_of-eq0 : goal.returns-then-hint_of-eq0
returns-then-hint_of-eq0 c =
    forced-nowhere c.id_number.result c.args.self.now.good c.id_number.ensures.0 c.id_number.ensures.1
    (sym c.hint_of.ensures ∙ c.if-hint_of-eq0.true)

pub returns-in_default : goal.returns-in_default
returns-in_default c =
    forced-none (id_by c.args.id) c.forget.ensures
    (subst (Tells (λ s. source_of (find (holds_namespace (id_by c.args.id)) s.collected)) c.forget.new.self.cells)
    (ap source_by c.in_default.is) c.holder.ensures)

pub returns-in-Some : goal.returns-in-Some
returns-in-Some c =
    forced-some (id_by c.args.id) c.forget.ensures
    (subst (Tells (λ s. source_of (find (holds_namespace (id_by c.args.id)) s.collected)) c.forget.new.self.cells)
    (ap source_by c.in-Some.is) c.holder.ensures) c.force_source.ensures
