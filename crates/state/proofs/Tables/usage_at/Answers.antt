-- `usage_at`: by whether the row's key is the id: its value is then the next usage in the list (`listed-is`), else the list goes on without
-- it (`listed-other`).
use mathlib.Core.Path.{sym, ap, ◌∙◌}
use Rattle.state.specs.Cells.{id_of}
use Rattle.state.proofs.UsageLaws.{listed-is, listed-other, property-small}
use Rattle.state.proofs.Tables.usage_at.Goals as goal

pub numbered_id-requires : goal.numbered_id-requires
numbered_id-requires c =
    property-small c.args.self.now.good c.requires c.value_of.ensures

pub returns-then-key_of-id_number : goal.returns-then-key_of-id_number
returns-then-key_of-id_number c =
    listed-is c.args.self.now.good c.id_number.ensures.0 c.id_number.ensures.1 c.requires (sym c.key_of.ensures ∙ c.if-key_of-id_number.true)
    (c.numbered_id.ensures ∙ ap id_of c.value_of.ensures)

pub returns-else-key_of-id_number : goal.returns-else-key_of-id_number
returns-else-key_of-id_number c =
    listed-other c.args.self.now.good c.id_number.ensures.0 c.id_number.ensures.1 c.requires (λ e. c.if-key_of-id_number.false (c.key_of.ensures ∙ e))
