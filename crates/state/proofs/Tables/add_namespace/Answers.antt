-- `add_namespace`: a full table shows no state that may get one more (`extended-full`). Else the row that enters keeps the records
-- (`met-records`); then by the record's value: 0, and this is its first namespace (`extended-first`), or it has one (`extended-again`).
use native.Mathlib.Omega.{arith}
use mathlib.Core.Path.{sym, ap, ◌∙◌}
use lib.ListN.{length}
use Rattle.state.specs.Cells.{records, id_by}
use Rattle.state.proofs.FrameLaws.{room-for}
use Rattle.state.proofs.ExtendLaws.{met-records, extended-again, extended-first, extended-full}
use Rattle.state.proofs.Tables.add_namespace.Goals as goal

pub returns-then-count_of : goal.returns-then-count_of
returns-then-count_of c =
    extended-full c.args.i (id_by c.args.id) (omega arith)

pub add_held-requires : goal.add_held-requires
add_held-requires c =
    (c.id_number-n.ensures.1, let r = room-for records c.args.self.now.good in let b = c.requires in omega arith, omega arith)

pub value_of-requires : goal.value_of-requires
value_of-requires c = (
  c.add_held.new.self.good.lies records,
  let e = ap length
      (met-records c.id_number-n.ensures.0 c.id_number-n.ensures.1 c.requires c.add_held.ensures) in let b = c.requires in omega arith,
)

pub set_first-requires : goal.set_first-requires
set_first-requires c = (
  let e = ap length
      (met-records c.id_number-n.ensures.0 c.id_number-n.ensures.1 c.requires c.add_held.ensures) in let b = c.requires in omega arith,
  c.id_number-n.ensures.1,
)

pub returns-then-value_of-eq0 : goal.returns-then-value_of-eq0
returns-then-value_of-eq0 c =
    extended-first c.id_number-n.ensures.0 c.id_number-n.ensures.1 c.requires c.add_held.ensures (sym c.value_of.ensures ∙ c.if-value_of-eq0.true)
    c.set_first.ensures

pub returns-else-value_of-eq0 : goal.returns-else-value_of-eq0
returns-else-value_of-eq0 c =
    extended-again c.id_number-n.ensures.0 c.id_number-n.ensures.1 c.requires c.add_held.ensures (λ e. c.if-value_of-eq0.false (c.value_of.ensures ∙ e))
