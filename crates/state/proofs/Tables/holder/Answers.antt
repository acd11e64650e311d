-- `holder`: the least value among the id's rows is the place of the first record that holds it (`holder-told`); a place past the records is
-- shown by no state (`holder-past`).
use native.Mathlib.Omega.{arith}
use Rattle.std.specs.Prelude.{Some}
use mathlib.Core.List.{List}
use Prim.Native.Nat.{ℕ}
use mathlib.Core.Path.{sym, subst}
use Rattle.inputs.specs.Lists.{find}
use Rattle.extraction_rules.specs.First.{holds_namespace}
use Rattle.state.specs.Cells.{id_by}
use Rattle.state.specs.Does.{Tells, source_of}
use Rattle.state.proofs.RecordLaws.{holder-past, holder-told}
use Rattle.state.proofs.Tables.holder.Goals as goal

pub returns-then-i-count_of : goal.returns-then-i-count_of
returns-then-i-count_of c =
    subst (λ (x : List ℕ). Tells (λ s. source_of (find (holds_namespace (id_by c.args.id)) s.collected)) c.args.self.now.cells (Some x)) (sym c.source_at.ensures)
    (holder-told c.id_number.ensures.0 c.id_number.ensures.1 c.in_ok-i.ensures)

pub returns-else-i-count_of : goal.returns-else-i-count_of
returns-else-i-count_of c =
    holder-past (id_by c.args.id) c.id_number.ensures.1 c.in_ok-i.ensures (omega arith)

pub returns-in_err-i : goal.returns-in_err-i
returns-in_err-i c =
    rw c.from_residual.ensures (holder-told c.id_number.ensures.0 c.id_number.ensures.1 c.in_err-i.ensures)
