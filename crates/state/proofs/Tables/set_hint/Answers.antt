-- `set_hint`: the cell keeps what it names (`cell-grows`), and it has the hint for the id (`cell-hint`).
use native.Mathlib.Omega.{arith}
use mathlib.Core.Path.{ap, ◌∙◌}
use Prim.Native.Nat.{ℕ}
use Rattle.state.specs.Cells.{hint_in}
use Rattle.state.proofs.HintLaws.{cell-grows, cell-hint}
use Rattle.state.proofs.Tables.set_hint.Goals as goal

pub set_cell-requires : goal.set_cell-requires
set_cell-requires c =
    let grows =
    cell-grows c.cell_of-v.result _ c.args.id c.tag_for.result c.args.hint c.cell_of-v.ensures
    c.tag_for.ensures.0 c.requires.1 c.requires.2 in
    (omega arith, grows)

pub returns : goal.returns
returns c =
    let hint =
    cell-hint c.cell_of-v.result _ c.args.id c.tag_for.result c.args.hint c.cell_of-v.ensures c.tag_for.ensures.0
    c.requires.1 c.requires.2 in
    (c.set_cell.ensures.0, ap (λ (v : ℕ). hint_in v c.args.id) c.set_cell.ensures.1 ∙ hint)
