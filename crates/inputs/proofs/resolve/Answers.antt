-- `resolve`: the chunks of four bytes are the rows (`rows-yielded`), and the first of them with the source, found by its number, is the source's
-- row (`row-found`).
use mathlib.Core.Path.{ap, ◌∙◌}
use native.Mathlib.Omega.{arith}
use lib.Dec.{eqb}
use Rattle.std.specs.Prelude.{Some}
use Rattle.std.proofs.Common.{rules, tests}
use Rattle.std.proofs.lemmas.Iterator.Search.{find_from_yields_List}
use Rattle.tree.specs.Layout.{two, two_at}
use Rattle.inputs.specs.Table.{Row, rows_in}
use Rattle.inputs.specs.ResolvedValue.{file_by}
use Rattle.inputs.proofs.TableLaws.{rows-yielded, row-found, file-of}
use Rattle.inputs.proofs.resolve.Goals as goal

pub returns-in_err-row : goal.returns-in_err-row
returns-in_err-row c =
    let l = c.args.table.now in
    let m = c.args.source.0 in
    let road = rows-yielded l c.chunks_exact.ensures.rest c.chunks_exact.ensures.size in
    let found = find_from_yields_List (λ (r : Row). eqb (two_at r.source 0) m) _ _ c.find.result c.find.ensures.ran road (λ x b q k. search (rules, tests))
    ∙ row-found m (omega arith) l (λ i. (c.type_inv.table i).fits) in
    ap file_by c.from_residual.ensures ∙ file-of (two m) (rows_in l) (rw c.in_err-row.was at found)

pub returns : goal.returns
returns c =
    let l = c.args.table.now in
    let m = c.args.source.0 in
    let road = rows-yielded l c.chunks_exact.ensures.rest c.chunks_exact.ensures.size in
    let found = find_from_yields_List (λ (r : Row). eqb (two_at r.source 0) m) _ _ c.find.result c.find.ensures.ran road (λ x b q k. search (rules, tests))
    ∙ row-found m (omega arith) l (λ i. (c.type_inv.table i).fits) in
    ap Some c.atom_at.ensures ∙ file-of (two m) (rows_in l) (rw c.in_ok-row.was at found)
