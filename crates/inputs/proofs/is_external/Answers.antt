-- `is_external`: the chunks of two bytes are the atoms (`atoms-yielded`), and an atom among them is found by its number (`among-any`).
use Prim.Native.Nat.{ℕ}
use mathlib.Core.Path.{◌∙◌}
use mathlib.Core.List.{List}
use native.Mathlib.Omega.{arith}
use lib.Dec.{eqb}
use Rattle.std.proofs.Common.{rules, tests}
use Rattle.std.proofs.lemmas.Iterator.Search.{any_from_yields_List}
use Rattle.tree.specs.Layout.{two_at}
use Rattle.inputs.proofs.TableLaws.{atoms-yielded, among-any}
use Rattle.inputs.proofs.is_external.Goals as goal

pub returns : goal.returns
returns c =
    let l = c.args.externals.now in
    let m = c.args.atom.0 in
    let road = atoms-yielded l c.chunks_exact.ensures.rest c.chunks_exact.ensures.size in
    any_from_yields_List (λ (x : List ℕ). eqb m (two_at x 0)) _ _ c.any.result c.any.ensures.ran road (λ x b q k. search (rules, tests))
    ∙ among-any m (omega arith) l (λ i. (c.type_inv.externals i).fits)
