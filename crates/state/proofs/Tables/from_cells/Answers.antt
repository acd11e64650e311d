-- `from_cells`: what is copied is the front of a good array, which is good by itself (`front-good`).
use mathlib.Core.Path.{sym, subst}
use Rattle.std.proofs.lemmas.List.{length-take-le}
use Rattle.state.specs.Cells.{Good}
use Rattle.state.proofs.FrontLaws.{front-good}
use Rattle.state.proofs.Tables.from_cells.Goals as goal

pub copy_from_slice-requires : goal.copy_from_slice-requires
copy_from_slice-requires c =
    sym (length-take-le 22354 c.args.cells.now c.requires.size)

pub invariant_of-result : goal.invariant_of-result
invariant_of-result c =
    record { good = subst Good (sym c.copy_from_slice.ensures.after) (front-good c.requires) }
