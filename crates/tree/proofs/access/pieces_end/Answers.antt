-- `pieces_end`: a 75 has a spread byte alone; else the second piece starts where the first ends, which is inside.
use mathlib.Core.Path.{sym, ◌∙◌, subst}
use Rattle.tree.proofs.AccessLaws.{ReachIn, piece-in}
use Rattle.tree.proofs.access.pieces_end.Goals as goal

pub piece_end-requires-2 : goal.piece_end-requires-2
piece_end-requires-2 c =
    let r = subst (ReachIn c.args.at c.args.stop) (sym c.piece_end.ensures ∙ c.in_ok-piece_end.was) (piece-in _ _ _ _ c.requires.0) in
    (r.1, c.requires.1)
