-- `names_twice_in`: the invariant says that this half names a source twice in the table just where one of its rows that are left has a source
-- that was met before, so that its bit is set, or two of them have the same (`twice_from`). A row of the other half is passed (`twice-past`);
-- one of this half is a hit (`twice-here`), or its bit is set now and it is passed (`twice-on`); with fewer than four bytes left there is no
-- row (`twice-end`).
use mathlib.Core.Path.{◌≡◌}
use lib.ListN.{length}
use Rattle.std.specs.Slice.Iter.{chunks_exact_rest, chunks_exact_size}
use Rattle.inputs.specs.Bitmap.{half_of}
use Rattle.inputs.specs.Table.{rows_in, repeats}
use Rattle.inputs.proofs.SeenLaws.{twice_from, Left}
use Rattle.inputs.proofs.names_twice_in.Given as goal

abbrev pub invariant-loop-row : goal.invariant-loop-row
invariant-loop-row l = (repeats (half_of l.half (rows_in l.table)) ≡ twice_from l.seen (half_of l.half (rows_in (chunks_exact_rest l.row-iterator))))
    × Left (chunks_exact_size l.row-iterator) (chunks_exact_rest l.row-iterator) × (length l.seen ≡ 512)
