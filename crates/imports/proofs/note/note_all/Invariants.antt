-- `note_all`: the invariant `Going` says that noting the fields that are left completes noting those of the whole row.
-- The loop ends at the end of the row, at a 2F (behind which a row that was read has nothing), or at a refusal.
use Rattle.imports.proofs.NoteAllLaws.{Going}
use Rattle.imports.proofs.note.note_all.Given as goal

abbrev pub invariant-loop-part : goal.invariant-loop-part
invariant-loop-part l = Going l.n.0 l.initial.row l.initial.t.cells l.initial.out l.o l.t.cells l.out l.part-iterator l.to
