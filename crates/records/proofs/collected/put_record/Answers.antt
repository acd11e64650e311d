-- `put_record`: one way; `record-written` joins the literal, the imports' specifiers and what was taken into the record's encoding.
use native.Mathlib.Omega.{arith}
use Rattle.records.specs.Writes.{literal_in}
use Rattle.records.proofs.CollectedLaws.{record-written}
use Rattle.records.proofs.collected.put_record.Goals as goal

pub put_gathered-q-requires : goal.put_gathered-q-requires
put_gathered-q-requires c =
    c.requires.charted

pub put_taken-p-requires : goal.put_taken-p-requires
put_taken-p-requires c =
    c.requires

pub returns : goal.returns
returns c =
    let a = c.args in
    record-written a.wanted.namespaces a.work.now a.out.now (literal_in a.tree.now a.work.now a.wanted.place) a.wanted.value.0
    c.open_field-content.ensures c.put_literal-c.ensures c.put_gathered-q.ensures c.put_taken-p.ensures c.close_field.ensures (omega arith)
