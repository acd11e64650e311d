-- `put_list`: by whether `put_records` refused. `puts-field` frames the records as a 03; `puts-parts` passes the refusal on.
use Rattle.std.proofs.lemmas.Result.{err_from_is_err_and}
use Rattle.writer.proofs.Wrote.{wrote-none}
use Rattle.resolving.proofs.WritesLaws.{puts-field, puts-parts}
use Rattle.resolving.proofs.list.put_list.Goals as goal

pub returns : goal.returns
returns c =
    puts-field c.open_field-content.ensures wrote-none c.put_records.ensures c.in_ok-p.was c.close_field.ensures

pub returns-in_err-p : goal.returns-in_err-p
returns-in_err-p c =
    let passed = err_from_is_err_and c.from_residual.result c.from_residual.ensures.1 in
    rw (passed.1, passed.2) (puts-parts c.open_field-content.ensures wrote-none c.put_records.ensures c.in_err-p.was)
