-- `extract_in`: one way; `leaves-extracted` takes the contracts of the extraction, of `scope_bytes` and of `extract_answer` together.
use Rattle.tychodrel.proofs.ExportedLaws.{leaves-extracted}
use Rattle.tychodrel.proofs.extract_in.Goals as goal

pub returns : goal.returns
returns c =
    leaves-extracted c.extract_import_info-r.result (rw c.modes_of.ensures at c.extract_import_info-r.ensures.0)
    c.scope_bytes.ensures c.report_bytes.ensures c.extract_answer.ensures
