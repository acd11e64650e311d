-- `resolve_in`: one way; `leaves-resolved` takes the contracts of the resolving, of `scope_bytes` and of `resolve_answer` together.
use Rattle.tychodrel.proofs.ExportedLaws.{leaves-resolved}
use Rattle.tychodrel.proofs.resolve_in.Goals as goal

pub returns : goal.returns
returns c =
    leaves-resolved c.resolve_imports-r.result (rw c.modes_of.ensures at c.resolve_imports-r.ensures.0)
    c.scope_bytes.ensures c.report_bytes.ensures c.resolve_answer.ensures
