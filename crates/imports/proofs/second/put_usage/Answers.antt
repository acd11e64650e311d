-- `put_usage`: by whether the usage at i is one of the id. `usage-is` and `usage-other` say that with what is written here and the
-- usages from i + 1 on, those from i on are written.
use Rattle.state.specs.Cells.{id_by}
use Rattle.imports.proofs.TakenLaws.{usage-is, usage-other}
use Rattle.imports.proofs.second.put_usage.Goals as goal

pub returns-in-Some : goal.returns-in-Some
returns-in-Some c =
    usage-is (id_by c.args.id) c.args.i c.usage_at.ensures c.in-Some.property c.in-Some.is c.put_named.ensures

pub returns-in-None : goal.returns-in-None
returns-in-None c =
    usage-other (id_by c.args.id) c.args.i c.usage_at.ensures c.in-None.is
