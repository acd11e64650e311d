-- `put_import_at`: by whether a field stands there; what is written of it is written of the item at the place (`if-at`).
use Rattle.tree.specs.Layout.{two}
use Rattle.tree.specs.Tree.{Field, encodes}
use Rattle.records.specs.Model.{gathered_of}
use Rattle.records.specs.Writes.{sieve}
use Rattle.records.proofs.SpecifierLaws.{if-none, if-at}
use Rattle.records.proofs.CollectedLaws.{gathered-nowhere}
use Rattle.records.proofs.sources.put_import_at.Goals as goal

pub returns-in-Some : goal.returns-in-Some
returns-in-Some c =
    let w = c.args.wanted in
    if-at c.in-Some.item c.in-Some.ensures (λ (f : Field). encodes (sieve w.namespaces (gathered_of (two w.value.0) f))) c.put_import.ensures

pub returns-in-None : goal.returns-in-None
returns-in-None c =
    let a = c.args in if-none (gathered-nowhere a.wanted.namespaces a.wanted.value.0 a.work.now a.at c.in-None.ensures)
