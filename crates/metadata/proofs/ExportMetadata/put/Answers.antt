-- `put`: with a context, and without.
use mathlib.Core.Path.{ap}
use Rattle.writer.proofs.Wrote.{wrote-then, wrote-as}
use Rattle.metadata.specs.MetadataValue.{context_of}
use Rattle.metadata.proofs.EncodeLaws.{with-context, without-context}
use Rattle.metadata.proofs.ExportMetadata.put.Goals as goal

pub returns-in-Some : goal.returns-in-Some
returns-in-Some c =
    wrote-as (wrote-then c.put_injected-p.ensures c.put_context.ensures) (with-context c.args.self.injected _ _ (ap context_of c.in-Some.is))

pub returns-in-None : goal.returns-in-None
returns-in-None c =
    wrote-as c.put_injected-p.ensures (without-context c.args.self.injected _ (ap context_of c.in-None.is))
