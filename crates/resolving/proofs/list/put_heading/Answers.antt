-- `put_heading`: the writes follow one another (`wrote-then`); `heading-bytes` says that their bytes are those of the heading.
use mathlib.Core.Path.{ap}
use native.Mathlib.Omega.{arith}
use Rattle.scope.specs.declared.id.SyntaxContext.{SyntaxContext}
use Rattle.writer.proofs.Wrote.{wrote-as, wrote-then}
use Rattle.resolving.proofs.ListLaws.{heading-bytes}
use Rattle.resolving.proofs.list.put_heading.Goals as goal

pub returns : goal.returns
returns c =
    wrote-as
    (wrote-then
    (wrote-then
    (wrote-then (wrote-then (wrote-then c.put-a.ensures c.put_u16-b.ensures) c.put_u16-c.ensures) c.put_u32-d.ensures)
    c.put_u32-e.ensures) c.put_all.ensures)
    (heading-bytes c.args.kind c.args.id.0 c.args.file.0 _ _ c.args.literal.now
    (omega arith) (omega arith) (ap (λ (x : SyntaxContext). x.0) c.local_ctxt.ensures)
    (ap (λ (x : SyntaxContext). x.0) c.export_ctxt.ensures))
