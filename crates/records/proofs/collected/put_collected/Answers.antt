-- `put_collected`: no chain has begun (`unchained-start`); then the imports are listed and chained (`charted-all`), and so the records are
-- written.
use native.Mathlib.Omega.{arith}
use Rattle.std.proofs.lemmas.List.{length-take}
use Rattle.records.proofs.ListingLaws.{unchained-start}
use Rattle.records.proofs.ChainLaws.{charted-all}
use Rattle.records.proofs.collected.put_collected.Goals as goal

pub link_imports-requires : goal.link_imports-requires
link_imports-requires c = (unchained-start, simp length-take (omega (arith, c.list_imports-swept.array_long)))

pub put_each-requires : goal.put_each-requires
put_each-requires c =
    charted-all c.args.work.now c.args.out.now _ _ c.list_imports-swept.ensures.1 c.link_imports.ensures.0 c.link_imports.ensures.1
