-- `list_imports`: the sweep, and no import where a tree has no places (`lists-none`).
use native.Mathlib.Omega.{arith}
use Rattle.records.proofs.ListingLaws.{lists-none}
use Rattle.records.proofs.places.list_imports.Goals as goal

pub returns : goal.returns
returns c = (omega arith, lists-none c.args.work.now c.args.out.now (omega arith) (omega arith))
