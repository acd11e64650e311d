-- `link_imports`: the invariant says that the imports from i on are chained, and that no place has changed; `linked-step` puts the one in front
-- of them at the start of its chain.
use Prim.Native.Nat.{◌-◌}
use mathlib.Core.Path.{refl, ◌∙◌}
use native.Mathlib.Omega.{arith}
use lib.ListN.{get_or}
use Rattle.records.specs.declared.places.Import.{Import}
use Rattle.records.specs.Listing.{no_import}
use Rattle.records.proofs.ChainLaws.{linked-start, linked-step}
use Rattle.records.proofs.places.link_imports.Goals as goal

pub loop-i-init : goal.loop-i-init
loop-i-init c = (linked-start c.args.work.now c.args.first.now c.args.listed.now c.requires.1 c.requires.0, refl)

pub loop-i-preserved : goal.loop-i-preserved
loop-i-preserved c =
    let i = get_or c.loop-i.listed (c.loop-i.i - 1) no_import in
    let x : Import = record { at = i.at; made = i.made; next = get_or c.loop-i.first c.chain_of-chain.result 0 } in
    let k = linked-step c.args.work.now c.loop-i.first c.loop-i.listed c.loop-i.i c.chain_of-chain.result x (omega arith) (omega arith) c.chain_of-chain.ensures.1
    c.chain_of-chain.ensures.0 refl refl c.loop-i.invariant.0 in
    (k.0, k.1 ∙ c.loop-i.invariant.1)
