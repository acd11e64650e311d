-- `put_gathered`: the invariant says that with the places of the chain from here on all that are listed are written, since nothing is written
-- of those off the chain (`import-off`). `imports-next` goes on along the chain, which leads on (`leads-on`).
use mathlib.Core.Path.{◌≡◌}
use Rattle.records.specs.Listing.{listed_in}
use Rattle.records.proofs.ChainLaws.{ImportsOn}
use Rattle.records.proofs.sources.put_gathered.Given as goal

abbrev pub invariant-loop-pair : goal.invariant-loop-pair
invariant-loop-pair l = (goal.iterator-loop-pair).can_next l.pair-iterator × (goal.iterator-loop-pair).is_finite l.pair-iterator
    × (l.pair-iterator.listed.now ≡ listed_in l.imports)
    × ImportsOn l.wanted.namespaces l.wanted.value.0 l.work (listed_in l.imports) l.initial.records l.o l.pair-iterator.next l.records l.to
