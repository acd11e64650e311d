-- `put_gathered`: the invariant says that with the places of the chain from here on all that are listed are written, since nothing is written
-- of those off the chain (`import-off`). `imports-next` goes on along the chain, which leads on (`leads-on`).
-- Behind the listed imports come the others (`imports-joined`).
use mathlib.Core.Path.{◌≡◌, sym, ap, subst, ◌∙◌}
use Rattle.tree.specs.Layout.{two}
use Rattle.tree.specs.Tree.{Fields, encodes}
use Rattle.records.specs.declared.places.Chain.{Chain}
use Rattle.records.specs.Model.{gathered}
use Rattle.records.specs.Writes.{sieve}
use Rattle.records.specs.Listing.{listed_in, LeadsOn}
use Rattle.records.proofs.SpecifierLaws.{items-are, items-read}
use Rattle.records.proofs.CollectedLaws.{if-as, if-from}
use Rattle.records.proofs.ListingLaws.{imports-joined}
use Rattle.records.proofs.ChainLaws.{leads-on, gave-next, gave-none, imports-start, imports-next, imports-last}
use Rattle.records.proofs.sources.put_gathered.Goals as goal

pub loop-pair-init : goal.loop-pair-init
loop-pair-init c =
    let a = c.args in
    let g = c.into_iter-pair-iterator.ensures.into_iter_gives in
    let e : c.into_iter-pair-iterator.result.listed.now ≡ listed_in a.imports = ap (λ (x : Chain). x.listed.now) g ∙ c.chain-pair-items.ensures.0 in (
      subst LeadsOn (sym e) (leads-on c.requires.linked),
      tt,
      e,
      imports-start a.wanted.namespaces a.wanted.value.0 a.work.now a.imports.first.now (listed_in a.imports) c.requires.linked
          (ap (λ (x : Chain). x.next) g ∙ c.chain-pair-items.ensures.1),
    )

pub loop-pair-preserved : goal.loop-pair-preserved
loop-pair-preserved c =
    let a = c.args in
    let n = gave-next c.loop-pair.pair-iterator c.next.new.self c.in-Some.pair (listed_in a.imports) c.in-Some.ensures.steps c.loop-pair.invariant.2 in (
      subst LeadsOn (sym n.4) (leads-on c.requires.linked),
      tt,
      n.4,
      imports-next a.wanted.namespaces a.wanted.value.0 a.work.now a.imports.first.now (listed_in a.imports) c.requires.linked n.0 n.1 n.3 c.loop-pair.invariant.3
          c.put_import_at-to.ensures,
    )

pub returns : goal.returns
returns c =
    let a = c.args in
    imports-joined a.wanted.namespaces (two a.wanted.value.0) c.requires.listed
    (imports-last a.wanted.namespaces a.wanted.value.0 a.work.now a.imports.first.now (listed_in a.imports) c.requires.linked c.loop-pair.pair-iterator.next
    (gave-none c.loop-pair.pair-iterator c.next.new.self (listed_in a.imports) c.in-None.ensures.steps c.loop-pair.invariant.2) c.loop-pair.invariant.3)
    (if-as (if-from (items-read a.work.now a.imports.behind.at c.items_from.result c.items_from.ensures) c.put_imports.ensures)
    (ap (λ (fs : Fields). encodes (sieve a.wanted.namespaces (gathered (two a.wanted.value.0) fs))) (items-are a.work.now a.imports.behind.at c.items_from.result c.items_from.ensures)))
