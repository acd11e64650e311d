-- `put_taken`: the invariant says that with the places of the chain from here on all that are listed are written, since nothing is written of
-- those off the chain (`pair-off`). `pairs-next` goes on along the chain, which leads on (`leads-on`).
-- Behind the listed imports come the others (`pairs-joined`).
use mathlib.Core.Path.{◌≡◌, sym, ap, ap₂, subst, ◌∙◌}
use mathlib.Core.List.{List}
use Prim.Native.Nat.{ℕ}
use lib.ListN.{length}
use Rattle.tree.specs.Tree.{Fields, encodes}
use Rattle.tree.specs.Standing.{row_at}
use Rattle.tree.specs.Rows.{fields_of}
use Rattle.records.specs.Model.{taken}
use Rattle.records.specs.declared.places.Chain.{Chain}
use Rattle.records.specs.Writes.{sieve, literal_in}
use Rattle.records.specs.Listing.{listed_in, behind_in, LeadsOn}
use Rattle.records.proofs.SpecifierLaws.{items-are, items-read}
use Rattle.records.proofs.CollectedLaws.{if-as, if-from}
use Rattle.records.proofs.ListingLaws.{pairs-joined}
use Rattle.records.proofs.ChainLaws.{leads-on, gave-next, gave-none, pairs-start, pairs-next, pairs-last}
use Rattle.records.proofs.namespaces.put_taken.Goals as goal

pub loop-pair-init : goal.loop-pair-init
loop-pair-init c =
    let a = c.args in
    let g = c.into_iter-pair-iterator.ensures.into_iter_gives in
    let e : c.into_iter-pair-iterator.result.listed.now ≡ listed_in a.imports = ap (λ (x : Chain). x.listed.now) g ∙ c.chain-pair-items.ensures.0 in (
      subst LeadsOn (sym e) (leads-on c.requires.charted.linked),
      tt,
      e,
      pairs-start a.wanted.namespaces a.wanted.value.0 (literal_in a.tree.now a.work.now a.wanted.place) a.work.now a.out.now a.imports.first.now (listed_in a.imports) c.requires.charted.linked
          (ap (λ (x : Chain). x.next) g ∙ c.chain-pair-items.ensures.1),
    )

pub loop-pair-preserved : goal.loop-pair-preserved
loop-pair-preserved c =
    let a = c.args in
    let l = literal_in a.tree.now a.work.now a.wanted.place in
    let n = gave-next c.loop-pair.pair-iterator c.next.new.self c.in-Some.pair (listed_in a.imports) c.in-Some.ensures.steps c.loop-pair.invariant.2 in (
      subst LeadsOn (sym n.4) (leads-on c.requires.charted.linked),
      tt,
      n.4,
      pairs-next a.wanted.namespaces a.wanted.value.0 l a.work.now a.out.now a.imports.first.now (listed_in a.imports) c.requires.charted.linked n.0 n.1 n.2 n.3
          c.loop-pair.invariant.3 c.put_pair_at-to.ensures,
    )

pub returns : goal.returns
returns c =
    let a = c.args in
    let l = literal_in a.tree.now a.work.now a.wanted.place in
    let f = c.items_from-items.result in
    let u = c.items_from-items.ensures in
    let g = c.items_from-made.result in
    let v = c.items_from-made.ensures in
    pairs-joined a.wanted.namespaces l c.requires.paired
    (pairs-last a.wanted.namespaces a.wanted.value.0 l a.work.now a.out.now a.imports.first.now (listed_in a.imports) c.requires.charted.linked
    c.loop-pair.pair-iterator.next (gave-none c.loop-pair.pair-iterator c.next.new.self (listed_in a.imports) c.in-None.ensures.steps c.loop-pair.invariant.2)
    c.loop-pair.invariant.3)
    (if-as (if-from (items-read a.out.now a.imports.behind.made g v) c.put_pairs.ensures)
    (ap₂ (λ (x : List ℕ) (fs : Fields). encodes (sieve a.wanted.namespaces (taken x fs (fields_of c.items_from-made.result))))
    (ap (λ (s : List ℕ). literal_in a.tree.now s a.wanted.place) u.0) (items-are a.work.now a.imports.behind.at f u)
    ∙ ap (λ (gs : Fields). encodes (sieve a.wanted.namespaces (taken l (row_at a.work.now (behind_in a.imports) (length a.work.now)) gs))) (items-are a.out.now a.imports.behind.made g v)))
