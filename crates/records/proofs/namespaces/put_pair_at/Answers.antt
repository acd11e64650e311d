-- `put_pair_at`: by whether a field stands at each place; what is written of both is written of the items at the places (`if-at`).
use mathlib.Core.List.{List}
use mathlib.Core.Path.{ap, ap₂}
use Prim.Native.Nat.{ℕ}
use Rattle.tree.specs.Tree.{Field, encodes}
use Rattle.tree.specs.Rows.{tree_of}
use Rattle.records.specs.Model.{taken_of}
use Rattle.records.specs.Writes.{sieve, literal_in, item_at}
use Rattle.records.proofs.SpecifierLaws.{if-none, if-at, item-field}
use Rattle.records.proofs.CollectedLaws.{if-as, pair-nowhere, pair-nowhere-out}
use Rattle.records.proofs.namespaces.put_pair_at.Goals as goal

pub returns-in_default : goal.returns-in_default
returns-in_default c =
    let a = c.args in
    if-none (pair-nowhere a.wanted.namespaces (literal_in a.tree.now a.work.now a.wanted.place) a.work.now a.pair.at (item_at a.out.now a.pair.made) c.in_default.ensures)

pub returns-in_default-field_at : goal.returns-in_default-field_at
returns-in_default-field_at c =
    let a = c.args in
    if-none (pair-nowhere-out a.wanted.namespaces (literal_in a.tree.now a.work.now a.wanted.place) (item_at a.work.now a.pair.at) a.out.now a.pair.made c.in_default-field_at.ensures)

pub returns : goal.returns
returns c =
    let a = c.args in
    let b = a.wanted.namespaces in
    let f = λ (l : List ℕ) (w g : Field). encodes (sieve b (taken_of l w g)) in
    let i = c.in-Some.item in
    if-as
    (if-at c.in-Some-field_at.made c.in-Some-field_at.ensures (f (literal_in a.tree.now i.bytes.now a.wanted.place) (tree_of i)) c.put_pair.ensures)
    (ap₂ (λ (l : List ℕ) (w : Field). f l w (item_at a.out.now a.pair.made)) (ap (λ (s : List ℕ). literal_in a.tree.now s a.wanted.place) c.in-Some.ensures.2)
    (item-field i c.in-Some.ensures))
