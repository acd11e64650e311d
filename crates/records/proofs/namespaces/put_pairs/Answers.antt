-- `put_pairs`: the invariant says that with what is taken of the items from here on in both trees, what is taken of all is written.
-- `taken-both` splits off one item of each; the loop ends where either row ends.
use mathlib.Core.Path.{ap, ◌∙◌}
use mathlib.Core.List.{List}
use mathlib.Core.Logic.{inl, inr}
use Prim.Native.Nat.{ℕ}
use Rattle.tree.specs.Tree.{encodes}
use Rattle.tree.specs.Rows.{tree_of}
use Rattle.tree.proofs.PartLaws.{fields-none, fields-more}
use Rattle.records.specs.Model.{taken_of}
use Rattle.records.specs.Writes.{sieve, literal_in}
use Rattle.records.proofs.SpecifierLaws.{row-step, row-stop}
use Rattle.records.proofs.CollectedLaws.{if-as, taken-end, taken-end-out, taken-both}
use Rattle.records.proofs.namespaces.put_pairs.Goals as goal

pub returns : goal.returns
returns c =
    let a = c.args in
    let z = c.loop-item.item-iterator in
    let l = literal_in a.tree.now a.items.bytes.now a.wanted.place in
    row-stop c.loop-item.invariant.1
    (elim c.in-None.ensures.steps [
      | inl n ↦ taken-end a.wanted.namespaces l _ (fields-none z.a n.0 n.1)
      | inr n ↦ taken-end-out a.wanted.namespaces l _ (fields-none z.b n.0 n.1)
    ])

pub loop-item-preserved : goal.loop-item-preserved
loop-item-preserved c =
    let a = c.args in
    let z = c.loop-item.item-iterator in
    let i = c.loop-item.invariant in
    let g = c.in-Some.ensures.steps.0 in
    let h = c.in-Some.ensures.steps.1 in
    let p = c.in-Some.item in
    let q = c.in-Some.other in (
      g.2 ∙ i.0,
      row-step z.b q c.next.new.self.b h i.1
          (taken-both a.wanted.namespaces (literal_in a.tree.now a.items.bytes.now a.wanted.place) (fields-more z.a p c.next.new.self.a g)
          (fields-more z.b q c.next.new.self.b h))
          (if-as c.put_pair-to.ensures
          (ap (λ (s : List ℕ). encodes (sieve a.wanted.namespaces (taken_of (literal_in a.tree.now s a.wanted.place) (tree_of p) (tree_of q)))) (g.5 ∙ i.0))),
    )
