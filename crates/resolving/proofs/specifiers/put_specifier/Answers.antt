-- `put_specifier`: the fixed bytes of a field that was read are whole (`read-fixed`). Then by the specifier: `specifier-by` says what the rule
-- makes of each kind. `named-inside` says that a 20 has its kind byte.
use mathlib.Core.Path.{sym, ◌∙◌}
use native.Mathlib.Omega.{arith}
use Prim.Native.Nat.{◌+◌}
use Rattle.std.proofs.lemmas.Slice.{between_is}
use Rattle.tree.proofs.AccessLaws.{upto-in}
use Rattle.writer.proofs.Wrote.{wrote-as}
use Rattle.resolving.proofs.WritesLaws.{puts-done, puts-as}
use Rattle.resolving.proofs.SpecifiersLaws.{read-fixed, named-inside, specifier-by, default-bytes, namespace-bytes}
use Rattle.resolving.proofs.specifiers.put_specifier.Goals as goal

pub unwrap-end-requires : goal.unwrap-end-requires
unwrap-end-requires c =
    read-fixed c.requires c.fixed.ensures

pub slice_bounds-bytes-count : goal.slice_bounds-bytes-count
slice_bounds-bytes-count c =
    let p = c.args.part in
    let i = upto-in p.bytes.now _ (p.at + 3) p.stop p.whole.0 (sym c.fixed.ensures ∙ c.unwrap-end.ensures) in omega arith

pub slice_bounds-bytes-start : goal.slice_bounds-bytes-start
slice_bounds-bytes-start c =
    let p = c.args.part in
    let i = upto-in p.bytes.now _ (p.at + 3) p.stop p.whole.0 (sym c.fixed.ensures ∙ c.unwrap-end.ensures) in
    let f = p.whole.1 in omega arith

pub slice_bounds-bytes-end : goal.slice_bounds-bytes-end
slice_bounds-bytes-end c =
    let p = c.args.part in
    let i = upto-in p.bytes.now _ (p.at + 3) p.stop p.whole.0 (sym c.fixed.ensures ∙ c.unwrap-end.ensures) in
    let f = p.whole.1 in omega arith

pub specifier_of-requires : goal.specifier_of-requires
specifier_of-requires c =
    let p = c.args.part in
    let e = sym c.fixed.ensures ∙ c.unwrap-end.ensures in
    let i = upto-in p.bytes.now _ (p.at + 3) p.stop p.whole.0 e in
    λ h. let k = named-inside c.args.all p c.unwrap-end.result e h in omega arith

pub returns-in-Named : goal.returns-in-Named
returns-in-Named c =
    let a = c.args in
    let e = sym c.fixed.ensures ∙ c.unwrap-end.ensures in
    puts-as (specifier-by a.all a.part c.unwrap-end.result e (sym c.specifier_of.ensures ∙ c.in-Named.is))
    (rw (between_is a.part.bytes.now (a.part.at + 3) c.unwrap-end.result) at c.put_named.ensures)

pub returns-in-Default : goal.returns-in-Default
returns-in-Default c =
    let a = c.args in
    let e = sym c.fixed.ensures ∙ c.unwrap-end.ensures in
    puts-done (specifier-by a.all a.part c.unwrap-end.result e (sym c.specifier_of.ensures ∙ c.in-Default.is))
    (wrote-as (rw (between_is a.part.bytes.now (a.part.at + 3) c.unwrap-end.result) at c.put_leaf.ensures) (default-bytes _))

pub returns-in-Namespace : goal.returns-in-Namespace
returns-in-Namespace c =
    let a = c.args in
    let e = sym c.fixed.ensures ∙ c.unwrap-end.ensures in
    puts-done (specifier-by a.all a.part c.unwrap-end.result e (sym c.specifier_of.ensures ∙ c.in-Namespace.is))
    (wrote-as (rw (between_is a.part.bytes.now (a.part.at + 3) c.unwrap-end.result, c.from.ensures) at c.put_leaf-in-Namespace.ensures) (namespace-bytes a.all _))
