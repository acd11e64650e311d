-- `put_placed`: nothing for 0 (`placed-none`), and elsewhere by whether a field stands there.
use mathlib.Core.Path.{sym, ap}
use Rattle.tree.specs.Tree.{encodes}
use Rattle.writer.proofs.Wrote.{wrote-as}
use Rattle.records.proofs.LazyLaws.{placed-none, pattern-none, pattern-here}
use Rattle.records.proofs.lazy.put_placed.Goals as goal

pub returns-then-place-eq0 : goal.returns-then-place-eq0
returns-then-place-eq0 c = placed-none c.args.tree.now c.args.work.now c.args.place c.if-place-eq0.true

pub returns-in-Some : goal.returns-in-Some
returns-in-Some c =
    wrote-as (pattern-here _ _ c.in-Some.pattern c.in-Some.ensures c.put_bindings.ensures) (sym (ap encodes (c.tree_with-at.ensures.pattern c.if-place-eq0.false)))

pub returns-in-None : goal.returns-in-None
returns-in-None c =
    wrote-as (pattern-none _ _ c.in-None.ensures) (sym (ap encodes (c.tree_with-at.ensures.pattern c.if-place-eq0.false)))
