-- `is_whole`: by whether the item is an import (else `whole-other`), and by whether its literal is this one (`whole-is`) or
-- another (`whole-differs`).
use mathlib.Core.Path.{sym, ◌∙◌}
use native.Mathlib.Omega.{arith}
use Rattle.records.specs.Writes.{literal_in}
use Rattle.records.proofs.CollectedLaws.{whole-other, whole-is, whole-differs}
use Rattle.records.proofs.namespaces.is_whole.Goals as goal

pub returns-in-None : goal.returns-in-None
returns-in-None c =
    let a = c.args in whole-other (literal_in a.tree.now a.item.bytes.now a.place) _ c.in-None.ensures

pub same_literal-requires : goal.same_literal-requires
same_literal-requires c = omega (arith, c.in-Some.ensures.inside, c.args.item.whole.1)

pub returns-then-same_literal : goal.returns-then-same_literal
returns-then-same_literal c =
    let a = c.args in
    c.is_namespace.ensures
    ∙ whole-is a.item (literal_in a.tree.now a.item.bytes.now a.place) c.in-Some.parts c.in-Some.ensures (sym c.same_literal.ensures ∙ c.if-same_literal.true)

pub returns-else-same_literal : goal.returns-else-same_literal
returns-else-same_literal c =
    let a = c.args in
    c.if-same_literal.false
    ∙ whole-differs a.item (literal_in a.tree.now a.item.bytes.now a.place) c.in-Some.parts c.in-Some.ensures (sym c.same_literal.ensures ∙ c.if-same_literal.false)
