-- `sole_namespace`: each return has its law of SoleLaws: no field, just one specifier, more of them.
-- More of them means that the specifiers behind the first do not stop where they start.
use native.Mathlib.Omega.{arith}
use mathlib.Core.Path.{◌∙◌}
use Rattle.imports.proofs.SoleLaws.{sole-short, sole-is, sole-more}
use Rattle.imports.proofs.parts.sole_namespace.Goals as goal

pub returns-in_err-first : goal.returns-in_err-first
returns-in_err-first c =
    rw c.from_residual.ensures (sole-short c.row.result c.next.new.self c.row.ensures c.in_err-first.ensures.steps)

pub specifiers_end-requires : goal.specifiers_end-requires
specifiers_end-requires c =
    let g = c.in_ok-first.ensures.steps in
    let i = c.next.new.self.inside.0 in
    let next = g.3 in
    let end = g.4 ∙ c.row.ensures.2 in
    omega arith

pub returns-then-specifiers_end-first : goal.returns-then-specifiers_end-first
returns-then-specifiers_end-first c =
    sole-is c.row.result c.next.new.self c.row.ensures c.in_ok-first.first c.in_ok-first.ensures.steps
    c.namespace_of.result c.if-specifiers_end-first.true c.specifiers_end.ensures c.namespace_of.ensures

pub returns-else-specifiers_end-first : goal.returns-else-specifiers_end-first
returns-else-specifiers_end-first c =
    sole-more c.row.result c.next.new.self c.row.ensures c.in_ok-first.first c.in_ok-first.ensures.steps
    c.if-specifiers_end-first.false c.specifiers_end.ensures
