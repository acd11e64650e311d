-- `namespace_of`: each return has its law of SoleLaws: fixed bytes not whole, a 22 with its id, another tag.
-- `specifier-id` says that the id lies within the fixed bytes.
use native.Mathlib.Omega.{arith}
use mathlib.Core.Path.{sym, ◌∙◌}
use Rattle.imports.proofs.WidthLaws.{framing, framed-in}
use Rattle.imports.proofs.NoteLaws.{specifier-id, specifier-namespace}
use Rattle.imports.proofs.SoleLaws.{namespace-is, namespace-other, namespace-short}
use Rattle.imports.proofs.parts.namespace_of.Goals as goal

pub returns-in_err-fixed : goal.returns-in_err-fixed
returns-in_err-fixed c =
    rw c.from_residual.ensures (namespace-short c.args.part.now (sym c.fixed.ensures ∙ c.in_err-fixed.was))

pub id_at-requires : goal.id_at-requires
id_at-requires c =
    let w = framing c.args.part.now (sym c.fixed.ensures ∙ c.in_ok-fixed.was) in
    let t = sym c.tag.ensures ∙ c.if-tag-eq34.true in
    let h = specifier-id w (omega arith) (omega arith) in
    let i = framed-in w in
    omega arith

pub returns-then-tag-eq34 : goal.returns-then-tag-eq34
returns-then-tag-eq34 c =
    let w = framing c.args.part.now (sym c.fixed.ensures ∙ c.in_ok-fixed.was) in
    namespace-is c.args.part.now c.id_at.result
    (specifier-namespace w c.id_at.result (sym c.tag.ensures ∙ c.if-tag-eq34.true) c.id_at.ensures)

pub returns-else-tag-eq34 : goal.returns-else-tag-eq34
returns-else-tag-eq34 c =
    namespace-other c.args.part.now (sym c.fixed.ensures ∙ c.in_ok-fixed.was) (λ e. c.if-tag-eq34.false (c.tag.ensures ∙ e))
