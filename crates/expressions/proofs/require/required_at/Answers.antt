-- `required_at`: five laws of RequiredAtLaws name the condition of a require call that fails first; the sixth leaves the rest to `source_in`.
use mathlib.Core.Path.{sym, ◌∙◌}
use native.Mathlib.Omega.{arith}
use Rattle.std.proofs.Common.{◌≡◌, rules}
use Rattle.expressions.proofs.RequiredAtLaws.{call-off, call-other, call-bare, call-nameless, call-misnamed, call-named}
use Rattle.expressions.proofs.require.required_at.Goals.{then-not-counts_require-via-then-not-counts_require, then-not-counts_require-via-else-not-counts_require+then-tag-ne101}
use Rattle.expressions.proofs.require.required_at.Goals as goal

pub returns-then-not-counts_require : goal.returns-then-not-counts_require
returns-then-not-counts_require c =
    elim c.then-not-counts_require.branch [
      | then-not-counts_require-via-then-not-counts_require w ↦ call-off c.args.part.now c.counts_require.ensures w.if-not-counts_require.true
      | then-not-counts_require-via-else-not-counts_require+then-tag-ne101 w ↦
          call-other c.args.part.now (λ e. w.if-tag-ne101.true (w.tag.ensures ∙ e))
    ]

pub row-parts-requires : goal.row-parts-requires
row-parts-requires c = c.args.part.now.whole.0

pub returns-in_err-callee : goal.returns-in_err-callee
returns-in_err-callee c =
    rw c.from_residual.ensures
    (call-bare c.args.part.now c.counts_require.ensures c.if-not-counts_require.false (sym c.tag.ensures ∙ c.if-tag-ne101.false)
    c.row-parts.result c.row-parts.ensures c.next.new.self c.in_err-callee.ensures.steps)

pub returns-in_err-id : goal.returns-in_err-id
returns-in_err-id c =
    let o = c.in_ok-callee in
    rw c.from_residual-in_err-id.ensures
    (call-nameless c.args.part.now c.counts_require.ensures c.if-not-counts_require.false (sym c.tag.ensures ∙ c.if-tag-ne101.false)
    c.row-parts.result c.row-parts.ensures o.callee c.next.new.self o.ensures.steps
    c.ident_after.result c.is_second.ensures c.ident_after.ensures c.in_err-id.was)

pub returns-then-ne : goal.returns-then-ne
returns-then-ne c =
    let o = c.in_ok-callee in
    let h : c.in_ok-id.id.0.0 ≡ 0 → ⊥ = search rules in
    call-misnamed c.args.part.now c.counts_require.ensures c.if-not-counts_require.false (sym c.tag.ensures ∙ c.if-tag-ne101.false)
    c.row-parts.result c.row-parts.ensures o.callee c.next.new.self o.ensures.steps
    c.ident_after.result c.is_second.ensures c.ident_after.ensures c.in_ok-id.was (omega arith) h

pub returns : goal.returns
returns c =
    let o = c.in_ok-callee in
    call-named c.args.part.now c.counts_require.ensures c.if-not-counts_require.false (sym c.tag.ensures ∙ c.if-tag-ne101.false)
    c.row-parts.result c.row-parts.ensures o.callee c.next.new.self o.ensures.steps
    c.ident_after.result c.is_second.ensures c.ident_after.ensures c.in_ok-id.was
    (omega arith) c.source_in.result (let h : c.in_ok-id.id.0.0 ≡ 0 = search rules in h) c.source_in.ensures
