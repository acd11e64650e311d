-- `children` and `content`: the loop's invariant: the verdict from here is the verdict from the start, the rules unpacked.
-- The measure is a field's length, and a row's length and one more: a field is no longer than the row around it, and its parts start
-- behind its head of three bytes. A field whose packed rule is 0 has no parts: it is good where its fixed bytes are all of it, and else
-- what follows them is misplaced.
use mathlib.Core.Path.{sym, ◌∙◌}
use Prim.Native.Nat.{◌+◌}
use Rattle.std.proofs.lemmas.Result.{err_from_is_err_and}
use native.Mathlib.Omega.{arith}
use Rattle.tree.specs.Packed.{unpack_rule}
use Rattle.tree.proofs.AccessLaws.{upto-in}
use Rattle.tree.proofs.ReadLaws.{child-in, content-short, children-verdict, end-done, end-lacks, after-good, after-refused}
use Rattle.tree.proofs.LeafLaws.{parts-read, leaf-good, leaf-bad}
use Rattle.tree.proofs.read.+children_content.Goals as goal

pub children-returns-in-Err : goal.children-returns-in-Err
children-returns-in-Err t c =
    let l = c.loop-at in
    let a = c.args in
    sym (l.invariant.0
    ∙ children-verdict a.s.now l.at a.end a.depth (unpack_rule l.rule) a.place _ l.invariant.2 (sym c.in-Err.ensures))

pub children-content-requires : goal.children-content-requires
children-content-requires t c =
    let l = c.loop-at in
    let a = c.args in
    let i = child-in a.s.now l.at a.end a.depth (unpack_rule l.rule) l.invariant.2 (sym c.in-Ok.ensures) in
    omega arith

pub children-loop-at-smaller : goal.children-loop-at-smaller
children-loop-at-smaller t c =
    let l = c.loop-at in
    let a = c.args in
    let i = child-in a.s.now l.at a.end a.depth (unpack_rule l.rule) l.invariant.2 (sym c.in-Ok.ensures) in
    omega arith

pub children-returns-in_err-content : goal.children-returns-in_err-content
children-returns-in_err-content t c =
    let l = c.loop-at in
    let a = c.args in
    let f = err_from_is_err_and c.from_residual.result c.from_residual.ensures.1 in
    rw (f.1, f.2) (sym (l.invariant.0
    ∙ children-verdict a.s.now l.at a.end a.depth (unpack_rule l.rule) a.place _ l.invariant.2 (sym c.in-Ok.ensures)
    ∙ after-refused _ (sym c.in_err-content.ensures)))

pub children-loop-at-preserved : goal.children-loop-at-preserved
children-loop-at-preserved t c =
    let l = c.loop-at in
    let a = c.args in
    let i = child-in a.s.now l.at a.end a.depth (unpack_rule l.rule) l.invariant.2 (sym c.in-Ok.ensures) in (
      l.invariant.0
          ∙ children-verdict a.s.now l.at a.end a.depth (unpack_rule l.rule) a.place _ l.invariant.2 (sym c.in-Ok.ensures)
          ∙ after-good _ (sym c.in_ok-content.ensures),
      omega arith,
      omega arith,
    )

pub children-returns-then-done : goal.children-returns-then-done
children-returns-then-done t c =
    let l = c.loop-at in
    let a = c.args in
    sym (l.invariant.0 ∙ end-done a.s.now l.at a.end a.depth (unpack_rule l.rule) a.place (omega arith) (sym c.if-done.ensures))

pub children-returns-else-done : goal.children-returns-else-done
children-returns-else-done t c =
    let l = c.loop-at in
    let a = c.args in
    sym (l.invariant.0 ∙ end-lacks a.s.now l.at a.end a.depth (unpack_rule l.rule) a.place (omega arith) (sym c.if-done.ensures))

pub content-returns-in_default : goal.content-returns-in_default
content-returns-in_default t c =
    let a = c.args in
    sym (content-short a.s.now a.at a.stop a.depth (sym c.in_default.ensures))

pub content-returns-then-from-stop : goal.content-returns-then-from-stop
content-returns-then-from-stop t c =
    let a = c.args in
    let e = sym c.in-Some.ensures in
    let q = c.rule_of-rule in
    sym (leaf-good a.s.now a.at a.stop a.depth q.result e q.ensures c.if-rule-eq0.true c.if-from-stop.true)

pub content-returns-else-from-stop : goal.content-returns-else-from-stop
content-returns-else-from-stop t c =
    let a = c.args in
    let e = sym c.in-Some.ensures in
    let q = c.rule_of-rule in
    let i = upto-in a.s.now _ (a.at + 3) a.stop c.requires.0 e in
    sym (leaf-bad a.s.now a.at a.stop a.depth q.result e q.ensures c.if-rule-eq0.true i.1 c.if-from-stop.false)

pub content-children-requires : goal.content-children-requires
content-children-requires t c =
    let a = c.args in
    let e = sym c.in-Some.ensures in
    let i = upto-in a.s.now _ (a.at + 3) a.stop c.requires.0 e in
    omega arith

pub content-returns : goal.content-returns
content-returns t c =
    let a = c.args in
    let e = sym c.in-Some.ensures in
    let q = c.rule_of-rule in
    c.children.ensures ∙ sym (parts-read a.s.now a.at a.stop a.depth q.result e q.ensures)
