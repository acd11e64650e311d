-- `is_es6`: too long, refused by reading, or read (`detect-long`, `detect-refused`, `detect-read`). `items-accepted` says that the items of
-- a module that was read stand from 3 on and are accepted, which `items_es6` requires. Why and where are those of the verdict.
use mathlib.Core.Path.{sym, ap, ◌∙◌}
use native.Mathlib.Omega.{arith}
use Rattle.std.proofs.lemmas.Result.{err_from_is_err_and}
use Rattle.tree.specs.declared.grammar.Set.TheVariants.{Module}
use Rattle.tree.specs.Read.{read}
use Rattle.tree.proofs.ReadLaws.{verdict-refused}
use Rattle.tree.proofs.PartLaws.{fields-made, row-there}
use Rattle.detection.specs.Detection.{answers, es6, Accepted}
use Rattle.detection.proofs.DetectionLaws.{items-accepted, detect-long, detect-refused, detect-read}
use Rattle.detection.proofs.is_es6.Goals as goal

pub returns-then-tree-gt-MOST : goal.returns-then-tree-gt-MOST
returns-then-tree-gt-MOST c =
    let a = c.args in
    (sym (detect-long a.modes a.tree.now c.if-tree-gt-MOST.true), tt)

pub new-requires : goal.new-requires
new-requires c =
    let i = items-accepted c.args.tree.now (sym c.read_tree.ensures ∙ c.in_ok-read_tree.was) in
    let k = i.0 in
    omega arith

pub items_es6-requires : goal.items_es6-requires
items_es6-requires c =
    let a = c.args in
    let i = items-accepted a.tree.now (sym c.read_tree.ensures ∙ c.in_ok-read_tree.was) in
    row-there c.new.result c.new.ensures Accepted i.1

pub returns : goal.returns
returns c =
    let a = c.args in
    let e = sym c.read_tree.ensures ∙ c.in_ok-read_tree.was in
    let r = fields-made c.new.result c.new.ensures in
    (ap answers (c.items_es6.ensures ∙ ap (es6 a.modes) r) ∙ sym (detect-read a.modes a.tree.now c.if-tree-gt-MOST.false e), tt)

pub returns-in_err-read_tree : goal.returns-in_err-read_tree
returns-in_err-read_tree c =
    let a = c.args in
    let u = c.in_err-read_tree.field-0.0 in
    let e = sym c.read_tree.ensures ∙ c.in_err-read_tree.was in
    let passed = err_from_is_err_and c.from_residual.result c.from_residual.ensures.1 in
    rw (passed.1, passed.2) (sym (detect-refused a.modes a.tree.now u c.if-tree-gt-MOST.false e), verdict-refused (read Module a.tree.now) e)
