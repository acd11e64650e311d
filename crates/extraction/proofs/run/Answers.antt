-- `run`: the refusals of `prepare` and of each pass are passed on; then by whether the records fit. Each return has its law in TopLaws,
-- which puts the steps before it together.
use Rattle.std.proofs.Common.{◌≡◌, Err, rules}
use Rattle.std.specs.Bool.{then_some}
use Rattle.std.specs.Option.{ok_or}
use Rattle.scope.specs.ScopeValue.{modules_of}
use Rattle.extraction.specs.declared.ExtractError.TheVariants.{NoRoom}
use Rattle.extraction.specs.Answer.{lent_as, room_in}
use Rattle.extraction.proofs.TopLaws.{run-refused, run-turned, run-turned-again, run-ended}
use Rattle.extraction.proofs.run.Goals as goal

pub returns-in_err-prepare : goal.returns-in_err-prepare
returns-in_err-prepare c =
    let a = c.args in
    let h : c.from_residual.result ≡ Err c.in_err-prepare.field-0.0 = search rules in
    rw h
    (run-refused (lent_as a.file.0 a.modes a.lent.now.externals.now a.lent.now.table.now a.lent.now.tree.now) (modules_of a.scope) c.prepare.ensures
    (room_in a.work.now a.out.now a.records.now) c.in_err-prepare.was)

pub returns-in_err-n : goal.returns-in_err-n
returns-in_err-n c =
    let a = c.args in
    let h : c.from_residual-in_err-n.result ≡ Err c.in_err-n.field-0.0 = search rules in
    rw h
    (run-turned (lent_as a.file.0 a.modes a.lent.now.externals.now a.lent.now.table.now a.lent.now.tree.now) (modules_of a.scope) c.prepare.ensures a.work.now a.out.now a.records.now
    c.in_ok-prepare.was c.first_pass.ensures c.in_err-n.was)

pub returns-in_err-m : goal.returns-in_err-m
returns-in_err-m c =
    let a = c.args in
    let h : c.from_residual-in_err-m.result ≡ Err c.in_err-m.field-0.0 = search rules in
    rw h
    (run-turned-again (lent_as a.file.0 a.modes a.lent.now.externals.now a.lent.now.table.now a.lent.now.tree.now) (modules_of a.scope) c.prepare.ensures a.work.now a.out.now a.records.now
    c.in_ok-prepare.was c.first_pass.ensures c.in_ok-n.n c.in_ok-n.was c.second_pass.ensures c.in_err-m.was)

pub returns : goal.returns
returns c =
    let a = c.args in
    let h : c.ok_or.result ≡ ok_or (then_some c.deliver_records.result tt) NoRoom = search rules in
    rw h
    (run-ended (lent_as a.file.0 a.modes a.lent.now.externals.now a.lent.now.table.now a.lent.now.tree.now) (modules_of a.scope) c.prepare.ensures a.work.now a.out.now a.records.now
    c.in_ok-prepare.was c.first_pass.ensures c.in_ok-n.n c.in_ok-n.was c.second_pass.ensures c.in_ok-m.m c.in_ok-m.was c.deliver_records.result
    c.deliver_records.ensures)
