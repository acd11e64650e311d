-- `number_source`: by whether the source resolves, and then by whether a number was left; each return has its law of NumbersLaws.
use mathlib.Core.Path.{sym, ap, ◌∙◌}
use Rattle.inputs.specs.Table.{rows_in}
use Rattle.inputs.specs.ResolvedValue.{file_by}
use Rattle.scope.specs.ScopeValue.{modules_of}
use Rattle.tree.specs.Layout.{two}
use Rattle.resolving.proofs.NumbersLaws.{number-nowhere, number-given, number-over}
use Rattle.resolving.proofs.sources.number_source.Goals as goal

pub returns-in_default : goal.returns-in_default
returns-in_default c =
    let a = c.args in
    number-nowhere (rows_in a.table.now) (two a.source.0) (modules_of a.scope) a.place (sym c.resolve.ensures ∙ ap file_by c.in_default.is)

pub returns-in-Ok : goal.returns-in-Ok
returns-in-Ok c =
    let a = c.args in
    number-given (rows_in a.table.now) (two a.source.0) (modules_of a.scope) a.place c.gen_id-g.result (sym c.resolve.ensures ∙ ap file_by c.in-Some.is) c.gen_id-g.ensures c.in-Ok.is

pub returns-in-Err : goal.returns-in-Err
returns-in-Err c =
    let a = c.args in
    number-over (rows_in a.table.now) (two a.source.0) (modules_of a.scope) a.place c.gen_id-g.result (sym c.resolve.ensures ∙ ap file_by c.in-Some.is) c.gen_id-g.ensures c.in-Err.is
