-- `numbered`: the tests refuse (`numbered-untested`), or the records were read (`records-good`), and a 257th file is refused (`numbered-over`), or
-- all sources get their numbers (`numbered-given`).
use mathlib.Core.Path.{sym, ap, ◌∙◌}
use Rattle.std.proofs.lemmas.Result.{err_from_is_err_and}
use Rattle.scope.specs.ScopeValue.{modules_of}
use Rattle.resolving.specs.Numbers.{number_by}
use Rattle.resolving.proofs.AnswerLaws.{records-good, numbered-untested, numbered-over, numbered-given}
use Rattle.resolving.proofs.numbered.Goals as goal

pub returns-in_err-lists : goal.returns-in_err-lists
returns-in_err-lists c =
    let a = c.args in
    let passed = err_from_is_err_and c.from_residual.result c.from_residual.ensures.1 in
    rw (passed.1, passed.2) (numbered-untested a.table.now a.records.now (modules_of a.scope) c.lists.ensures c.in_err-lists.was)

pub number_sources-requires : goal.number_sources-requires
number_sources-requires c =
    records-good c.args.table.now c.args.records.now c.lists.ensures c.in_ok-lists.was

pub returns-in_err-number_sources : goal.returns-in_err-number_sources
returns-in_err-number_sources c =
    let a = c.args in
    let passed = err_from_is_err_and c.from_residual-in_err-number_sources.result c.from_residual-in_err-number_sources.ensures.1 in
    let over = sym c.number_sources.ensures ∙ ap number_by c.in_err-number_sources.was in
    rw (passed.1, passed.2) (numbered-over a.table.now a.records.now (modules_of a.scope) c.lists.ensures c.in_ok-lists.was over)

pub returns : goal.returns
returns c =
    let a = c.args in
    let given = sym c.number_sources.ensures ∙ ap number_by c.in_ok-number_sources.was in
    numbered-given a.table.now a.records.now (modules_of a.scope) c.lists.ensures c.in_ok-lists.was given
