-- `find`: the library's place is the definition's.
use Rattle.std.proofs.Common.{rules, tests, ◌≡◌, eqb}
use Rattle.std.specs.List.{position}
use Rattle.std.proofs.lemmas.Iterator.{YieldsList-from_slice}
use Rattle.std.proofs.lemmas.Iterator.Search.{position_from_yields_List}
use Rattle.text.proofs.FieldsLaws.{found-first, none-first}
use Rattle.text.proofs.fields.find.Goals.{After-position}
use Rattle.text.proofs.fields.find.Goals as goal

place : (c : After-position) → c.position.result ≡ position (λ x. eqb x c.args.b) c.args.s.now
place c = position_from_yields_List (λ x. eqb x c.args.b) _ _ c.position.result c.position.ensures.ran (YieldsList-from_slice _ c.iter.ensures.rest) (λ x b q k. search (rules, tests))

pub returns-clause-found : goal.returns-clause-found
returns-clause-found c = found-first c.args.b c.args.s.now c.position.result (place c)

pub returns-clause-none : goal.returns-clause-none
returns-clause-none c = none-first c.args.b c.args.s.now c.position.result (place c)
