-- `field`: the parts that the library gives are the fields.
use Rattle.std.proofs.Common.{rules, tests, ◌≡◌, option_copied, ◌∙◌, sym, eqb}
use Rattle.std.proofs.lemmas.Iterator.Consumers.{nth_from_yields_List}
use Rattle.std.proofs.lemmas.Iterator.Splits.{YieldsList-from_slice_split}
use Rattle.text.proofs.FieldsLaws.{field-parts, field-within}
use Rattle.text.specs.Fields.{field_at}
use Rattle.text.proofs.fields.field.Goals.{After-nth}
use Rattle.text.proofs.fields.field.Goals as goal

value : (c : After-nth) → option_copied c.nth.result ≡ field_at c.args.k c.args.s.now
value c =
    nth_from_yields_List c.nth.result _ c.args.k c.nth.ensures.ran
    (YieldsList-from_slice_split _ (λ b. eqb b 32) c.args.s.now c.split.ensures.rest c.split.ensures.done c.split.ensures.closure (λ x b q h. search (rules, tests)))
    ∙ sym (field-parts c.args.k c.args.s.now)

pub returns-clause-value : goal.returns-clause-value
returns-clause-value c = value c

pub returns-clause-within : goal.returns-clause-within
returns-clause-within c = rw (value c) (field-within c.args.k c.args.s.now)
