-- `other_here`: by the tag: a member (`member-here`), a call (`call-here`), any other (`none-here`); for the first two by the first part.
use mathlib.Core.Path.{sym, ◌∙◌}
use Rattle.std.proofs.Common.{rules, tests}
use Rattle.detection.proofs.DetectionLaws.{member-here, call-here, none-here, member-is}
use Rattle.detection.proofs.other_here.Goals as goal

pub returns-in-99 : goal.returns-in-99
returns-in-99 c =
    member-is c.first_ident.result _ c.is_some_and.ensures (λ v k. search (rules, tests)) ∙ sym (member-here _ c.in-99.is (sym c.first_ident.ensures))

pub returns-in-101 : goal.returns-in-101
returns-in-101 c =
    c.is_some.ensures ∙ sym (call-here _ c.in-101.is (sym c.first_ident-in-101.ensures))

pub returns-in_default : goal.returns-in_default
returns-in_default c =
    sym (none-here c.args.tag _ (search rules) (search rules))
