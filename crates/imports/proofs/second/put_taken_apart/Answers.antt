-- `put_taken_apart`: an import that was read has its literal (`read-short`). `taken-written` joins the head, the usages and the bytes from
-- the 2F on into the import's encoding.
use Rattle.steps.proofs.SoundLaws.{read-short}
use Rattle.imports.proofs.HeadLaws.{headed, head-in}
use native.Mathlib.Omega.{arith}
use mathlib.Core.Path.{sym, ◌∙◌}
use Rattle.imports.proofs.TakenLaws.{taken-written}
use Rattle.imports.proofs.second.put_taken_apart.Goals as goal

pub returns-in_default : goal.returns-in_default
returns-in_default c =
    λ r. absurd (read-short r (sym c.fixed.ensures ∙ c.in_default.is))

pub begin_field-content-requires : goal.begin_field-content-requires
begin_field-content-requires c =
    let i = head-in (headed c.args.part.now c.requires (sym c.fixed.ensures ∙ c.in-Some.is)) in omega arith

pub specifiers_end-requires : goal.specifiers_end-requires
specifiers_end-requires c =
    (head-in (headed c.args.part.now c.requires (sym c.fixed.ensures ∙ c.in-Some.is))).1

pub returns : goal.returns
returns c =
    taken-written (headed c.args.part.now c.requires (sym c.fixed.ensures ∙ c.in-Some.is))
    c.args.id c.begin_field-content.ensures c.put_usages-q.ensures c.specifiers_end.ensures c.copy-p.ensures c.close_field.ensures
