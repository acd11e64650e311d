-- `put_import`: by whether the item is an import, and then by its source; the laws of CollectedLaws say what each way gathers.
use mathlib.Core.Path.{sym, ◌∙◌}
use native.Mathlib.Omega.{arith}
use Rattle.records.proofs.SpecifierLaws.{if-none}
use Rattle.records.proofs.CollectedLaws.{if-as, if-from, gathered-none, gathered-is, gathered-differs}
use Rattle.records.proofs.sources.put_import.Goals as goal

pub literal_value-requires : goal.literal_value-requires
literal_value-requires c = omega (arith, c.in-Some.ensures.inside, c.args.item.whole.1)

pub returns-in-Some : goal.returns-in-Some
returns-in-Some c =
    let a = c.args in
    let i = c.in-Some.ensures in
    if-as (if-from i.read c.put_specifiers.ensures)
    (gathered-is a.wanted.namespaces a.item a.wanted.value.0 c.in-Some.parts i (omega arith) (sym c.literal_value.ensures ∙ c.if-literal_value-wanted.true))

pub returns-in_default : goal.returns-in_default
returns-in_default c =
    let a = c.args in
    if-none (gathered-differs a.wanted.namespaces a.item a.wanted.value.0 c.in-Some.parts c.in-Some.ensures (omega arith)
    (λ e. c.if-literal_value-wanted.false (c.literal_value.ensures ∙ e)))

pub returns-in_default-2 : goal.returns-in_default-2
returns-in_default-2 c =
    let a = c.args in if-none (gathered-none a.wanted.namespaces a.wanted.value.0 _ (rw c.in_default.is at c.import_parts.ensures))
