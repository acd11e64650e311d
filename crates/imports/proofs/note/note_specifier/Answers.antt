-- `note_specifier`: the first three ways out contradict the contract's premise, that the field is read and is a specifier.
-- Then by the specifier's kind: what `specifier_of` ensures says which tag and id stand in the tree; each kind has its law of NoteLaws.
use native.Mathlib.Omega.{arith}
use mathlib.Core.Path.{sym, ap, ◌∙◌}
use Rattle.imports.proofs.WidthLaws.{framing, framed-in}
use Rattle.imports.proofs.NoteLaws.{specifier-id, specified-short, specified-else, given-named, given-default, given-namespace}
use Rattle.imports.proofs.note.note_specifier.Goals as goal

pub returns-in_default : goal.returns-in_default
returns-in_default c =
    specified-short (sym c.fixed.ensures ∙ c.in_default.is)

pub returns-then-tag-lt32 : goal.returns-then-tag-lt32
returns-then-tag-lt32 c =
    let t = c.tag-tag.ensures in specified-else (λ a b. omega arith)

pub note_other-requires : goal.note_other-requires
note_other-requires c =
    let w = framing c.args.part.now (sym c.fixed.ensures ∙ c.in-Some.is) in
    let a = c.if-tag-lt32.false in
    let b = c.if-tag-gt34.false in
    let t = c.tag-tag.ensures in
    let j = specifier-id w (omega arith) (omega arith) in
    let i = framed-in w in
    omega arith

pub note_other-requires-in-Namespace : goal.note_other-requires-in-Namespace
note_other-requires-in-Namespace c =
    let w = framing c.args.part.now (sym c.fixed.ensures ∙ c.in-Some.is) in
    let a = c.if-tag-lt32.false in
    let b = c.if-tag-gt34.false in
    let t = c.tag-tag.ensures in
    let j = specifier-id w (omega arith) (omega arith) in
    let i = framed-in w in
    omega arith

pub returns-in-Named : goal.returns-in-Named
returns-in-Named c =
    let w = framing c.args.part.now (sym c.fixed.ensures ∙ c.in-Some.is) in
    given-named w c.args.n.0 c.specifier_of.result c.specifier_of.ensures c.in-Named.is c.note_named.ensures

pub returns-in-Default : goal.returns-in-Default
returns-in-Default c =
    let w = framing c.args.part.now (sym c.fixed.ensures ∙ c.in-Some.is) in
    given-default w c.args.n.0 c.specifier_of.result c.specifier_of.ensures c.in-Default.is c.note_other.ensures

pub returns-in-Namespace : goal.returns-in-Namespace
returns-in-Namespace c =
    let w = framing c.args.part.now (sym c.fixed.ensures ∙ c.in-Some.is) in
    given-namespace w c.args.n.0 c.specifier_of.result c.specifier_of.ensures c.in-Namespace.is
    (ap (λ k. k.0) c.export_ctxt.ensures) c.note_other-in-Namespace.ensures
