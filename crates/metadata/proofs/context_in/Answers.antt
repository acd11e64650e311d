-- `context_in`: by whether the content starts with the key (`context-untold`), and by what parses behind it (`context-told`).
use mathlib.Core.Path.{sym, ap, ◌∙◌}
use Rattle.metadata.specs.MetadataValue.{context_of}
use Rattle.metadata.proofs.DecodeLaws.{context-told, context-untold}
use Rattle.metadata.proofs.context_in.Goals as goal

pub returns-in_err-value : goal.returns-in_err-value
returns-in_err-value c =
    ap context_of c.from_residual.ensures ∙ sym (context-untold c.args.content.now c.in_err-value.ensures.cases)

pub returns-in_err-parse : goal.returns-in_err-parse
returns-in_err-parse c =
    let told = context-told c.args.content.now c.in_ok-value.ensures.cases.0 c.in_ok-value.ensures.cases.1 in
    ap context_of c.from_residual-in_err-parse.ensures ∙ c.in_err-parse.ensures ∙ sym told

pub returns : goal.returns
returns c =
    let told = context-told c.args.content.now c.in_ok-value.ensures.cases.0 c.in_ok-value.ensures.cases.1 in
    c.in_ok-parse.ensures ∙ sym told
