-- `tells_injected`: by whether the content starts with the key, and by the value behind it (`injected-is`).
use Rattle.std.proofs.Common.{rules, tests}
use Rattle.metadata.proofs.DecodeLaws.{injected-is}
use Rattle.metadata.proofs.tells_injected.Goals as goal

pub returns : goal.returns
returns c =
    injected-is c.args.content.now c.strip_prefix.result c.is_some_and.result _ c.strip_prefix.ensures.cases c.is_some_and.ensures (λ v k. search (rules, tests))
