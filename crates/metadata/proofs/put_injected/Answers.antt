-- `put_injected`: the attribute's bytes are those of the field by the rule (`injected-bytes`), or there is none.
use Rattle.writer.proofs.Wrote.{wrote-none, wrote-as}
use Rattle.metadata.proofs.EncodeLaws.{injected-none, injected-bytes}
use Rattle.metadata.proofs.put_injected.Goals as goal

pub returns-then-injected : goal.returns-then-injected
returns-then-injected c =
    wrote-as c.put_attribute.ensures (injected-bytes c.args.injected c.if-injected.true)

pub returns-else-injected : goal.returns-else-injected
returns-else-injected c =
    wrote-as wrote-none (injected-none c.args.injected c.if-injected.false)
