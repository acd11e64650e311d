-- `source_in`: each return has its law of RequiredAtLaws: no literal stands there, it is external, or it is the source. By `Reads` the
-- place that `place_of` gives stands for the literal's bytes; `found-fits` says that they lie within the tree.
use Rattle.expressions.proofs.RequiredAtLaws.{source-none, source-external, source-is}
use Rattle.expressions.proofs.require.source_in.Goals as goal

pub returns-in_err-at : goal.returns-in_err-at
returns-in_err-at c =
    rw c.from_residual.ensures (source-none c.sole_literal.ensures c.in_err-at.was)

pub returns-then-is_external : goal.returns-then-is_external
returns-then-is_external c =
    source-external c.sole_literal.ensures c.literal_at-literal.result c.in_ok-at.was
    c.place_of.ensures.0 c.literal_at-literal.ensures c.is_external.ensures c.if-is_external.true

pub returns-else-is_external : goal.returns-else-is_external
returns-else-is_external c =
    source-is c.sole_literal.ensures c.literal_at-literal.result c.in_ok-at.was
    c.place_of.ensures.0 c.literal_at-literal.ensures c.is_external.ensures c.if-is_external.false
