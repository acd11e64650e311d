-- `tychodrel_encode_metadata`: one way; the contract of `encode`, for the metadata that `metadata_given` gives.
use mathlib.Core.Path.{◌∙◌, ap}
use Rattle.tychodrel.specs.Answer.{encode_answer_of}
use Rattle.tychodrel.proofs.tychodrel_encode_metadata.Goals as goal

pub returns : goal.returns
returns c =
    (rw (← c.metadata_given-m.ensures) (c.encoded_answer.ensures ∙ ap encode_answer_of c.encode.ensures.answer), rw (← c.metadata_given-m.ensures) c.encode.ensures.buffer)
