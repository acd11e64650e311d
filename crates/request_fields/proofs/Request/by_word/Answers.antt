-- `by_word`: a longer word is read letter by letter, and what stands behind it is asked as its function says.
use Rattle.std.proofs.Common.{codes, arith, rules}
use Rattle.std.proofs.lemmas.Slice.Eq.{text_from_reads}
use Rattle.request_fields.proofs.Request.by_word.Goals as goal

pub returns-in_ok-parse-in-extract : goal.returns-in_ok-parse-in-extract
returns-in_ok-parse-in-extract c =
    let word = text_from_reads c.in-Some.word.now.now (codes "extract") (omega arith) (omega arith, (omega arith, (omega arith, (omega arith, (omega arith, (omega arith, (omega arith, tt))))))) in
    search rules

pub returns-in_ok-parse-in-resolve : goal.returns-in_ok-parse-in-resolve
returns-in_ok-parse-in-resolve c =
    let word = text_from_reads c.in-Some.word.now.now (codes "resolve") (omega arith) (omega arith, (omega arith, (omega arith, (omega arith, (omega arith, (omega arith, (omega arith, tt))))))) in
    search rules

pub returns-in_ok-parse-in-encode : goal.returns-in_ok-parse-in-encode
returns-in_ok-parse-in-encode c =
    let word = text_from_reads c.in-Some.word.now.now (codes "encode") (omega arith) (omega arith, (omega arith, (omega arith, (omega arith, (omega arith, (omega arith, tt)))))) in
    search rules
