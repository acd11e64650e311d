-- `gen_id`: `found-number` says that what the search found is the file's number by the rule. Then the rule's three cases:
-- a known file (`gen-known`), a new one (`modules-added`), and a new one where there are 256 modules (`gen-refused`).
use mathlib.Core.Path.{◌≡◌, sym, ◌∙◌}
use lib.ListN.{length}
use native.Mathlib.Omega.{arith}
use borrow.Author.Rules.{rules}
use Rattle.scope.specs.ScopeValue.{modules_of}
use Rattle.scope.proofs.Laws.{number-below, gen-known, gen-refused}
use Rattle.scope.proofs.ScopeValueLaws.{modules-length, modules-added, found-number}
use Rattle.scope.proofs.Scope.gen_id.Goals as goal

pub numbered-requires : goal.numbered-requires
numbered-requires c =
    let s = c.args.self in
    let f = c.args.file in
    let files : length s.files ≡ 256 = search rules in
    let counted = c.counted-n.ensures.0 in
    let number = found-number s f.0 _ c.find_file.result files (omega arith) c.find_file.ensures ∙ c.in-Some.is in
    let below = number-below f.0 (modules_of s) number in
    let count = modules-length s in
    omega arith

pub returns-in-Some : goal.returns-in-Some
returns-in-Some c =
    let s = c.args.self in
    let f = c.args.file in
    let files : length s.files ≡ 256 = search rules in
    let counted = c.counted-n.ensures.0 in
    let number = found-number s f.0 _ c.find_file.result files (omega arith) c.find_file.ensures ∙ c.in-Some.is in
    c.numbered.ensures ∙ sym (gen-known f (modules_of s) number)

pub returns-then-n-lt256 : goal.returns-then-n-lt256
returns-then-n-lt256 c =
    let s = c.args.self in
    let f = c.args.file in
    let files : length s.files ≡ 256 = search rules in
    let counted = c.counted-n.ensures.0 in
    let number = found-number s f.0 _ c.find_file.result files (omega arith) c.find_file.ensures ∙ c.in-None.is in
    c.numbered-then-n-lt256.ensures
    ∙ modules-added s c.add.result f c.counted-n.result c.counted-n.ensures.0 c.if-n-lt256.true number c.add.ensures

pub returns-else-n-lt256 : goal.returns-else-n-lt256
returns-else-n-lt256 c =
    let s = c.args.self in
    let f = c.args.file in
    let files : length s.files ≡ 256 = search rules in
    let counted = c.counted-n.ensures.0 in
    let number = found-number s f.0 _ c.find_file.result files (omega arith) c.find_file.ensures ∙ c.in-None.is in
    let count = modules-length s in
    cc (gen-refused f (modules_of s) number (omega arith))
