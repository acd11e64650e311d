-- `gathered`: by whether `gather` had room. `head-literal` and `head-fields` say that what `gather` was given are the literal
-- and the parts of the tree's import; `place_of` gives the place by which the literal is known.
use Rattle.imports.proofs.HeadLaws.{headed, head-in, head-literal, head-fields}
use Rattle.std.proofs.Common.{◌≡◌, Ok, Err, rules}
use native.Mathlib.Omega.{arith}
use Rattle.state.specs.declared.TableFull.{TableFull}
use Rattle.steps.specs.Refusal.{refusal}
use Rattle.steps.specs.declared.Why.TheVariants.{TableFull as no-room}
use Rattle.imports.proofs.GatherLaws.{collected-made, collected-full}
use Rattle.imports.proofs.first.gathered.Goals as goal

pub literal_at-literal-requires : goal.literal_at-literal-requires
literal_at-literal-requires c =
    let i = head-in (headed c.args.part.now c.requires.0 c.requires.1) in
    omega arith

pub row-requires : goal.row-requires
row-requires c =
    (head-in (headed c.args.part.now c.requires.0 c.requires.1)).1

pub returns : goal.returns
returns c =
    let h : c.gather.result ≡ Ok tt = search rules in
    let w = headed c.args.part.now c.requires.0 c.requires.1 in
    let i = head-in w in
    collected-made c.args.part.now.at c.args.p (omega arith) (head-literal w) (head-fields w c.row.result c.row.ensures)
    c.place_of.ensures.0 c.literal_at-literal.ensures c.gather.ensures h

pub returns-in_err-map_err : goal.returns-in_err-map_err
returns-in_err-map_err c =
    let h : c.from_residual.result ≡ Err (refusal no-room c.args.part.now.at) = search rules in
    let k : (e : TableFull) × (c.gather.result ≡ Err e) = search rules in
    let w = headed c.args.part.now c.requires.0 c.requires.1 in
    let i = head-in w in
    rw h
    (collected-full c.args.part.now.at c.args.p (omega arith) (head-literal w) (head-fields w c.row.result c.row.ensures)
    c.place_of.ensures.0 c.literal_at-literal.ensures c.gather.ensures k.1)
