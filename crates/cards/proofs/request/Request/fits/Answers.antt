-- `fits`: a saturated sum is at most 4096 just where the sum is.
use borrow.Author.Tests.{le-leb}
use Rattle.std.proofs.Common.{ap, arith}
use Rattle.std.proofs.lemmas.Bool.{leb-true}
use Rattle.cards.specs.Request.{bytes_in}
use Rattle.cards.proofs.request.Request.fits.Goals as goal

pub returns-in-Extract : goal.returns-in-Extract
returns-in-Extract c =
    let all = ap bytes_in c.in-Extract.is in
    let sum = c.saturating_add.result in
    (λ t. let most = leb-true sum 4096 t in omega (arith, all), λ most. le-leb sum 4096 (omega (arith, all)))

pub returns-in-Decode : goal.returns-in-Decode
returns-in-Decode c =
    let all = ap bytes_in c.in-Decode.is in
    let sum = c.len-in-Decode.result in
    (λ t. let most = leb-true sum 4096 t in omega (arith, all), λ most. le-leb sum 4096 (omega (arith, all)))

pub returns-in-Resolve : goal.returns-in-Resolve
returns-in-Resolve c =
    let all = ap bytes_in c.in-Resolve.is in
    let sum = c.saturating_add-in-Resolve.result in
    (λ t. let most = leb-true sum 4096 t in omega (arith, all), λ most. le-leb sum 4096 (omega (arith, all)))
