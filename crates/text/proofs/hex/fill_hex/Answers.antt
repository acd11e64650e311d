-- `fill_hex`: a buffer of half the length of the text has room for the bytes that the text spells, and these fill it.
use Rattle.std.proofs.Common.{arith}
use Rattle.text.proofs.PutLaws.{put-whole, none-whole}
use Rattle.text.proofs.hex.fill_hex.Goals as goal

pub returns-in-Some : goal.returns-in-Some
returns-in-Some c =
    put-whole c.args.s.now c.deref_mut.result.now c.hex_into.new.out (omega (arith, c.requires)) c.in-Some.field-0 _ _ (omega arith) c.in-Some.ensures

pub returns-in-None : goal.returns-in-None
returns-in-None c = none-whole c.args.s.now c.deref_mut.result.now c.hex_into.new.out (omega (arith, c.requires)) c.in-None.ensures
