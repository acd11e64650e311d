-- `put_hex`: two digits more for one byte more.
use Rattle.std.proofs.Common.{take, arith}
use Rattle.text.specs.Hex.{hexed}
use Rattle.text.proofs.HexLaws.{hexed-more}
use Rattle.text.proofs.WriteLaws.{written-two}
use Rattle.text.proofs.write.Text.put_hex.Goals as goal

pub loop-b-preserved : goal.loop-b-preserved
loop-b-preserved g c =
    rw (hexed-more c.args.bytes.now c.loop-b.b-index (omega arith))
    (written-two g.row.N c.args.self.now (hexed (take c.loop-b.b-index c.args.bytes.now)) c.loop-b.self c.put_two.new.self _ _ _ _
    c.glyph_of.ensures c.glyph_of-in-loop-b.ensures c.loop-b.invariant c.put_two.ensures)
