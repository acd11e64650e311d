-- `put_decimal`: the last digit behind the fewest of what stands before it, or alone.
use Rattle.std.proofs.Common.{arith}
use Rattle.text.proofs.DecimalLaws.{number-one, number-next}
use Rattle.text.proofs.write.Text.+put_decimal.Goals.{then-n-ge10, else-n-ge10}
use Rattle.text.proofs.write.Text.+put_decimal.Goals as goal

pub returns : goal.returns
returns g t c =
    elim c.if-n-ge10.branch [
      | then-n-ge10 w ↦ number-next g.row.N c.args.self.now c.if-n-ge10.self c.put.new.self c.args.n c.glyph_of.result c.glyph_of.ensures c.put.ensures (omega arith) (rw w.self-is w.put_decimal.ensures)
      | else-n-ge10 w ↦ number-one g.row.N c.args.self.now c.if-n-ge10.self c.put.new.self c.args.n c.glyph_of.result c.glyph_of.ensures c.put.ensures (omega arith) w.self-is
    ]
