-- `Hex`: the digits of a chunk have room; those of the chunks so far are written, and the others are left.
use Rattle.std.proofs.Common.{ℕ, ◌≡◌, ◌≤◌, ◌*◌, List, ◌++◌}
use Rattle.std.specs.Fmt.{HasWritten, IsPlainFormatter}
use Rattle.std.specs.Slice.Iter.{chunks_rest, chunks_size}
use Rattle.text.specs.Hex.{hexed}
use Rattle.text.proofs.hex.HexDisplay.fmt.Given as goal

abbrev pub invariant-loop-bytes : goal.invariant-loop-bytes
invariant-loop-bytes g l = record {
  room : 2 * chunks_size l.bytes-iterator ≤ 128;
  so_far : (done : List ℕ) × (l.self.0.now ≡ done ++ chunks_rest l.bytes-iterator)
      × (IsPlainFormatter l.initial.f → HasWritten g.W.Write.write_str_gives l.initial.f (hexed done) l.f);
}
