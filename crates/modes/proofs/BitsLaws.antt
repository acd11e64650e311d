-- Bits without a meaning change nothing: all but the lowest.
use Prim.Native.Nat.{ℕ, ◌+◌, ◌*◌, ◌%◌}
use native.Mathlib.Omega.{arith}
use mathlib.Core.Path.{◌≡◌, ap}
use lib.Dec.{eqb}
use Rattle.modes.specs.declared.Modes.{Modes}
use Rattle.modes.specs.Bits.{modes_of}

pub other-bits : (bits others : ℕ) → modes_of (bits + 2 * others) ≡ modes_of bits
other-bits bits others =
    let e : (bits + 2 * others) % 2 ≡ bits % 2 = omega arith in
    ap {B = Modes} (λ (b : ℕ). record { require = eqb b 1 }) e
