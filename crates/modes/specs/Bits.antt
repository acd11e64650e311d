-- Modes as a host tells them: one u32 of bits, 1 require. Bits without a meaning change nothing.
use Rattle.std.specs.Prelude.{ℕ, ◌%◌, ◌≡◌, refl, true, false, eqb}
use Rattle.modes.specs.declared.Modes.{Modes}

abbrev pub modes_of : ℕ → Modes
modes_of bits = record { require = eqb (bits % 2) 1 }

-- no bit and bit 1; the other bits of the u32, without and with it
none-set : modes_of 0 ≡ record { require = false }
none-set = refl

require-set : modes_of 1 ≡ record { require = true }
require-set = refl

others-set : modes_of 0xFFFFFFFE ≡ modes_of 0
others-set = refl

all-set : modes_of 0xFFFFFFFF ≡ modes_of 1
all-set = refl
