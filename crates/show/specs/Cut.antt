-- What a line passes on of a text.
use Rattle.std.specs.Prelude.{ℕ, ◌≡◌, ◌≤◌, List, length, take, Result}
use Rattle.std.specs.Fmt.{WritesOnOk}
use Rattle.std.specs.Str.{IsCharBoundary}
use Rattle.std.specs.declared.fmt.Error.{Error}
use Rattle.std.specs.declared.fmt.Formatter.{Formatter}

-- `kept` is how much of bs has room: all of it, or as much as there is room for, or less where a character would be cut
pub record Fits (room : ℕ) (bs : List ℕ) (kept : ℕ) : Type 0 where
  pub bound : kept ≤ room
  pub whole : length bs ≤ room → kept ≡ length bs
  pub cut : IsCharBoundary bs room → kept ≡ room

-- the formatter f took the front of bs that has room, and is g then
abbrev pub PassesOn : {W : Type 0} → (W → List ℕ → W → Type 0) → ℕ → List ℕ → Formatter W → Result (Unit {0}) Error → Formatter W → Type 0
PassesOn took room bs f r g = (kept : ℕ) × Fits room bs kept × WritesOnOk took f r (take kept bs) g
