-- What a write behind a text of bounded length leaves.
use Rattle.std.specs.Prelude.{ℕ, ◌-◌, ◌≡◌, List, ◌++◌, length, take}

-- bs is written behind the text `old`, as far as there is room for it in `room` bytes, and the text is `new` then
abbrev pub Written : ℕ → List ℕ → List ℕ → List ℕ → Type 0
Written room old bs new = new ≡ old ++ take (room - length old) bs
