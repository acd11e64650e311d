-- How lines are counted; a count stays at its greatest.
use Rattle.std.specs.Prelude.{ℕ, ◌+◌, min}
use Rattle.replay.specs.declared.tally.Tally.{Tally}

abbrev pub one_more : ℕ → ℕ
one_more n = min (n + 1) 0xFFFF_FFFF_FFFF_FFFF

-- a line
abbrev pub counted : Tally → Tally
counted t = record t { cases = one_more t.cases }

-- a line with a request that is not answered
abbrev pub skipped : Tally → Tally
skipped t = record t { cases = one_more t.cases; skipped = one_more t.skipped }

-- a line whose answer differs
abbrev pub different : Tally → Tally
different t = record t { cases = one_more t.cases; differences = one_more t.differences }
