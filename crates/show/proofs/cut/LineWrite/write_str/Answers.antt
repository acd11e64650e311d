-- `write_str`: the nearest place where a character begins is the room itself, or the end of what has room.
use mathlib.Core.Logic.{inl, inr}
use Rattle.std.proofs.Common.{ℕ, ◌≡◌, ◌<◌, ◌≤◌, List, length, arith, ap, subst, take, ◌∙◌}
use Rattle.std.proofs.lemmas.Bool.{cases_lt}
use Rattle.std.specs.Str.{IsCharBoundary}
use Rattle.std.specs.Fmt.{HasWritten}
use Rattle.show.specs.Cut.{Fits}
use Rattle.show.proofs.cut.LineWrite.write_str.Goals as goal

at-end : (s : List ℕ) → IsCharBoundary s (length s)
at-end s = (omega arith, λ h _. absurd (omega arith))

-- No character begins behind `kept`, so that a place where one begins isn't behind it.
reaches : (s : List ℕ) (room kept : ℕ) (i : ℕ) → ((j : ℕ) → kept < j → j ≤ room → ¬ (IsCharBoundary s j)) → i ≤ room → IsCharBoundary s i → i ≤ kept
reaches s room kept i nearest h b = elim (cases_lt kept i) [ inl lt ↦ absurd (nearest i lt h b) | inr ge ↦ ge ]

fits : (s : List ℕ) (room kept : ℕ) → kept ≤ room → IsCharBoundary s kept → ((j : ℕ) → kept < j → j ≤ room → ¬ (IsCharBoundary s j)) → Fits room s kept
fits s room kept bound boundary nearest = record {
  bound = bound;
  whole = λ h. let r = reaches s room kept (length s) nearest h (at-end s) in omega (arith, boundary.0);
  cut = λ b. let r = reaches s room kept room nearest (omega arith) b in omega arith;
}

pub returns-clause-passes : goal.returns-clause-passes
returns-clause-passes g c =
    let kept = c.floor_char_boundary-kept in
    let s = c.args.s.now in
    let room = c.args.self.now.room in
    let front : c.range.result.now ≡ take kept.result s = c.range.ensures.value ∙ ap (λ n. take n s) (omega arith) in
    let has = λ (t : List ℕ). HasWritten {W = g.row.W.Denot} g.W.Write.write_str_gives c.args.self.now.out.now t c.write_str.new.self in
    let fitting = fits s room kept.result kept.ensures.bound kept.ensures.boundary kept.ensures.nearest in
    (kept.result, fitting, λ plain ok. subst has front (c.write_str.ensures.writes plain ok))
