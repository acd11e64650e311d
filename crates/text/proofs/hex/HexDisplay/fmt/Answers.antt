-- `Hex`: the digits of one chunk more are written at once.
use Rattle.std.proofs.Common.{ℕ, ◌≡◌, List, [], ◌++◌, refl, sym, ap, ◌∙◌, rules, arith, append_assoc, append-nil}
use Rattle.std.proofs.lemmas.List.{nil_from_length}
use Rattle.std.proofs.Output.{has_written_append, has_written_of_eq}
use Rattle.text.specs.Hex.{hexed}
use Rattle.text.proofs.HexLaws.{hexed-append, chunk-written}
use Rattle.text.proofs.hex.HexDisplay.fmt.Goals as goal

pub loop-bytes-init : goal.loop-bytes-init
loop-bytes-init g c = record { room = search (rules, arith); so_far = ([], search rules, λ p. search rules) }

pub loop-bytes-preserved : goal.loop-bytes-preserved
loop-bytes-preserved g c =
    let before = c.loop-bytes.invariant.so_far in
    let bs : List ℕ = c.in-Some.bytes.now in
    let steps = c.in-Some.ensures.steps in
    let room = c.loop-bytes.invariant.room in
    let digits = chunk-written 128 c.clear.new.self bs c.put_hex.new.self c.clear.ensures (omega (arith, steps.1.1, room)) c.put_hex.ensures in
    let text : c.in_ok-map_err.field-0.now ≡ hexed bs = search rules in
    record {
      room = omega (arith, steps.0, room);
      so_far = (
        before.0 ++ bs,
        before.1 ∙ ap (λ l. before.0 ++ l) steps.1.0 ∙ sym (append_assoc before.0 bs c.next.new.self.rest.now),
        λ p.
            let more = has_written_of_eq _ _ _ _ _ text (c.in_ok-write_str.ensures.writes (before.2 p).plain refl) in
            has_written_of_eq _ _ _ _ _ (sym (hexed-append before.0 bs)) (has_written_append _ _ _ _ _ _ (before.2 p) more),
      );
    }

pub returns-clause-writes : goal.returns-clause-writes
returns-clause-writes g c = λ p e.
    let before = c.loop-bytes.invariant.so_far in
    has_written_of_eq _ _ _ _ _
    (ap hexed (sym (before.1 ∙ ap (λ l. before.0 ++ l) (nil_from_length c.loop-bytes.bytes-iterator.rest.now c.in-None.ensures.steps.1.0) ∙ append-nil before.0)))
    (before.2 p)
