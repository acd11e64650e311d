-- A field whose packed rule is n: its parts are read by that rule. If n is 0 it has none: where its fixed bytes reach its end it is good,
-- else the byte behind them is a tag that may not stand there.
use Rattle.std.specs.Prelude.{Some, Ok, Err}
use Prim.Native.Nat.{ℕ, ◌+◌, ◌≤◌}
use mathlib.Core.Path.{◌≡◌, refl, sym, ap, ◌∙◌}
use mathlib.Core.List.{List}
use lib.ListN.{get_or}
use borrow.Author.Tests.{ne_eqb}
use Rattle.tree.specs.declared.grammar.Rule.{Rule}
use Rattle.tree.specs.declared.read.Why.TheVariants.{Misplaced}
use Rattle.tree.specs.declared.read.Head.TheVariants.{Bad}
use Rattle.tree.specs.Grammar.{parts0, rule_of, slot_at, step_by, step_at}
use Rattle.tree.specs.Access.{fixed_at}
use Rattle.tree.specs.Packed.{unpack_rule}
use Rattle.tree.specs.Read.{verdict, on_step, head_at, children_at, content_at}
use Rattle.tree.proofs.PackedLaws.{rule-none}
use Rattle.tree.proofs.ReadLaws.{children-verdict, end-done, content-upto}

none-good : (s : List ℕ) (b stop d p : ℕ) → b ≡ stop → verdict (children_at s b stop d parts0 p) ≡ Ok tt
none-good s b stop d p e = end-done s b stop d parts0 p e refl

none-bad : (s : List ℕ) (b stop d p : ℕ) → b ≤ stop → (b ≡ stop → ⊥) →
    verdict (children_at s b stop d parts0 p) ≡ Err (record { why = Misplaced; place = b })
unfolding head_at on_step step_at step_by slot_at
none-bad s b stop d p l e = children-verdict s b stop d parts0 p (Bad Misplaced) l (rw (ne_eqb b stop e))

module _ (s : List ℕ) (at stop d n : ℕ) {b : ℕ} (fixed : fixed_at s (get_or s at 0) (at + 3) stop ≡ Some b)
    (rule : unpack_rule n ≡ rule_of (get_or s at 0)) where
  pub parts-read : verdict (content_at s at stop d) ≡ verdict (children_at s b stop d (unpack_rule n) at)
  parts-read = content-upto s at stop d b fixed ∙ ap (λ (q : Rule). verdict (children_at s b stop d q at)) (sym rule)

  none-read : n ≡ 0 → verdict (content_at s at stop d) ≡ verdict (children_at s b stop d parts0 at)
  none-read z = parts-read ∙ ap (λ (q : Rule). verdict (children_at s b stop d q at)) (ap unpack_rule z ∙ rule-none)

  pub leaf-good : n ≡ 0 → b ≡ stop → verdict (content_at s at stop d) ≡ Ok tt
  leaf-good z e = none-read z ∙ none-good s b stop d at e

  pub leaf-bad : n ≡ 0 → b ≤ stop → (b ≡ stop → ⊥) → verdict (content_at s at stop d) ≡ Err (record { why = Misplaced; place = b })
  leaf-bad z l e = none-read z ∙ none-bad s b stop d at l e
