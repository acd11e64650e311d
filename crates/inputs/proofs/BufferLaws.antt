-- What stands in the buffer of an accepted call.
use Prim.Native.Nat.{ℕ, ◌-◌}
use mathlib.Core.Path.{◌≡◌, sym, ap, ◌∙◌}
use mathlib.Core.Bool.{true}
use lib.ListN.{length, replicate}
use Rattle.tree.specs.Layout.{field_in}
use Rattle.tree.specs.Tree.{Field, encode, size}
use Rattle.tree.proofs.TreeLaws.{size-encode, encode-front}
use Rattle.writer.specs.Finished.{has_room, delivered}
use Rattle.writer.proofs.Finished.{delivered-field}

-- the field that was delivered
pub delivered-holds : (f : Field) (room : ℕ) → has_room (size f) room ≡ true → field_in (delivered (encode f) room) ≡ encode f
delivered-holds f room h =
    ap field_in (delivered-field (encode f) room (sym (ap (λ (n : ℕ). has_room n room) (size-encode f)) ∙ h))
    ∙ encode-front f (replicate (room - length (encode f)) 0)
