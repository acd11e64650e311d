-- `chain_of`: each return has the test that it follows.
use Prim.Native.Nat.{ℕ, ◌+◌, ◌%◌}
use mathlib.Core.Path.{◌≡◌, refl, ap, ◌∙◌}
use native.Mathlib.Omega.{arith}
use borrow.Author.Tests.{le-leb, lt-leb}
use lib.ListN.{length}
use Rattle.tree.specs.Layout.{literal_value}
use Rattle.records.specs.Listing.{chain_at}
use Rattle.records.proofs.places.chain_of.Goals as goal

pub returns-then-work-at : goal.returns-then-work-at
unfolding chain_at
returns-then-work-at c =
    (rw (lt-leb (c.args.place + 9) (length c.args.work.now) (omega arith)) refl, omega arith)

pub returns : goal.returns
unfolding chain_at
returns c =
    let e : c.from-at.result ≡ c.args.place = c.from-at.ensures in (
      rw (le-leb (c.args.place + 9) (length c.args.work.now) (omega arith))
          (ap (λ (n : ℕ). n % 2048) (c.from.ensures ∙ c.literal_value.ensures ∙ ap (λ (n : ℕ). literal_value c.args.work.now (n + 3)) e)),
      omega arith,
    )
