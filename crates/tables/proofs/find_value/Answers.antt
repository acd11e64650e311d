-- `find_value`: `found-value` says that in the table one cell further on the values stand where keys are read; the rest is `find_from`.
use mathlib.Core.Path.{refl, ◌∙◌}
use Rattle.tables.proofs.RowLaws.{found-value, none-value}
use native.Mathlib.Omega.{arith}
use Rattle.tables.proofs.find_value.Goals as goal

pub find_from-requires : goal.find_from-requires
find_from-requires c =
    let e = c.requires.1 in
    let i = c.requires.0 in (
      record { ends = omega arith; cell = omega arith; held = i.held },
      none-value c.args.lo c.args.hi c.args.from c.args.b _ c.args.t.now refl refl c.requires.2,
    )

pub returns : goal.returns
returns c =
    c.find_from.ensures ∙ found-value c.args.lo c.args.hi c.args.b _ c.args.t.now refl refl
