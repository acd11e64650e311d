-- `sole_literal`: each return has its law of LiteralLaws: no field, a second one, or just one; then `argument_in` gives the literal.
use Rattle.std.proofs.Common.{◌≡◌, None, rules}
use Rattle.std.specs.Prelude.{Option}
use mathlib.Core.Path.{subst}
use Rattle.tree.specs.Rows.{GivesPart}
use Rattle.tree.specs.declared.row.Part.{Part}
use Rattle.expressions.proofs.LiteralLaws.{sole-none, sole-two, sole-one}
use Rattle.expressions.proofs.require.sole_literal.Goals as goal

pub returns-in_err-part : goal.returns-in_err-part
returns-in_err-part c =
    rw c.from_residual.ensures (sole-none c.args.arguments c.next.new.self c.in_err-part.ensures.steps)

pub returns-then-is_some : goal.returns-then-is_some
returns-then-is_some c =
    let o = c.in_ok-part in
    sole-two c.args.arguments o.part c.next.new.self o.ensures.steps c.next-2.result c.next-2.new.self c.next-2.ensures.steps c.if-is_some.ensures

pub returns : goal.returns
returns c =
    let o = c.in_ok-part in
    let none : c.next-2.result ≡ None = search rules in
    sole-one c.args.arguments o.part c.next.new.self o.ensures.steps c.argument_in.result c.next-2.new.self
    (subst (λ (q : Option Part). GivesPart c.next.new.self q c.next-2.new.self) none c.next-2.ensures.steps) c.argument_in.ensures
