-- `exported`: the fixed bytes of a 23 that was read are whole; `node-23` says that its rule is that of `export_specifier`.
use mathlib.Core.Path.{sym, ◌∙◌}
use Rattle.walking.proofs.NodeLaws.{walk-short, node-23}
use Rattle.walking.proofs.exported.Goals as goal

pub returns-in_default : goal.returns-in_default
returns-in_default c =
    λ object. walk-short _ _ (sym c.fixed.ensures ∙ c.in_default.is)

pub returns : goal.returns
returns c =
    let p = c.args.part.now in
    λ object. node-23 p.bytes.now p.at c.in-Some.from p.stop p.whole.0 p.whole.1 (sym c.fixed.ensures ∙ c.in-Some.is) object c.requires
    c.export_specifier.ensures
