-- `name`: where a 63 of a 60 and a 70 stands its parts are known (NameLaws). In the second pass it stays without usages or context, else it becomes
-- the 60 that is written; in the first it is copied, and the usage of an id that is not imported is none.
use Rattle.std.proofs.Common.{◌≡◌, None, Err, rules}
use Rattle.steps.proofs.StepsLaws.{effects-fine, effects-turned}
use Rattle.walking.proofs.ExpressionLaws.{pass-second, pass-first}
use Rattle.walking.proofs.NameLaws.{name-unused, name-nowhere, name-becomes, name-first, name-unimported}
use Rattle.walking.proofs.name.Goals as goal

pub returns-then-not-has_usages : goal.returns-then-not-has_usages
returns-then-not-has_usages c =
    let p = c.args.part.now in
    λ object. name-unused p.bytes.now p.of_bytes p.at p.stop p.whole.0 c.requires c.id_at-id.result
    c.id_at-id.ensures object (pass-second c.is_second.ensures c.if-is_second.true) c.has_usages.ensures c.if-not-has_usages.true c.copy.ensures

pub returns-in_default : goal.returns-in_default
returns-in_default c =
    let p = c.args.part.now in
    λ object. name-nowhere p.bytes.now p.of_bytes p.at p.stop p.whole.0 c.requires c.id_at-id.result
    c.id_at-id.ensures object (pass-second c.is_second.ensures c.if-is_second.true) c.imported_as.ensures c.in_default.is c.copy-in_default.ensures

pub returns-then-is_second : goal.returns-then-is_second
returns-then-is_second c =
    let p = c.args.part.now in
    λ object. name-becomes p.bytes.now p.of_bytes p.at p.stop p.whole.0 c.requires c.id_at-id.result
    c.id_at-id.ensures object (pass-second c.is_second.ensures c.if-is_second.true) c.has_usages.ensures c.if-not-has_usages.false c.imported_as.ensures
    c.in-Some.is c.atom_at.ensures c.put_ident.ensures

pub returns-in_err-usage : goal.returns-in_err-usage
returns-in_err-usage c =
    let p = c.args.part.now in
    let h : c.from_residual.result ≡ Err c.in_err-usage.field-0.0 = search rules in
    rw h
    (λ object. name-first p.bytes.now p.of_bytes p.at p.stop p.whole.0 c.requires c.id_at-id.result
    c.id_at-id.ensures object (pass-first c.is_second.ensures c.if-is_second.false) c.copy-p.ensures (effects-turned c.usage.ensures c.in_err-usage.was))

pub returns-in_ok-usage : goal.returns-in_ok-usage
returns-in_ok-usage c =
    let p = c.args.part.now in
    λ object. name-first p.bytes.now p.of_bytes p.at p.stop p.whole.0 c.requires c.id_at-id.result
    c.id_at-id.ensures object (pass-first c.is_second.ensures c.if-is_second.false) c.copy-p.ensures (effects-fine c.usage.ensures c.in_ok-usage.was)

pub returns-else-is_some : goal.returns-else-is_some
returns-else-is_some c =
    let p = c.args.part.now in
    let h : c.imported_as-2.result ≡ None = search rules in
    λ object. name-first p.bytes.now p.of_bytes p.at p.stop p.whole.0 c.requires c.id_at-id.result
    c.id_at-id.ensures object (pass-first c.is_second.ensures c.if-is_second.false) c.copy-p.ensures
    (name-unimported p.bytes.now p.of_bytes p.at p.stop p.whole.0 c.requires c.id_at-id.result
    c.id_at-id.ensures c.imported_as-2.ensures h)
