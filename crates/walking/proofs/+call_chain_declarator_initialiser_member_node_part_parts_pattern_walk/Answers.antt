-- `walk` and the nine functions in its cycle: the measure is 8 times the bytes that are left, plus a rank from 4 (`node`) to 9
-- (`parts`): a call has fewer bytes, or as many and a lower rank. The loop of `parts` has the invariant `Going`: walking the fields that are
-- left, by the way that is left, completes the row. By its law or its callee's contract, each return has written the walk by the tag's rule.
use Rattle.std.proofs.Common.{Err, rules}
use mathlib.Core.Path.{◌≡◌, refl, sym, ap, subst, ◌∙◌}
use native.Mathlib.Omega.{arith}
use lib.ListN.{get_or}
use Prim.Native.Nat.{◌+◌}
use Rattle.tree.proofs.AccessLaws.{extent-upto, upto-in}
use Rattle.tree.proofs.PartLaws.{left-start, part-at, part-bytes, part-extent, part-left, part-none}
use Rattle.steps.specs.Step.{ident_by}
use Rattle.steps.proofs.StepsLaws.{steps-is, effects-fine, effects-turned}
use Rattle.walking.proofs.RowLaws.{first-child, first-member, first-target, going-start, going-over, going-more, going-turned}
use Rattle.walking.proofs.NodeLaws.{walk-short, node-field, node-42, node-plain, node-64, node-66, node-45, as-target}
use Rattle.walking.proofs.LeafLaws.{node-leaf, node-name}
use Rattle.walking.specs.Walking.{NameIs}
use Rattle.walking.proofs.ExpressionLaws.{tells-as, pass-second, pass-first, member-ident, member-other, member-used, member-turned}
use Rattle.walking.proofs.CallWalkLaws.{call-second, call-plain, call-turned, call-required}
use Rattle.walking.proofs.DeclaratorLaws.{behind-over, behind-plain, behind-turned, behind-required, declared-over, declared-then, declared-turned}
use Rattle.walking.proofs.+call_chain_declarator_initialiser_member_node_part_parts_pattern_walk.Goals as goal

pub call-returns-then-is_second : goal.call-returns-then-is_second
call-returns-then-is_second t c =
    let p = c.args.part.now in
    call-second c.args.object p.bytes.now p.of_bytes p.at p.stop p.whole.0 c.requires
    (pass-second c.is_second.ensures c.if-is_second.true) c.node.ensures

pub call-returns-in_default : goal.call-returns-in_default
call-returns-in_default t c =
    let p = c.args.part.now in
    call-plain c.args.object p.bytes.now p.of_bytes p.at p.stop p.whole.0 c.requires
    (pass-first c.is_second.ensures c.if-is_second.false) c.required_at.ensures c.in_default.is c.node-in_default.ensures

pub call-returns : goal.call-returns
call-returns t c =
    let p = c.args.part.now in
    call-required c.args.object p.bytes.now p.of_bytes p.at p.stop p.whole.0 c.requires
    (pass-first c.is_second.ensures c.if-is_second.false) c.in-Some.literal c.required_at.ensures c.in-Some.is
    (steps-is c.node-2.ensures c.in_ok-p.was) c.require.ensures

pub call-returns-in_err-p : goal.call-returns-in_err-p
call-returns-in_err-p t c =
    let p = c.args.part.now in
    let h : c.from_residual.result ≡ Err c.in_err-p.field-0.0 = search rules in
    rw h
    (call-turned c.args.object p.bytes.now p.of_bytes p.at p.stop p.whole.0 c.requires
    (pass-first c.is_second.ensures c.if-is_second.false) (steps-is c.node-2.ensures c.in_err-p.was))

pub chain-returns-then-is_name : goal.chain-returns-then-is_name
chain-returns-then-is_name t c =
    let p = c.args.part.now in
    node-name p.bytes.now p.of_bytes p.at p.stop p.whole.0
    (subst (NameIs p.bytes.now p.at) c.if-is_name.true c.is_name.ensures) c.copy.ensures

pub chain-returns : goal.chain-returns
chain-returns t c =
    c.node.ensures

pub declarator-returns : goal.declarator-returns
declarator-returns t c =
    let p = c.args.part.now in
    node-42 c.args.object p.bytes.now p.at p.stop p.whole.0 p.whole.1 c.requires c.pattern-r.result c.begin_field-content.ensures
    c.pattern-r.ensures c.end_field.ensures

pub initialiser-returns-in_default : goal.initialiser-returns-in_default
initialiser-returns-in_default t c =
    let r = c.args.rest in
    λ q. behind-over c.args.object r.bytes.now r.of_bytes r.at r.end c.args.at c.args.pattern r.inside.0 q c.in_default.ensures.steps.0

pub initialiser-walk-requires : goal.initialiser-walk-requires
initialiser-walk-requires t c =
    let g = c.in-Some.ensures.steps in
    let i = extent-upto c.args.rest.bytes.now c.args.rest.at c.args.rest.end c.args.rest.inside.0 g.0 in
    let a = g.1 in omega arith

pub initialiser-returns-in_default-required_at : goal.initialiser-returns-in_default-required_at
initialiser-returns-in_default-required_at t c =
    let r = c.args.rest in
    let g = c.in-Some.ensures.steps in
    λ q. behind-plain c.args.object r.bytes.now r.of_bytes r.at r.end c.args.at c.args.pattern r.inside.0 q c.in-Some.part.stop g.0
    (rw (g.5, g.1) at c.required_at.ensures) c.in_default-required_at.is (rw (g.5, g.1) at c.walk.ensures)

pub initialiser-walk-requires-2 : goal.initialiser-walk-requires-2
initialiser-walk-requires-2 t c =
    let g = c.in-Some.ensures.steps in
    let i = extent-upto c.args.rest.bytes.now c.args.rest.at c.args.rest.end c.args.rest.inside.0 g.0 in
    let a = g.1 in omega arith

pub initialiser-returns : goal.initialiser-returns
initialiser-returns t c =
    let r = c.args.rest in
    let g = c.in-Some.ensures.steps in
    λ q. behind-required c.args.object r.bytes.now r.of_bytes r.at r.end c.args.at c.args.pattern r.inside.0 q c.in-Some.part.stop g.0
    c.in-Some-required_at.literal (rw (g.5, g.1) at c.required_at.ensures) c.in-Some-required_at.is
    (steps-is (rw (g.5, g.1) at c.walk-2.ensures) c.in_ok-p.was) (c.require_lazily.ensures q)

pub initialiser-returns-in_err-p : goal.initialiser-returns-in_err-p
initialiser-returns-in_err-p t c =
    let h : c.from_residual.result ≡ Err c.in_err-p.field-0.0 = search rules in
    let r = c.args.rest in
    let g = c.in-Some.ensures.steps in
    rw h
    (λ q. behind-turned c.args.object r.bytes.now r.of_bytes r.at r.end c.args.at c.args.pattern r.inside.0 q c.in-Some.part.stop g.0
    (steps-is (rw (g.5, g.1) at c.walk-2.ensures) c.in_err-p.was))

pub member-returns-then-is_name : goal.member-returns-then-is_name
member-returns-then-is_name t c =
    c.name.ensures c.args.object

pub member-returns-in-Some : goal.member-returns-in-Some
member-returns-in-Some t c =
    let p = c.args.part.now in
    member-ident p.bytes.now p.at p.stop c.args.object c.in-Some.id (pass-second c.is_second.ensures c.if-is_second.true)
    (tells-as c.ident_after.ensures (ap ident_by c.in-Some.is)) c.put_ident.ensures

pub member-returns-in-None : goal.member-returns-in-None
member-returns-in-None t c =
    let p = c.args.part.now in
    member-other c.args.object p.bytes.now p.at p.stop p.whole.0 c.requires (pass-second c.is_second.ensures c.if-is_second.true)
    (tells-as c.ident_after.ensures (ap ident_by c.in-None.is)) (as-target c.chain.ensures)

pub member-returns : goal.member-returns
member-returns t c =
    let p = c.args.part.now in
    member-used c.args.object p.bytes.now p.at p.stop p.whole.0 c.requires (pass-first c.is_second.ensures c.if-is_second.false)
    (steps-is (as-target c.chain-2.ensures) c.in_ok-p.was) (effects-fine c.usage.ensures c.in_ok-usage.was)

pub member-returns-in_err-usage : goal.member-returns-in_err-usage
member-returns-in_err-usage t c =
    let p = c.args.part.now in
    let h : c.from_residual-in_err-usage.result ≡ Err c.in_err-usage.field-0.0 = search rules in
    rw h
    (member-used c.args.object p.bytes.now p.at p.stop p.whole.0 c.requires (pass-first c.is_second.ensures c.if-is_second.false)
    (steps-is (as-target c.chain-2.ensures) c.in_ok-p.was) (effects-turned c.usage.ensures c.in_err-usage.was))

pub member-returns-in_err-p : goal.member-returns-in_err-p
member-returns-in_err-p t c =
    let p = c.args.part.now in
    let h : c.from_residual.result ≡ Err c.in_err-p.field-0.0 = search rules in
    rw h
    (member-turned c.args.object p.bytes.now p.at p.stop p.whole.0 c.requires (pass-first c.is_second.ensures c.if-is_second.false)
    (steps-is (as-target c.chain-2.ensures) c.in_err-p.was))

pub node-returns-in_default : goal.node-returns-in_default
node-returns-in_default t c =
    walk-short _ _ (sym c.fixed.ensures ∙ c.in_default.is)

pub node-returns-then-from-part : goal.node-returns-then-from-part
node-returns-then-from-part t c =
    let p = c.args.part.now in
    node-leaf c.args.way p.bytes.now p.of_bytes p.at c.in-Some.from p.stop
    (sym c.fixed.ensures ∙ c.in-Some.is) c.if-from-part.true c.copy.ensures

pub node-begin_field-content-requires : goal.node-begin_field-content-requires
node-begin_field-content-requires t c =
    let p = c.args.part.now in
    let i = upto-in p.bytes.now (get_or p.bytes.now p.at 0) (p.at + 3) p.stop p.whole.0
    (sym c.fixed.ensures ∙ c.in-Some.is) in omega arith

pub node-parts-r-requires : goal.node-parts-r-requires
node-parts-r-requires t c =
    let p = c.args.part.now in
    let i = upto-in p.bytes.now (get_or p.bytes.now p.at 0) (p.at + 3) p.stop p.whole.0
    (sym c.fixed.ensures ∙ c.in-Some.is) in
    let a = c.row.ensures.1 in
    let e = c.row.ensures.2 in omega arith

pub node-row-requires : goal.node-row-requires
node-row-requires t c =
    let p = c.args.part.now in
    let i = upto-in p.bytes.now (get_or p.bytes.now p.at 0) (p.at + 3) p.stop p.whole.0
    (sym c.fixed.ensures ∙ c.in-Some.is) in
    omega arith

pub node-returns : goal.node-returns
node-returns t c =
    let p = c.args.part.now in
    node-field p.bytes.now p.at c.in-Some.from p.stop p.whole.0 p.whole.1 (sym c.fixed.ensures ∙ c.in-Some.is)
    c.args.way c.parts-r.result c.begin_field-content.ensures (rw (c.row.ensures.0, c.row.ensures.1, c.row.ensures.2) at c.parts-r.ensures)
    c.end_field.ensures

pub part-returns-in-Children : goal.part-returns-in-Children
part-returns-in-Children t c =
    first-child c.in-Children.is c.walk.ensures

pub part-returns-in-Member : goal.part-returns-in-Member
part-returns-in-Member t c =
    first-member c.in-Member.is c.walk-in-Member.ensures

pub part-returns-in-Assignment : goal.part-returns-in-Assignment
part-returns-in-Assignment t c =
    first-target c.in-Assignment.is (as-target c.chain.ensures)

pub parts-loop-field-init : goal.parts-loop-field-init
parts-loop-field-init t c =
    rw c.into_iter-field-iterator.ensures.into_iter_gives
    (c.args.row.at, left-start c.args.row (refl, refl, refl), going-start c.args.row.inside.0)

pub parts-returns : goal.parts-returns
parts-returns t c =
    let l = c.loop-field.invariant in
    going-over c.args.row.of_bytes l.2 (part-none l.1 c.next.new.self c.in-None.ensures.steps)

pub parts-part-requires : goal.parts-part-requires
parts-part-requires t c =
    let l = c.loop-field.invariant in
    let g = c.in-Some.ensures.steps in
    let i = extent-upto c.args.row.bytes.now l.0 c.args.row.end l.2.inside (part-extent l.1 c.next.new.self c.in-Some.field g) in
    let b = part-at l.1 c.next.new.self c.in-Some.field g in
    let a = l.2.after in
    omega arith

pub parts-loop-field-preserved : goal.parts-loop-field-preserved
parts-loop-field-preserved t c =
    let l = c.loop-field.invariant in
    let g = c.in-Some.ensures.steps in (
      c.in-Some.field.stop,
      part-left l.1 c.next.new.self c.in-Some.field g,
      going-more c.args.row.of_bytes l.2 (part-extent l.1 c.next.new.self c.in-Some.field g)
          (rw (part-bytes l.1 c.next.new.self c.in-Some.field g, part-at l.1 c.next.new.self c.in-Some.field g) at c.part.ensures) c.in_ok-to.was c.others.ensures,
    )

pub parts-returns-in_err-to : goal.parts-returns-in_err-to
parts-returns-in_err-to t c =
    let h : c.from_residual.result ≡ Err c.in_err-to.field-0.0 = search rules in
    let l = c.loop-field.invariant in
    let g = c.in-Some.ensures.steps in
    rw h
    (going-turned c.args.row.of_bytes l.2 (part-extent l.1 c.next.new.self c.in-Some.field g)
    (rw (part-bytes l.1 c.next.new.self c.in-Some.field g, part-at l.1 c.next.new.self c.in-Some.field g) at c.part.ensures) c.in_err-to.was)

pub pattern-returns-in_default : goal.pattern-returns-in_default
pattern-returns-in_default t c =
    let p = c.args.part.now in
    declared-over c.args.object p.bytes.now p.of_bytes (p.at + 3) p.stop p.at p.whole.0
    (part-none (left-start c.row-parts.result c.row-parts.ensures) c.next.new.self c.in_default.ensures.steps)

pub pattern-walk-requires : goal.pattern-walk-requires
pattern-walk-requires t c =
    let p = c.args.part.now in
    let l = left-start c.row-parts.result c.row-parts.ensures in
    let g = c.in-Some.ensures.steps in
    let i = extent-upto p.bytes.now (p.at + 3) p.stop p.whole.0 (part-extent l c.next.new.self c.in-Some.first g) in
    let a = part-at l c.next.new.self c.in-Some.first g in
    omega arith

pub pattern-initialiser-requires : goal.pattern-initialiser-requires
pattern-initialiser-requires t c =
    let p = c.args.part.now in
    let l = left-start c.row-parts.result c.row-parts.ensures in
    let g = c.in-Some.ensures.steps in
    let i = extent-upto p.bytes.now (p.at + 3) p.stop p.whole.0 (part-extent l c.next.new.self c.in-Some.first g) in
    let a = g.3 in
    let e = g.4 in
    let f = c.row-parts.ensures.2 in
    omega arith

pub pattern-returns : goal.pattern-returns
pattern-returns t c =
    let p = c.args.part.now in
    let m = c.row-parts.ensures in
    let g = c.in-Some.ensures.steps in
    declared-then c.args.object p.bytes.now p.of_bytes (p.at + 3) p.stop p.at p.whole.0
    c.in-Some.first.stop (part-extent (left-start c.row-parts.result m) c.next.new.self c.in-Some.first g) (omega arith)
    (steps-is (rw (g.5 ∙ m.0, g.1 ∙ m.1) at c.walk.ensures) c.in_ok-p.was)
    (rw (g.2 ∙ m.0, g.3, g.4 ∙ m.2, g.1 ∙ m.1) at c.initialiser.ensures)

pub pattern-returns-in_err-p : goal.pattern-returns-in_err-p
pattern-returns-in_err-p t c =
    let h : c.from_residual.result ≡ Err c.in_err-p.field-0.0 = search rules in
    let p = c.args.part.now in
    let m = c.row-parts.ensures in
    let g = c.in-Some.ensures.steps in
    rw h
    (declared-turned c.args.object p.bytes.now p.of_bytes (p.at + 3) p.stop p.at p.whole.0
    c.in-Some.first.stop (part-extent (left-start c.row-parts.result m) c.next.new.self c.in-Some.first g)
    (steps-is (rw (g.5 ∙ m.0, g.1 ∙ m.1) at c.walk.ensures) c.in_err-p.was))

pub walk-returns-in-35 : goal.walk-returns-in-35
walk-returns-in-35 t c =
    c.exported.ensures c.args.object

pub walk-returns-in-66 : goal.walk-returns-in-66
walk-returns-in-66 t c =
    c.declarator.ensures

pub walk-returns-in-69 : goal.walk-returns-in-69
walk-returns-in-69 t c =
    let p = c.args.part.now in
    node-45 c.args.object p.bytes.now p.at p.stop (sym c.tag.ensures ∙ c.in-69.is) c.set_top.ensures c.node.ensures

pub walk-returns-in-96 : goal.walk-returns-in-96
walk-returns-in-96 t c =
    c.ident.ensures

pub walk-returns-in-99 : goal.walk-returns-in-99
walk-returns-in-99 t c =
    c.member.ensures

pub walk-returns-in-100 : goal.walk-returns-in-100
walk-returns-in-100 t c =
    let p = c.args.part.now in
    node-64 c.args.object p.bytes.now p.at p.stop (sym c.tag.ensures ∙ c.in-100.is) c.node-in-100.ensures

pub walk-returns-in-101 : goal.walk-returns-in-101
walk-returns-in-101 t c =
    c.call.ensures

pub walk-returns-in-102 : goal.walk-returns-in-102
walk-returns-in-102 t c =
    let p = c.args.part.now in
    node-66 c.args.object p.bytes.now p.at p.stop (sym c.tag.ensures ∙ c.in-102.is) c.node-in-102.ensures

pub walk-returns-in-64-to-72 : goal.walk-returns-in-64-to-72
walk-returns-in-64-to-72 t c =
    let p = c.args.part.now in
    node-plain c.args.object p.bytes.now p.at p.stop (search rules) (search rules) (search rules) (search rules) (search rules) (search rules) (search rules) (search rules)
    c.node-in-64-to-72.ensures
