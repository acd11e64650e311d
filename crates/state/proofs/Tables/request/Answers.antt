-- `request`: the row that the search gives is the number of the file (`request-known`); without one and with room the row that is pushed is
-- the new module (`request-new`), without room the rule refuses with 5 (`request-full`).
use native.Mathlib.Omega.{arith}
use mathlib.Core.Path.{refl, sym, ap}
use Rattle.state.specs.Cells.{modules}
use Rattle.state.proofs.ListLaws.{first-below}
use Rattle.state.proofs.FrameLaws.{room-for}
use Rattle.state.proofs.ModulesLaws.{request-known, request-new, request-full}
use lib.ListN.{length}
use Rattle.state.proofs.ChangeLaws.{module-added, entered}
use Rattle.state.proofs.Tables.request.Goals as goal

pub overflow_cast-result : goal.overflow_cast-result
overflow_cast-result c =
    let i = first-below _ _ _ _ (sym c.in-Some.ensures) in let r = room-for modules c.args.self.now.good in omega arith

pub push-requires : goal.push-requires
push-requires c =
    (c.hint_module.new.self.good.lies modules, let x = ap length (c.hint_module.ensures.0.same_rows modules) in omega arith)

pub invariant_of-self : goal.invariant_of-self
invariant_of-self c =
    record {
      good =
          module-added c.args.self.now.good c.hint_module.new.self.good c.hint_module.ensures.0 (omega arith) (omega arith)
          (let h = c.hint_module.ensures.2 in omega arith) c.push.ensures.0 c.push.ensures.1;
    }

pub returns-in-Some : goal.returns-in-Some
returns-in-Some c =
    request-known c.args.file.0 c.args.self.now.good _ refl c.in-Some.ensures

pub returns-then-n : goal.returns-then-n
returns-then-n c =
    request-new c.args.file.0 c.args.self.now.good _ c.count_of-n.ensures.0 (omega arith)
    c.in_default.ensures (omega arith)
    (entered modules (c.args.file.0, 0) c.hint_module.new.self.good c.hint_module.ensures.0 c.push.ensures.0 c.push.ensures.1)

pub returns-else-n : goal.returns-else-n
returns-else-n c =
    request-full c.args.file.0 c.args.self.now.good c.in_default.ensures (omega arith)
