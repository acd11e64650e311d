-- `hint_modules`: the invariant says that the files of the first i modules have hints, and that no cell but those of hints changed
-- (`HintsModules`).
use Rattle.state.specs.Does.{HintsModules}
use Rattle.state.proofs.Tables.hint_modules.Given as goal

abbrev pub invariant-loop-i : goal.invariant-loop-i
invariant-loop-i l = HintsModules l.i l.initial.self.cells l.self.cells
