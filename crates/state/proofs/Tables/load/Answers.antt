-- `load`: with the count 0 there is no module, so that `to_cells` and the hints leave the array good (`loading-good`). `to_cells` writes only
-- cells of the modules' table, so with the count stored the array shows these modules and all else as before (`modules-loaded`).
use Rattle.state.proofs.ModulesLaws.{loading-good, loaded-good, modules-loaded}
use Rattle.state.proofs.Tables.load.Goals as goal

pub invariant_of-self : goal.invariant_of-self
invariant_of-self c =
    record { good = loading-good c.args.self.now.good c.to_cells-n.ensures.3 }

pub invariant_of-self-2 : goal.invariant_of-self-2
invariant_of-self-2 c =
    record {
      good = loaded-good c.args.self.now.good c.to_cells-n.ensures.3 c.hint_modules.new.self.good c.to_cells-n.ensures.1 c.hint_modules.ensures c.to_cells-n.ensures.4;
    }

pub returns : goal.returns
returns c =
    modules-loaded c.args.self.now.good c.to_cells-n.ensures.3 c.hint_modules.new.self.good c.to_cells-n.ensures.1 c.hint_modules.ensures c.to_cells-n.ensures.2
